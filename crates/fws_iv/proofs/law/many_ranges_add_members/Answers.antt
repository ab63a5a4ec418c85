use Rattle.std.specs.Prelude.{[]}
use Rattle.fws_iv.proofs.WithRange.{with_ranges-regular, with_ranges-members}
use Rattle.fws_iv.proofs.law.many_ranges_add_members.Goals as goal

pub returns : goal.returns
returns c = λ ranges order. (with_ranges-regular [] ranges order tt, with_ranges-members [] ranges order tt)
