use Rattle.fws_iv.proofs.WithRange.{with_range-members}
use Rattle.fws_iv.proofs.law.ranges_add_members.Goals as goal

pub returns : goal.returns
returns c = λ lo hi s order regular. with_range-members 0 lo hi s order regular
