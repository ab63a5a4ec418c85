use Rattle.fws_iv.proofs.SameMembers.{ivs_same}
use Rattle.fws_iv.proofs.law.same_members_same_list.Goals as goal

pub returns : goal.returns
returns c = λ s t first second same. ivs_same 0 0 s t first second same
