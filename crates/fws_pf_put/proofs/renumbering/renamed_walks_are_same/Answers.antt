use Rattle.fws_pf_put.proofs.SameWalks.{same_walk}
use Rattle.fws_pf_put.proofs.renumbering.renamed_walks_are_same.Goals as goal

pub returns : goal.returns
returns c = λ f names config apart site p k. same_walk f apart names config site p k
