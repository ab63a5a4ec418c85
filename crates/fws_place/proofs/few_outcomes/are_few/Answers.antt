use Rattle.std.proofs.Common.{length}
use Rattle.std.proofs.lemmas.Bool.{leb-true}
use Rattle.fws_place.proofs.Counting.{few_leaves}
use Rattle.fws_place.proofs.few_outcomes.are_few.Goals as goal

pub returns : goal.returns
returns c = λ yes.
    few_leaves 60000 c.args.tree.now.0 c.args.tree.now.1 c.shared.result.leaves.now c.shared.result.nodes.now c.shared.ensures (leb-true (length c.shared.result.leaves.now) 60000 yes)
