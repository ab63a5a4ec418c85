use Rattle.std.proofs.Common.{length, sym, subst}
use Rattle.fws_tree.specs.Building.{AreDifferent}
use Rattle.fws_tree.specs.Paired.{AreLeavesOf}
use Rattle.fws_tree.proofs.pairing.pair_leaves.Goals as goal

pub returns-clause-different : goal.returns-clause-different
returns-clause-different g c = subst AreDifferent (sym c.in_ok-leaves.ensures) c.in_ok-places.ensures.different

pub returns-clause-places : goal.returns-clause-places
returns-clause-places g c = subst (λ ls. AreLeavesOf c.args.first.now c.args.second.now c.args.pairs.now ls c.in_ok-places.places.items (length c.args.pairs.now)) (sym c.in_ok-leaves.ensures) c.in_ok-places.ensures.places
