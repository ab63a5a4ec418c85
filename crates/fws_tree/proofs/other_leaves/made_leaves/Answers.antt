use Rattle.std.proofs.Common.{get_or, slice_get, sym, ◌∙◌, ap, subst}
use Rattle.fws_tree.specs.Building.{AreDifferent}
use Rattle.fws_tree.proofs.other_leaves.made_leaves.Goals as goal

pub returns-clause-different : goal.returns-clause-different
returns-clause-different g c = subst AreDifferent (sym c.in_ok-leaves.ensures) c.in_ok-places.ensures.different

pub returns-clause-places : goal.returns-clause-places
returns-clause-places g c = λ n a at. ap (λ ms. slice_get ms (get_or c.in_ok-places.places.items n 0)) c.in_ok-leaves.ensures ∙ c.in_ok-places.ensures.places n a at
