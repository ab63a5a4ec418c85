use Rattle.std.proofs.Common.{slice_get, sym, ◌∙◌, ap, subst}
use Rattle.fws_tree.specs.Building.{AreDifferent, AreNumbersOf}
use Rattle.fws_tree.proofs.numbers.number_leaves.Goals as goal

pub returns-clause-different : goal.returns-clause-different
returns-clause-different g c = subst AreDifferent (sym c.in_ok-leaves.ensures) c.in_ok-numbers.ensures.different

pub returns-clause-numbers : goal.returns-clause-numbers
returns-clause-numbers g c = subst (λ ls. AreNumbersOf ls c.in_ok-numbers.numbers.items c.args.rows.now) (sym c.in_ok-leaves.ensures) c.in_ok-numbers.ensures.numbers

pub returns-clause-rest : goal.returns-clause-rest
returns-clause-rest g c = ap (λ ls. slice_get ls c.in_ok-numbers.rest) c.in_ok-leaves.ensures ∙ c.in_ok-numbers.ensures.rest
