use Rattle.std.proofs.Common.{sym, subst}
use Rattle.std.proofs.lemmas.Result.{IfOk-weaker}
use Rattle.fws_tree.specs.Plain.{value}
use Rattle.fws_box.specs.Sides.{IsWithin, sides_have}
use Rattle.fws_table.proofs.Asking.{changed}
use Rattle.fws_table.proofs.query_text.changed_tree.Goals as goal

pub returns-clause-value : goal.returns-clause-value
returns-clause-value c = IfOk-weaker c.restrict.result _ _ (λ u value_is p w. changed (sides_have c.args.ask.now.sides p) c.args.ask.now.verdict
    (value c.args.t.now.1 p) (value c.in_ok-asked.asked.1 p) (value u.1 p) (c.in_ok-asked.ensures.value p w)
    (value_is p (subst (λ tops. IsWithin tops p) (sym c.in_ok-asked.ensures.tops) w))) c.restrict.ensures.value
