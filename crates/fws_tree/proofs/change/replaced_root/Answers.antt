use Rattle.std.proofs.Common.{◌∙◌, ap}
use Rattle.std.proofs.lemmas.Result.{IfOk-weaker}
use Rattle.fws_box.specs.Sides.{sides_have}
use Rattle.fws_tree.specs.Changed.{changed_value}
use Rattle.fws_tree.proofs.change.replaced_root.Goals as goal

pub returns-clause-held : goal.returns-clause-held
returns-clause-held g c = IfOk-weaker c.replaced_cell.result _ _ (λ r is p w. let z = c.in_ok-root.ensures.loaded p w in
    (z.0, z.1, z.2, is p w ∙ ap (changed_value c.args.by.marked (sides_have c.args.sides.now p) c.args.by.value) z.3)) c.replaced_cell.ensures.held
