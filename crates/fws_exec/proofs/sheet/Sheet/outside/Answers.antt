use Rattle.std.proofs.Common.{sym, ◌∙◌, ap, subst}
use Rattle.fws_box.specs.Sides.{IsWithin}
use Rattle.fws_exec.specs.Classes.{is_unused}
use Rattle.fws_exec.proofs.Valued.{whole_sheet}
use Rattle.fws_exec.proofs.sheet.Sheet.outside.Goals as goal

pub returns-clause-sheet : goal.returns-clause-sheet
returns-clause-sheet c =
    whole_sheet (record { canvas = c.add_value.new.self; roll = c.in_ok-roll.roll; hulls = c.in_ok-hulls.hulls; reached = c.in_ok-reached.reached }) c.standing-class.result c.of_tops.result (ap (λ k. is_unused k.spot) c.standing-class.ensures) c.in_ok-roll.ensures c.in_ok-hulls.ensures
    (λ p. c.add_value.ensures.value p ∙ c.in_ok-canvas.ensures.value p)
    (λ p w. c.of_tops.ensures p (subst (λ ts. IsWithin ts p) (c.add_value.ensures.tops ∙ c.in_ok-canvas.ensures.tops ∙ c.tops-2.ensures ∙ sym c.tops.ensures) w))
