use Rattle.std.proofs.Common.{◌<◌, ◌≡◌, [], length, map, cond, get_or, refl, ◌∙◌, ap, arith}
use Rattle.std.proofs.lemmas.List.{length-map}
use Rattle.std.proofs.lemmas.Result.{IfOk-weaker}
use Rattle.fws_iv.specs.Ivs.{has}
use Rattle.fws_tree.proofs.Cells.{extends-trans}
use Rattle.fws_tree.proofs.Marking.{mark_held}
use Rattle.fws_tree.proofs.halves.+mark_cell.Goals as goal

pub returns-in_err-off-clause-extends : goal.returns-in_err-off-clause-extends
returns-in_err-off-clause-extends t c = extends-trans _ _ _ c.mark_cell.ensures.extends c.intern-2.ensures.extends

pub returns-in_err-cuts-clause-extends : goal.returns-in_err-cuts-clause-extends
returns-in_err-cuts-clause-extends t c = extends-trans _ _ _ c.mark_cell.ensures.extends c.intern-2.ensures.extends

pub returns-clause-extends : goal.returns-clause-extends
returns-clause-extends t c = extends-trans _ _ _ c.mark_cell.ensures.extends (extends-trans _ _ _ c.intern-2.ensures.extends c.cut.ensures.extends)

pub returns-clause-held : goal.returns-clause-held
returns-clause-held t c = IfOk-weaker c.cut.result _ _ (λ r e p w.
    let lf : c.args.field < 12 = omega arith in
    let sides = map (λ s. s.now) c.args.sides.now in
    let twelve : length sides ≡ 12 = length-map c.args.sides.now _ ∙ c.requires.sides in
    mark_held c.mark_cell.new.store c.intern-2.new.self c.cut.new.self c.args.tops.now p sides [] c.args.field (get_or c.args.tops.now c.args.field 0) c.in_ok-on.on c.in_ok-off.off
    c.in_ok-cuts.cuts.last r c.args.label c.in_ok-cuts.cuts.steps.items w c.requires.tops twelve lf refl c.intern-2.ensures.extends c.in_ok-on.ensures.inside
    (c.in_ok-on.ensures.held p w) (c.in_ok-off.ensures.held p)
    (λ x le. c.in_ok-cuts.ensures.same x le ∙ ap (λ s. cond (has s x) c.in_ok-on.on c.in_ok-off.off) c.side_at.ensures.side) (e p)) c.cut.ensures.held
