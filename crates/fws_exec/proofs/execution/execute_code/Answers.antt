use Rattle.std.proofs.lemmas.Option.{slice_get_within}
use Rattle.std.proofs.Common.{◌≡◌, ◌<◌, cond, Some, length, slice_get, sym, ◌∙◌, ap, subst}
use Rattle.std.proofs.lemmas.List.{length-map}
use Rattle.fws_box.specs.Sides.{IsWithin, sides_have}
use Rattle.fws_net.specs.declared.outcome.Outcome.TheVariants as outcomes
use Rattle.fws_exec.specs.Sheets.{class_at}
use Rattle.fws_exec.specs.Stages.{class_outcome}
use Rattle.fws_exec.proofs.Meaning.{outcome_meant}
use Rattle.fws_exec.proofs.execution.execute_code.Goals as goal

pub executed-requires-clause-ok : goal.executed-requires-clause-ok
executed-requires-clause-ok c = c.open_parts-parts.ensures.ok c.requires.ok

pub tree-requires : goal.tree-requires
tree-requires c p w =
    let all : length c.as_slice.result.now ≡ length c.in_ok-sheet.sheet.roll.classes.items =
    ap length c.as_slice.ensures.value ∙ ap length c.in_ok-leaves.ensures ∙ length-map c.in_ok-sheet.sheet.roll.classes.items (class_outcome c.args.state) in
    subst (λ n. class_at c.in_ok-sheet.sheet p < n) (sym all) (slice_get_within c.in_ok-sheet.sheet.roll.classes.items (class_at c.in_ok-sheet.sheet p) (c.in_ok-sheet.ensures.sheet.used p w).0 (c.in_ok-sheet.ensures.sheet.used p w).1.0)

pub returns-clause-value : goal.returns-clause-value
returns-clause-value c p w =
    let inside = subst (λ ts. IsWithin ts p) (sym c.in_ok-sheet.ensures.tops) w in
    c.in_ok-tree.ensures.value p inside
    ∙ ap (λ ls. slice_get ls (class_at c.in_ok-sheet.sheet p)) (c.as_slice.ensures.value ∙ c.in_ok-leaves.ensures)
    ∙ outcome_meant c.args.state c.in_ok-sheet.sheet.roll.classes.items (class_at c.in_ok-sheet.sheet p) p (slice_get_within c.in_ok-sheet.sheet.roll.classes.items (class_at c.in_ok-sheet.sheet p) (c.in_ok-sheet.ensures.sheet.used p inside).0 (c.in_ok-sheet.ensures.sheet.used p inside).1.0)
    ∙ ap (λ o. Some o) (c.in_ok-sheet.ensures.meant p w
    ∙ ap (λ m. cond (sides_have c.args.sides.now p) m outcomes.Drop) (c.open_parts-parts.ensures.means c.args.site.now p))
