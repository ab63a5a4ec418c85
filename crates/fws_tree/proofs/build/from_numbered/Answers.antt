use Rattle.std.proofs.Common.{ℕ, List, ◌∷◌, length, refl, sym, ◌∙◌, ap, subst}
use Rattle.std.proofs.lemmas.Option.{slice_get_within}
use Rattle.std.proofs.lemmas.Result.{IfOk-weaker}
use Rattle.std.specs.List.{range_with_len}
use Rattle.fws_tree.specs.Building.{AreDifferent}
use Rattle.fws_tree.specs.Marks.{mark_at}
use Rattle.fws_tree.proofs.LeafNumbers.{length-numbers}
use Rattle.fws_tree.proofs.Marking.{leaf_at_place}
use Rattle.fws_tree.proofs.build.from_numbered.Goals as goal

pub marks_of_rows-requires : goal.marks_of_rows-requires
marks_of_rows-requires g c = ap (λ (xs : List ℕ). length xs) c.as_slice.ensures.value
    ∙ length-numbers c.args.numbered.now.leaves c.args.numbered.now.numbers.items c.args.rows.now c.requires.numbers

pub from_marks-requires-clause-different : goal.from_marks-requires-clause-different
from_marks-requires-clause-different g c = subst AreDifferent (sym c.as_slice-3.ensures) c.requires.different

pub from_marks-requires-clause-places : goal.from_marks-requires-clause-places
from_marks-requires-clause-places g c = λ p w.
    let places : List ℕ = c.args.numbered.now.rest ∷ range_with_len 0 (length c.as_slice-3.result.now) in
    slice_get_within _ _ _ (leaf_at_place c.as_slice-3.result.now c.args.numbered.now.leaves c.args.rows.now c.in_ok-marks.marks.items c.as_slice-2.result.now c.args.numbered.now.numbers.items c.as_slice.result.now places places
    c.args.numbered.now.rest (mark_at c.as_slice-2.result.now 0 p) c.requires.rest.0 p c.as_slice-3.ensures c.requires.numbers c.as_slice.ensures.value c.in_ok-marks.ensures.sides c.in_ok-marks.ensures.labels
    c.as_slice-2.ensures.value c.requires.rest.1 refl refl refl)

pub returns-clause-value : goal.returns-clause-value
returns-clause-value g c = IfOk-weaker c.from_marks.result _ _ (λ t is p x w at.
    let places : List ℕ = c.args.numbered.now.rest ∷ range_with_len 0 (length c.as_slice-3.result.now) in
    is p w ∙ leaf_at_place c.as_slice-3.result.now c.args.numbered.now.leaves c.args.rows.now c.in_ok-marks.marks.items c.as_slice-2.result.now c.args.numbered.now.numbers.items c.as_slice.result.now places places
    c.args.numbered.now.rest (mark_at c.as_slice-2.result.now 0 p) x p c.as_slice-3.ensures c.requires.numbers c.as_slice.ensures.value c.in_ok-marks.ensures.sides c.in_ok-marks.ensures.labels
    c.as_slice-2.ensures.value at refl refl refl) c.from_marks.ensures.value
