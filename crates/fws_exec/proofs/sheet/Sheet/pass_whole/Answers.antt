use Rattle.std.proofs.Common.{◌≡◌, ◌<◌, false, get_or, length, slice_get, Some, sym, ◌∙◌, ap, subst}
use Rattle.std.proofs.lemmas.Option.{same_Some, slice_get-get_or, slice_get_within}
use Rattle.fws_exec.specs.declared.roll.Roll.{Roll}
use Rattle.fws_exec.specs.declared.spot.Spot.TheVariants.{At}
use Rattle.fws_exec.specs.Classes.{is_unused}
use Rattle.fws_exec.specs.Goings.{Goes}
use Rattle.fws_exec.specs.Sheets.{IsUsed}
use Rattle.fws_exec.proofs.Coursing.{course_obeys, part_jumps, part_within}
use Rattle.fws_exec.proofs.Passed.{pointless_kept, put_sheet, whole_kept}
use Rattle.fws_exec.proofs.Sent.{stands_at}
use Rattle.fws_exec.proofs.sheet.Sheet.pass_whole.Goals as goal

pub returns-clause-sheet : goal.returns-clause-sheet
returns-clause-sheet c = put_sheet c.args.number c.in_ok-class.class c.note_whole.new.self c.put-2.new.self c.in_ok-class.ensures.used c.put-2.ensures.same (ap (λ v. v.items) c.put-2.ensures.hulls) c.in_ok-put-2.ensures.put c.in_ok-note_whole.ensures.sheet

pub returns-clause-kept : goal.returns-clause-kept
returns-clause-kept c =
    let got = slice_get-get_or c.args.errand.now.code.now c.args.place c.index-errand-place.result (part_within c.args.errand.now.code.now c.args.errand.now.part c.args.place c.requires.part c.requires.high) in
    let here = stands_at (At c.args.place) c.args.self.now.roll.classes.items c.args.number (sym c.stands.ensures ∙ c.if-not-stands.false) in
    let gone = c.in_ok-class.ensures.gone in
    let used : IsUsed c.args.self.now.roll.classes.items c.args.number gone.0 = subst (λ (r : Roll). IsUsed r.classes.items c.args.number gone.0) c.note_whole.ensures.roll gone.1 in
    whole_kept c.args.errand.now c.args.place (get_or c.args.errand.now.code.now c.args.place c.index-errand-place.result) c.args.number gone.0 c.in_ok-class.class c.args.self.now c.note_whole.new.self c.put-2.new.self c.requires.sheet c.requires.tops
    c.note_whole.ensures.same (ap (λ (r : Roll). r.classes.items) c.note_whole.ensures.roll) used
    (ap (λ k. k.spot) (same_Some gone.0 (record { spot = At c.args.place; progress = here.0 }) (sym used.0 ∙ here.1)))
    (subst (λ g. Goes g 1 gone.0.progress c.in_ok-class.class) c.going.ensures gone.2)
    c.in_ok-put-2.ensures.put c.put-2.ensures.same (ap (λ v. v.items) c.put-2.ensures.reached)
    (λ p. c.requires.held (get_or c.args.errand.now.code.now c.args.place c.index-errand-place.result) gone.0 p got used.0)
    (λ aim p. course_obeys c.args.errand.now aim p c.args.place (get_or c.args.errand.now.code.now c.args.place c.index-errand-place.result) c.requires.high got (part_jumps c.args.errand.now.code.now c.args.errand.now.part c.args.place (get_or c.args.errand.now.code.now c.args.place c.index-errand-place.result) c.requires.part c.requires.low c.requires.high got))
    c.in_ok-note_whole.ensures.noted

pub returns-then-is_sought-clause-sheet : goal.returns-then-is_sought-clause-sheet
returns-then-is_sought-clause-sheet c = put_sheet c.args.number c.standing.result c.note_whole.new.self c.put.new.self (ap (λ k. is_unused k.spot) c.standing.ensures) c.put.ensures.same (ap (λ v. v.items) c.put.ensures.hulls) c.in_ok-put.ensures.put c.in_ok-note_whole.ensures.sheet

pub returns-then-is_sought-clause-kept : goal.returns-then-is_sought-clause-kept
returns-then-is_sought-clause-kept c =
    pointless_kept c.args.errand.now c.args.place c.args.number c.standing.result c.args.self.now c.note_whole.new.self c.put.new.self c.requires.sheet c.requires.tops
    c.note_whole.ensures.same (ap (λ (r : Roll). r.classes.items) c.note_whole.ensures.roll) c.in_ok-put.ensures.put c.put.ensures.same (ap (λ v. v.items) c.put.ensures.reached) c.in_ok-note_whole.ensures.noted
    (subst (λ xs. slice_get xs c.args.place ≡ Some false) c.as_slice.ensures.value (c.is_sought.ensures.sought c.if-is_sought.true))

pub put-requires-2 : goal.put-requires-2
put-requires-2 c =
    let here = stands_at (At c.args.place) c.args.self.now.roll.classes.items c.args.number (sym c.stands.ensures ∙ c.if-not-stands.false) in
    subst (λ (r : Roll). c.args.number < length r.classes.items) (sym c.note_whole.ensures.roll) (slice_get_within c.args.self.now.roll.classes.items c.args.number (record { spot = At c.args.place; progress = here.0 }) here.1)
