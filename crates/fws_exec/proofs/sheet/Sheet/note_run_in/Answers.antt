use Rattle.std.proofs.Common.{◌≢◌, ◌≤◌, false, Some, slice_get, length, ◌∙◌, ap, subst, arith}
use Rattle.fws_box.specs.Boxes.{sides_of}
use Rattle.fws_box.specs.Sides.{sides_have, IsWithin}
use Rattle.fws_tree.specs.Marks.{mark_at}
use Rattle.fws_exec.specs.Classes.{kind_of}
use Rattle.fws_exec.specs.Divided.{says_from, seen_at, AreNoted}
use Rattle.fws_exec.specs.Runs.{numbered, run_of}
use Rattle.fws_exec.specs.Sheets.{among, class_at}
use Rattle.fws_exec.proofs.Alike.{group_numbered}
use Rattle.fws_exec.proofs.Coursing.{part_long}
use Rattle.fws_exec.proofs.Marking.{label_inside}
use Rattle.fws_exec.proofs.Moved.{noted_label}
use Rattle.fws_exec.proofs.Noted.{noted_known, said_within}
use Rattle.fws_exec.proofs.Running.{run_long}
use Rattle.fws_exec.proofs.sheet.Sheet.note_run_in.Goals as goal

pub returns-then-not-are_sought-clause-noted : goal.returns-then-not-are_sought-clause-noted
returns-then-not-are_sought-clause-noted c =
    let le : c.args.place ≤ c.args.past = (let lt = c.requires.later in omega arith) in
    let within : c.args.past ≤ length c.args.errand.now.code.now = part_long c.args.errand.now.code.now c.args.errand.now.part c.requires.part c.args.past c.requires.within in
    noted_known (says_from c.args.place) (among c.args.group.now.numbers.items) (λ g p. numbered 1 (seen_at c.args.errand.now.ground.site.now c.args.errand.now.ground.state c.args.errand.now.part g p) (run_of c.args.errand.now.code.now c.args.place c.args.past)) c.args.self.now
    (λ k g p said. (
    let range = said_within c.args.place c.args.past (run_of c.args.errand.now.code.now c.args.place c.args.past) (seen_at c.args.errand.now.ground.site.now c.args.errand.now.ground.state c.args.errand.now.part g p) k (run_long c.args.errand.now.code.now c.args.place c.args.past le within) said in
    subst (λ xs. slice_get xs k ≢ Some false) c.as_slice.ensures.value (c.are_sought.ensures c.if-not-are_sought.true k range.0 range.1)))

pub returns-clause-noted : goal.returns-clause-noted
returns-clause-noted c =
    noted_label (says_from c.args.place) (among c.args.group.now.numbers.items) (λ g p. mark_at c.in_ok-marks.marks.items 0 p) (λ g p. numbered 1 (seen_at c.args.errand.now.ground.site.now c.args.errand.now.ground.state c.args.errand.now.part g p) (run_of c.args.errand.now.code.now c.args.place c.args.past)) c.args.self.now c.note_run.new.self
    (λ p d w used a.
    let inside = subst (λ ts. IsWithin ts p) c.requires.tops w in
    c.in_ok-marks.ensures p inside
    ∙ label_inside (sides_have (sides_of c.args.area.now) p) (numbered 1 (seen_at c.args.errand.now.ground.site.now c.args.errand.now.ground.state c.args.errand.now.part c.in_ok-class.class.now.progress p) c.run_of-code.result.now) 0 (c.requires.covers p inside a)
    ∙ ap (λ xs. numbered 1 (seen_at c.args.errand.now.ground.site.now c.args.errand.now.ground.state c.args.errand.now.part c.in_ok-class.class.now.progress p) xs) c.run_of-code.ensures
    ∙ group_numbered c.requires.alike.0 c.args.self.now.roll.classes.items c.args.group.now 1 (run_of c.args.errand.now.code.now c.args.place c.args.past) c.requires.alike.2 c.requires.alike.1 c.requires.tagless c.args.first (class_at c.args.self.now p) c.in_ok-class.class.now d c.requires.first a c.in_ok-class.ensures used
    c.args.errand.now.ground.site.now (kind_of c.args.errand.now.ground.state p) c.args.errand.now.part p)
    (subst (λ ms. AreNoted (says_from c.args.place) (among c.args.group.now.numbers.items) (λ g p. mark_at ms 0 p) c.args.self.now c.note_run.new.self) c.as_slice-3.ensures.value
    (subst (λ ns. AreNoted (says_from c.args.place) (among ns) (λ g p. mark_at c.as_slice-3.result.now 0 p) c.args.self.now c.note_run.new.self) c.as_slice-2.ensures.value c.in_ok-note_run.ensures.noted))
