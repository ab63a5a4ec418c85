use Rattle.std.proofs.Common.{cond, ◌∙◌, ap, subst}
use Rattle.fws_box.specs.Boxes.{sides_of}
use Rattle.fws_box.specs.Sides.{sides_have, IsWithin}
use Rattle.fws_tree.specs.Marks.{mark_at}
use Rattle.fws_exec.specs.declared.roll.Roll.{Roll}
use Rattle.fws_exec.specs.Classes.{kind_of}
use Rattle.fws_exec.specs.Divided.{held, says_of, AreMoved, AreNoted}
use Rattle.fws_exec.specs.Moving.{IsGrown}
use Rattle.fws_exec.specs.Sheets.{among, class_at}
use Rattle.fws_exec.proofs.Alike.{group_holds}
use Rattle.fws_exec.proofs.Marking.{label_inside}
use Rattle.fws_exec.proofs.Moved.{moved_label, noted_label, noted_onwards}
use Rattle.fws_exec.proofs.Passed.{moved_from}
use Rattle.fws_exec.proofs.sheet.Sheet.divide_in.Goals as goal

pub returns-clause-moved : goal.returns-clause-moved
returns-clause-moved c =
    moved_label c.args.going (among c.args.group.now.numbers.items) (λ g p. mark_at c.in_ok-marks.marks.items 0 p) (held c.args.ground.now.site.now c.args.ground.now.state c.args.part c.args.cond.now) c.args.self.now c.move_by.new.self
    (λ p d w used a.
    let inside = subst (λ ts. IsWithin ts p) c.requires.tops w in
    c.in_ok-marks.ensures p inside
    ∙ label_inside (sides_have (sides_of c.args.area.now) p) (held c.args.ground.now.site.now c.args.ground.now.state c.args.part c.args.cond.now c.in_ok-class.class.now.progress p) 0 (c.requires.covers p inside a)
    ∙ ap (λ b. cond b 1 0) (group_holds c.requires.alike.0 c.args.self.now.roll.classes.items c.args.group.now c.args.cond.now c.requires.alike.2 c.requires.fit c.requires.alike.1 c.args.first (class_at c.args.self.now p) c.in_ok-class.class.now d c.requires.first a c.in_ok-class.ensures used
    c.args.ground.now.site.now (kind_of c.args.ground.now.state p) c.args.part p))
    (moved_from c.args.going (among c.args.group.now.numbers.items) (λ g p. mark_at c.in_ok-marks.marks.items 0 p) c.args.self.now c.note_going.new.self c.move_by.new.self c.note_going.ensures.same c.note_going.ensures.roll c.note_going.ensures.tops
    (subst (λ ms. AreMoved c.args.going (among c.args.group.now.numbers.items) (λ g p. mark_at ms 0 p) c.note_going.new.self c.move_by.new.self) c.as_slice-4.ensures.value
    (subst (λ ns. AreMoved c.args.going (among ns) (λ g p. mark_at c.as_slice-4.result.now 0 p) c.note_going.new.self c.move_by.new.self) c.as_slice-3.ensures.value c.in_ok-move_by.ensures.moved)))

pub returns-clause-noted : goal.returns-clause-noted
returns-clause-noted c =
    noted_label (says_of c.args.going) (among c.args.group.now.numbers.items) (λ g p. mark_at c.in_ok-marks.marks.items 0 p) (held c.args.ground.now.site.now c.args.ground.now.state c.args.part c.args.cond.now) c.args.self.now c.move_by.new.self
    (λ p d w used a.
    let inside = subst (λ ts. IsWithin ts p) c.requires.tops w in
    c.in_ok-marks.ensures p inside
    ∙ label_inside (sides_have (sides_of c.args.area.now) p) (held c.args.ground.now.site.now c.args.ground.now.state c.args.part c.args.cond.now c.in_ok-class.class.now.progress p) 0 (c.requires.covers p inside a)
    ∙ ap (λ b. cond b 1 0) (group_holds c.requires.alike.0 c.args.self.now.roll.classes.items c.args.group.now c.args.cond.now c.requires.alike.2 c.requires.fit c.requires.alike.1 c.args.first (class_at c.args.self.now p) c.in_ok-class.class.now d c.requires.first a c.in_ok-class.ensures used
    c.args.ground.now.site.now (kind_of c.args.ground.now.state p) c.args.part p))
    (noted_onwards (says_of c.args.going) (among c.args.group.now.numbers.items) (λ g p. mark_at c.in_ok-marks.marks.items 0 p) c.args.self.now c.note_going.new.self c.move_by.new.self (ap (λ v. v.items) c.move_by.ensures.reached)
    (subst (λ ms. AreNoted (says_of c.args.going) (among c.args.group.now.numbers.items) (λ g p. mark_at ms 0 p) c.args.self.now c.note_going.new.self) c.as_slice-2.ensures.value
    (subst (λ ns. AreNoted (says_of c.args.going) (among ns) (λ g p. mark_at c.as_slice-2.result.now 0 p) c.args.self.now c.note_going.new.self) c.as_slice.ensures.value c.in_ok-note_going.ensures.noted)))

pub returns-clause-grown : goal.returns-clause-grown
returns-clause-grown c = subst (λ (r : Roll). IsGrown c.args.going r.classes.items c.move_by.new.self.roll.classes.items) c.note_going.ensures.roll c.in_ok-move_by.ensures.grown
