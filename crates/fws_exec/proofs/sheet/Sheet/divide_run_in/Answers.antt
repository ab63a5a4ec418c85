use Rattle.std.proofs.Common.{◌∙◌, ap, subst}
use Rattle.fws_box.specs.Boxes.{sides_of}
use Rattle.fws_box.specs.Sides.{sides_have, IsWithin}
use Rattle.fws_tree.specs.Marks.{mark_at}
use Rattle.fws_exec.specs.declared.going.Going.TheVariants as goings
use Rattle.fws_exec.specs.Classes.{kind_of}
use Rattle.fws_exec.specs.Divided.{seen_at, AreMoved}
use Rattle.fws_exec.specs.Runs.{picked, run_of}
use Rattle.fws_exec.specs.Sheets.{among, class_at}
use Rattle.fws_exec.proofs.Alike.{group_picked}
use Rattle.fws_exec.proofs.Marking.{label_inside}
use Rattle.fws_exec.proofs.Moved.{moved_label}
use Rattle.fws_exec.proofs.sheet.Sheet.divide_run_in.Goals as goal

pub returns-clause-moved : goal.returns-clause-moved
returns-clause-moved c =
    moved_label (goings.Leaving c.args.errand.now.stage c.args.place) (among c.args.group.now.numbers.items) (λ g p. mark_at c.in_ok-marks.marks.items 0 p) (λ g p. picked c.args.place (seen_at c.args.errand.now.ground.site.now c.args.errand.now.ground.state c.args.errand.now.part g p) (run_of c.args.errand.now.code.now c.args.place c.args.past)) c.args.self.now c.move_by.new.self
    (λ p d w used a.
    let inside = subst (λ ts. IsWithin ts p) c.requires.tops w in
    c.in_ok-marks.ensures p inside
    ∙ label_inside (sides_have (sides_of c.args.area.now) p) (picked c.args.place (seen_at c.args.errand.now.ground.site.now c.args.errand.now.ground.state c.args.errand.now.part c.in_ok-class.class.now.progress p) c.run_of-code.result.now) 0 (c.requires.covers p inside a)
    ∙ ap (λ xs. picked c.args.place (seen_at c.args.errand.now.ground.site.now c.args.errand.now.ground.state c.args.errand.now.part c.in_ok-class.class.now.progress p) xs) c.run_of-code.ensures
    ∙ group_picked c.requires.alike.0 c.args.self.now.roll.classes.items c.args.group.now c.args.place (run_of c.args.errand.now.code.now c.args.place c.args.past) c.requires.alike.2 c.requires.alike.1 c.requires.tagless c.args.first (class_at c.args.self.now p) c.in_ok-class.class.now d c.requires.first a c.in_ok-class.ensures used
    c.args.errand.now.ground.site.now (kind_of c.args.errand.now.ground.state p) c.args.errand.now.part p)
    (subst (λ ms. AreMoved (goings.Leaving c.args.errand.now.stage c.args.place) (among c.args.group.now.numbers.items) (λ g p. mark_at ms 0 p) c.args.self.now c.move_by.new.self) c.as_slice-2.ensures.value
    (subst (λ ns. AreMoved (goings.Leaving c.args.errand.now.stage c.args.place) (among ns) (λ g p. mark_at c.as_slice-2.result.now 0 p) c.args.self.now c.move_by.new.self) c.as_slice.ensures.value c.in_ok-move_by.ensures.moved))
