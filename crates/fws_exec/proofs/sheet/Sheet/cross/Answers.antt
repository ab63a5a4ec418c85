use Rattle.std.proofs.Common.{◌≡◌, refl, sym, ◌∙◌, ap, subst}
use Rattle.fws_box.specs.Sides.{IsWithin}
use Rattle.fws_net.specs.Points.{tops_of}
use Rattle.fws_tree.specs.Painted as painted
use Rattle.fws_exec.specs.Classes.{future, is_inside}
use Rattle.fws_exec.specs.Courses.{course}
use Rattle.fws_exec.specs.Sheets.{tops_in, class_at}
use Rattle.fws_exec.specs.Stages.{nowhere}
use Rattle.fws_exec.proofs.Telling.{crossed}
use Rattle.fws_exec.proofs.Turning.{enter_future, leave_future, leave_stands}
use Rattle.fws_exec.proofs.sheet.Sheet.cross.Goals as goal

pub returns-clause-between : goal.returns-clause-between
returns-clause-between c n =
    c.in_ok-merge-2.ensures.spots is_inside refl n (c.in_ok-merge.ensures.spots is_inside refl n
    (leave_stands c.args.errand.now.stage c.walk.new.self.roll.classes.items c.turn-2.new.self.roll.classes.items n (c.turn-2.ensures.turned n)))

pub returns-clause-meant : goal.returns-clause-meant
returns-clause-meant c =
    let tops : tops_in c.turn-2.new.self ≡ tops_of c.args.errand.now.ground.site.now =
    ap painted.tops_of c.turn-2.ensures.same ∙ c.walk.ensures.tops ∙ ap painted.tops_of c.turn.ensures.same ∙ c.requires.tops in
    crossed c.args.errand.now c.args.self.now c.turn.new.self c.walk.new.self c.merge-2.new.self (ap (λ v. v.items) c.turn.ensures.reached) (ap (λ v. v.items) (c.merge-2.ensures.reached ∙ c.merge.ensures.reached ∙ c.turn-2.ensures.reached)) c.in_ok-walk.ensures.kept
    (λ aim p w. ap (λ k. future (course c.args.errand.now aim p) aim.next c.turn.new.self.roll.classes.items (painted.value_at k p) p) c.turn.ensures.same
    ∙ enter_future c.args.errand.now aim p c.args.self.now.roll.classes.items c.turn.new.self.roll.classes.items (class_at c.args.self.now p) (c.turn.ensures.turned (class_at c.args.self.now p)) (c.requires.between (class_at c.args.self.now p)))
    (λ aim p w. c.in_ok-merge-2.ensures.kept nowhere aim.next p (subst (λ ts. IsWithin ts p) (sym (c.merge.ensures.tops ∙ tops)) w)
    ∙ c.in_ok-merge.ensures.kept nowhere aim.next p (subst (λ ts. IsWithin ts p) (sym tops) w)
    ∙ ap (λ k. future nowhere aim.next c.turn-2.new.self.roll.classes.items (painted.value_at k p) p) c.turn-2.ensures.same
    ∙ leave_future c.args.errand.now aim p c.walk.new.self.roll.classes.items c.turn-2.new.self.roll.classes.items (class_at c.walk.new.self p) (c.turn-2.ensures.turned (class_at c.walk.new.self p)) (c.in_ok-walk.ensures.passed (class_at c.walk.new.self p)))
