use Rattle.std.proofs.Common.{◌<◌, length, refl, sym, ◌∙◌, ap, subst}
use Rattle.std.proofs.lemmas.Option.{slice_get_within}
use Rattle.fws_exec.specs.declared.spot.Spot.TheVariants.{At}
use Rattle.fws_exec.specs.Passing.{Passed}
use Rattle.fws_exec.specs.Sheets.{among, AreSent}
use Rattle.fws_exec.specs.Views.{is_in}
use Rattle.fws_exec.proofs.Moved.{at_grows}
use Rattle.fws_exec.proofs.Passed.{passed_test, sent_kept, sent_sheet}
use Rattle.fws_exec.proofs.sheet.Sheet.pass_run.Goals as goal

pub divide_and_meet-requires-clause-here : goal.divide_and_meet-requires-clause-here
divide_and_meet-requires-clause-here c n h = c.requires.here n (sym (c.in_ok-groups.ensures n) ∙ ap (λ gs. is_in gs n) (sym c.as_slice.ensures.value) ∙ h)

pub send_all-requires : goal.send_all-requires
send_all-requires c n a =
    let there = at_grows (At c.args.place) c.args.self.now.roll.classes.items c.divide_and_meet.new.self.roll.classes.items (among c.args.numbers.now) refl c.in_ok-divide_and_meet.ensures.onward.grows c.requires.here n a in
    subst (λ cs. n < length cs) (ap (λ v. v.items) (sym c.wait_all.ensures)) (slice_get_within c.divide_and_meet.new.self.roll.classes.items n (record { spot = At c.args.place; progress = there.0 }) there.1)

pub returns-clause-sheet : goal.returns-clause-sheet
returns-clause-sheet c = sent_sheet (At c.args.past) (among c.args.numbers.now) c.divide_and_meet.new.self (record { canvas = c.divide_and_meet.new.self.canvas; roll = c.send_all.new.self; hulls = c.divide_and_meet.new.self.hulls; reached = c.divide_and_meet.new.self.reached }) refl refl refl (subst (λ cs. AreSent (At c.args.past) (among c.args.numbers.now) cs c.send_all.new.self.classes.items) (ap (λ v. v.items) c.wait_all.ensures) c.send_all.ensures.sent) c.in_ok-divide_and_meet.ensures.sheet

pub returns-clause-kept : goal.returns-clause-kept
returns-clause-kept c = sent_kept c.args.errand.now (among c.args.numbers.now) c.args.place c.args.past c.args.self.now c.divide_and_meet.new.self (record { canvas = c.divide_and_meet.new.self.canvas; roll = c.send_all.new.self; hulls = c.divide_and_meet.new.self.hulls; reached = c.divide_and_meet.new.self.reached }) c.requires.sheet c.requires.tops c.in_ok-divide_and_meet.ensures.onward.grows c.requires.here
    (passed_test c.args.errand.now (is_in c.in_ok-groups.groups.all.items) (among c.args.numbers.now) c.args.place c.args.past c.args.self.now c.divide_and_meet.new.self (λ n. sym (c.in_ok-groups.ensures n))
    (subst (λ gs. Passed c.args.errand.now (is_in gs) c.args.place c.args.past c.args.self.now c.divide_and_meet.new.self) c.as_slice.ensures.value c.in_ok-divide_and_meet.ensures.passed))
    refl refl (subst (λ cs. AreSent (At c.args.past) (among c.args.numbers.now) cs c.send_all.new.self.classes.items) (ap (λ v. v.items) c.wait_all.ensures) c.send_all.ensures.sent)
