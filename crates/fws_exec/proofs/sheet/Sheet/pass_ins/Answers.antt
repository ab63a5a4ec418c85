use Rattle.std.proofs.Common.{◌+◌, ◌<◌, length, refl, sym, ◌∙◌, ap, subst}
use Rattle.std.proofs.Math.Nat.{le_refl}
use Rattle.std.proofs.lemmas.Option.{slice_get_within}
use Rattle.fws_exec.specs.declared.spot.Spot.TheVariants.{At}
use Rattle.fws_exec.specs.Passing.{Passed}
use Rattle.fws_exec.specs.Sheets.{among, AreSent}
use Rattle.fws_exec.proofs.Moved.{at_grows}
use Rattle.fws_exec.proofs.Passed.{sent_kept, sent_sheet}
use Rattle.fws_exec.proofs.Telling.{keeps_then}
use Rattle.fws_exec.proofs.sheet.Sheet.pass_ins.Goals as goal

pub meet_ins-requires-clause-here : goal.meet_ins-requires-clause-here
meet_ins-requires-clause-here c = (c.args.place, le_refl c.args.place, λ n a. c.in_ok-movers.ensures n (ap (λ ns. among ns n) (sym c.as_slice.ensures.value) ∙ a))

pub send_all-requires : goal.send_all-requires
send_all-requires c n a =
    let there = at_grows (At c.args.place) c.pass_known.new.self.roll.classes.items c.meet_ins.new.self.roll.classes.items (among c.in_ok-movers.movers.items) refl c.in_ok-meet_ins.ensures.onward.grows c.in_ok-movers.ensures n (ap (λ ns. among ns n) (sym c.as_slice-3.ensures.value) ∙ a) in
    subst (λ cs. n < length cs) (ap (λ v. v.items) (sym c.wait_all.ensures)) (slice_get_within c.meet_ins.new.self.roll.classes.items n (record { spot = At c.args.place; progress = there.0 }) there.1)

pub returns-clause-sheet : goal.returns-clause-sheet
returns-clause-sheet c = sent_sheet (At (c.args.place + 1)) (among c.in_ok-movers.movers.items) c.meet_ins.new.self (record { canvas = c.meet_ins.new.self.canvas; roll = c.send_all.new.self; hulls = c.meet_ins.new.self.hulls; reached = c.meet_ins.new.self.reached }) refl refl refl
    (subst (λ ns. AreSent (At (c.args.place + 1)) (among ns) c.meet_ins.new.self.roll.classes.items c.send_all.new.self.classes.items) c.as_slice-3.ensures.value
    (subst (λ cs. AreSent (At (c.args.place + 1)) (among c.as_slice-3.result.now) cs c.send_all.new.self.classes.items) (ap (λ v. v.items) c.wait_all.ensures) c.send_all.ensures.sent))
    c.in_ok-meet_ins.ensures.sheet

pub returns-clause-kept : goal.returns-clause-kept
returns-clause-kept c =
    keeps_then c.args.errand.now c.args.self.now c.pass_known.new.self (record { canvas = c.meet_ins.new.self.canvas; roll = c.send_all.new.self; hulls = c.meet_ins.new.self.hulls; reached = c.meet_ins.new.self.reached }) c.in_ok-pass_known.ensures.kept
    (sent_kept c.args.errand.now (among c.in_ok-movers.movers.items) c.args.place (c.args.place + 1) c.pass_known.new.self c.meet_ins.new.self (record { canvas = c.meet_ins.new.self.canvas; roll = c.send_all.new.self; hulls = c.meet_ins.new.self.hulls; reached = c.meet_ins.new.self.reached }) c.in_ok-pass_known.ensures.sheet (c.pass_known.ensures.tops ∙ c.requires.tops) c.in_ok-meet_ins.ensures.onward.grows c.in_ok-movers.ensures
    (subst (λ ns. Passed c.args.errand.now (among ns) c.args.place (c.args.place + 1) c.pass_known.new.self c.meet_ins.new.self) c.as_slice.ensures.value c.in_ok-meet_ins.ensures.passed) refl refl
    (subst (λ ns. AreSent (At (c.args.place + 1)) (among ns) c.meet_ins.new.self.roll.classes.items c.send_all.new.self.classes.items) c.as_slice-3.ensures.value
    (subst (λ cs. AreSent (At (c.args.place + 1)) (among c.as_slice-3.result.now) cs c.send_all.new.self.classes.items) (ap (λ v. v.items) c.wait_all.ensures) c.send_all.ensures.sent)))
