use Rattle.std.proofs.Common.{refl, sym, ◌∙◌, ap, subst}
use Rattle.std.proofs.lemmas.Option.{slice_get_within}
use Rattle.fws_exec.specs.declared.going.Going.TheVariants as goings
use Rattle.fws_exec.specs.declared.spot.Spot.TheVariants.{Before}
use Rattle.fws_exec.specs.declared.spot.Stage.TheVariants.{Arrive, Deliver}
use Rattle.fws_exec.specs.Divided.{held, says_of, AreMoved, AreNoted}
use Rattle.fws_exec.specs.Sheets.{among, AreSent}
use Rattle.fws_exec.specs.Stages.{onward_spot}
use Rattle.fws_exec.proofs.Moved.{at_grows}
use Rattle.fws_exec.proofs.Passed.{sent_sheet}
use Rattle.fws_exec.proofs.Routed.{between, deliver_apart, onward_used, routed, routed_outside}
use Rattle.fws_exec.proofs.sheet.Sheet.route.Goals as goal

pub divide_all-requires-clause-here : goal.divide_all-requires-clause-here
divide_all-requires-clause-here c = (Before Arrive, refl, λ n a. c.in_ok-numbers.ensures.here n (ap (λ ns. among ns n) (sym c.as_slice.ensures.value) ∙ a), λ l e. deliver_apart e)

pub send_all-requires : goal.send_all-requires
send_all-requires c n a =
    let there = at_grows (Before Arrive) c.args.self.now.roll.classes.items c.divide_all.new.self.roll.classes.items (among c.in_ok-numbers.numbers.items) refl c.in_ok-divide_all.ensures.grown.grows c.in_ok-numbers.ensures.here n (ap (λ ns. among ns n) (sym c.as_slice-2.ensures.value) ∙ a) in
    slice_get_within c.divide_all.new.self.roll.classes.items n (record { spot = Before Arrive; progress = there.0 }) there.1

pub returns-clause-sheet : goal.returns-clause-sheet
returns-clause-sheet c = sent_sheet (onward_spot c.args.ground.now.site.now.forwarding) (among c.as_slice-2.result.now) c.divide_all.new.self (record { canvas = c.divide_all.new.self.canvas; roll = c.send_all.new.self; hulls = c.divide_all.new.self.hulls; reached = c.divide_all.new.self.reached }) (onward_used c.args.ground.now.site.now.forwarding) refl refl
    (subst (λ s. AreSent s (among c.as_slice-2.result.now) c.divide_all.new.self.roll.classes.items c.send_all.new.self.classes.items) c.onward_spot-onward.ensures c.send_all.ensures.sent) c.in_ok-divide_all.ensures.sheet

pub returns-clause-between : goal.returns-clause-between
returns-clause-between c = routed_outside c.args.ground.now.site.now.forwarding (among c.as_slice-2.result.now) c.args.self.now.roll.classes.items c.divide_all.new.self.roll.classes.items c.send_all.new.self.classes.items c.requires.between c.in_ok-divide_all.ensures.grown
    (subst (λ s. AreSent s (among c.as_slice-2.result.now) c.divide_all.new.self.roll.classes.items c.send_all.new.self.classes.items) c.onward_spot-onward.ensures c.send_all.ensures.sent)

pub returns-clause-meant : goal.returns-clause-meant
returns-clause-meant c =
    routed c.args.ground.now.site.now c.args.ground.now.state between c.in_ok-cond.cond (among c.in_ok-numbers.numbers.items) c.args.self.now c.divide_all.new.self (record { canvas = c.divide_all.new.self.canvas; roll = c.send_all.new.self; hulls = c.divide_all.new.self.hulls; reached = c.divide_all.new.self.reached }) c.requires.sheet c.requires.tops
    (c.in_ok-cond.ensures c.args.ground.now.site.now c.requires.ground.ways) c.in_ok-numbers.ensures.here c.in_ok-numbers.ensures.all c.in_ok-divide_all.ensures.grown.grows
    (subst (λ ns. AreMoved (goings.To (Before Deliver)) (among ns) (held c.args.ground.now.site.now c.args.ground.now.state between c.in_ok-cond.cond) c.args.self.now c.divide_all.new.self) c.as_slice.ensures.value c.in_ok-divide_all.ensures.moved)
    refl refl
    (subst (λ ns. AreNoted (says_of (goings.To (Before Deliver))) (among ns) (held c.args.ground.now.site.now c.args.ground.now.state between c.in_ok-cond.cond) c.args.self.now c.divide_all.new.self) c.as_slice.ensures.value c.in_ok-divide_all.ensures.noted)
    (subst (λ ns. AreSent (onward_spot c.args.ground.now.site.now.forwarding) (among ns) c.divide_all.new.self.roll.classes.items c.send_all.new.self.classes.items) c.as_slice-2.ensures.value
    (subst (λ s. AreSent s (among c.as_slice-2.result.now) c.divide_all.new.self.roll.classes.items c.send_all.new.self.classes.items) c.onward_spot-onward.ensures c.send_all.ensures.sent))
