use Rattle.std.proofs.Common.{arith, ◌≤◌, List, length, refl, reverse, subst, sym}
use Rattle.std.proofs.lemmas.List.{length-reverse}
use Rattle.fws_unfold.specs.declared.draft.Draft.{Draft}
use Rattle.fws_unfold.specs.declared.frame.Frame.{Frame}
use Rattle.fws_unfold.specs.declared.frame.Stepped.{Stepped}
use Rattle.fws_unfold.specs.Frames.{Begun, IsWhole, StepIs, Waits, Waiting}
use Rattle.fws_unfold.specs.Stacks.{frames_of}
use Rattle.fws_unfold.proofs.Frames.{waiting_more, waiting_push, waiting_holds, waits_more, whole_last, last_waits, begun_within, begun_low}
use Rattle.fws_unfold.proofs.stacking.turn.Goals as goal

pub step-requires-clause-within : goal.step-requires-clause-within
step-requires-clause-within c =
    let chains = c.args.chains.now in
    let code : List Draft = reverse c.args.out.now.items in
    let w = c.requires.waiting in
    let h = waiting_holds chains (Begun chains c.args.frame code) (frames_of c.args.stack.now) w.chain w.back w.old w.holds in
    begun_within chains c.args.frame code h.chain h.back h.old h.holds

pub step-requires-clause-low : goal.step-requires-clause-low
step-requires-clause-low c =
    let chains = c.args.chains.now in
    let code : List Draft = reverse c.args.out.now.items in
    let w = c.requires.waiting in
    let h = waiting_holds chains (Begun chains c.args.frame code) (frames_of c.args.stack.now) w.chain w.back w.old w.holds in
    let low : c.args.frame.back ≤ length code = begun_low chains c.args.frame code h.chain h.back h.old h.holds in
    let same = length-reverse c.args.out.now.items in
    omega (arith, low, same)

pub leave-requires-clause-some : goal.leave-requires-clause-some
leave-requires-clause-some c =
    let chains = c.args.chains.now in
    let P = Begun chains c.args.frame (reverse c.args.out.now.items) in
    let w = c.requires.waiting in
    let gs = frames_of c.pop.new.self in
    let h = waiting_holds chains (Waits chains P c.in-Some.frame) gs w.chain w.back w.old (last_waits chains P (frames_of c.args.stack.now) gs c.in-Some.frame c.in-Some.ensures.last w.chain w.back w.old w.holds) in
    h.holds.some

pub leave-requires-clause-within : goal.leave-requires-clause-within
leave-requires-clause-within c =
    let chains = c.args.chains.now in
    let P = Begun chains c.args.frame (reverse c.args.out.now.items) in
    let w = c.requires.waiting in
    let gs = frames_of c.pop.new.self in
    let h = waiting_holds chains (Waits chains P c.in-Some.frame) gs w.chain w.back w.old (last_waits chains P (frames_of c.args.stack.now) gs c.in-Some.frame c.in-Some.ensures.last w.chain w.back w.old w.holds) in
    begun_within chains c.in-Some.frame h.holds.code h.chain h.back h.old h.holds.begun

pub returns-in-Onwards-clause-turned : goal.returns-in-Onwards-clause-turned
returns-in-Onwards-clause-turned c = λ n back old w.
    let chains = c.args.chains.now in
    let new : List Draft = reverse c.step.new.out.items in
    waiting_more chains (Begun chains c.args.frame (reverse c.args.out.now.items)) (Begun chains c.in-Onwards.frame new)
    (λ m b o x. subst (λ (s : Stepped). StepIs chains s new m b o) c.in-Onwards.is (c.in_ok-frame.ensures m b o x))
    (frames_of c.args.stack.now) n back old w

pub returns-in_ok-push-in-Entered-clause-turned : goal.returns-in_ok-push-in-Entered-clause-turned
returns-in_ok-push-in-Entered-clause-turned c = λ n back old w.
    let chains = c.args.chains.now in
    let new : List Draft = reverse c.step.new.out.items in
    let P = Begun chains c.in-Entered.entered new in
    let fs = frames_of c.args.stack.now in
    subst (λ (hs : List Frame). Waiting chains P hs n back old) (sym c.in_ok-push-in-Entered.ensures.frames)
    (waiting_push chains P c.in-Entered.frame fs n back old
    (waiting_more chains (Begun chains c.args.frame (reverse c.args.out.now.items)) (Waits chains P c.in-Entered.frame)
    (λ m b o x. subst (λ (s : Stepped). StepIs chains s new m b o) c.in-Entered.is (c.in_ok-frame.ensures m b o x))
    fs n back old w))

pub returns-in-None-clause-turned : goal.returns-in-None-clause-turned
returns-in-None-clause-turned c = λ n back old w.
    let chains = c.args.chains.now in
    let new : List Draft = reverse c.step.new.out.items in
    whole_last chains c.args.frame (reverse c.args.out.now.items) new (frames_of c.args.stack.now) (c.in-None.ensures.none refl)
    (λ m b o x. subst (λ (s : Stepped). StepIs chains s new m b o) c.in-Whole.is (c.in_ok-frame.ensures m b o x))
    n back old w

pub returns-in_ok-next-in-Some-clause-turned : goal.returns-in_ok-next-in-Some-clause-turned
returns-in_ok-next-in-Some-clause-turned c = λ n back old w.
    let chains = c.args.chains.now in
    let whole : List Draft = reverse c.step.new.out.items in
    let P = Begun chains c.args.frame (reverse c.args.out.now.items) in
    let f = c.in-Some.frame in
    let gs = frames_of c.pop.new.self in
    waiting_more chains (Waits chains P f) (Begun chains c.in_ok-next-in-Some.next (reverse c.leave.new.out.items))
    (λ m b o x. c.in_ok-next-in-Some.ensures m b o (waits_more chains P (IsWhole chains whole)
    (λ k e q y. subst (λ (s : Stepped). StepIs chains s whole k e q) c.in-Whole.is (c.in_ok-frame.ensures k e q y))
    f m b o x))
    gs n back old (last_waits chains P (frames_of c.args.stack.now) gs f c.in-Some.ensures.last n back old w)
