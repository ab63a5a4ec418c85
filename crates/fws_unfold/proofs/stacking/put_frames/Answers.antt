use Rattle.std.proofs.Common.{Option, List, reverse, subst}
use Rattle.fws_unfold.specs.declared.draft.Draft.{Draft}
use Rattle.fws_unfold.specs.declared.frame.Frame.{Frame}
use Rattle.fws_unfold.specs.Frames.{TurnIs}
use Rattle.fws_unfold.specs.Stacks.{frames_of}
use Rattle.fws_unfold.proofs.stacking.put_frames.Goals as goal

pub loop-turn-init : goal.loop-turn-init
loop-turn-init c = record { even = c.requires.even; waiting = λ n back old w. w }

pub turn-requires-clause-named : goal.turn-requires-clause-named
turn-requires-clause-named c = c.requires.named

pub turn-requires-clause-acyclic : goal.turn-requires-clause-acyclic
turn-requires-clause-acyclic c = c.requires.acyclic

pub turn-requires-clause-sound : goal.turn-requires-clause-sound
turn-requires-clause-sound c = c.requires.sound

pub turn-requires-clause-even : goal.turn-requires-clause-even
turn-requires-clause-even c = c.loop-turn.invariant.even

pub turn-requires-clause-waiting : goal.turn-requires-clause-waiting
turn-requires-clause-waiting c =
    let w = c.requires.waiting in
    record { chain = w.chain; back = w.back; old = w.old; holds = c.loop-turn.invariant.waiting w.chain w.back w.old w.holds }

pub returns-in-None : goal.returns-in-None
returns-in-None c = λ n back old w.
    let new : List Draft = reverse c.turn.new.out.items in
    subst (λ (o : Option Frame). TurnIs c.args.chains.now o (frames_of c.turn.new.stack) new n back old) c.in-None.is
    (c.in_ok-next.ensures.turned n back old (c.loop-turn.invariant.waiting n back old w))

pub loop-turn-preserved : goal.loop-turn-preserved
loop-turn-preserved c =
    let new : List Draft = reverse c.turn.new.out.items in
    record {
      even = c.in_ok-next.ensures.even;
      waiting = λ n back old w.
          subst (λ (o : Option Frame). TurnIs c.args.chains.now o (frames_of c.turn.new.stack) new n back old) c.in-Some.is
          (c.in_ok-next.ensures.turned n back old (c.loop-turn.invariant.waiting n back old w));
    }
