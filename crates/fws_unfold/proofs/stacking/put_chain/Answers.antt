use Rattle.std.proofs.Common.{List, reverse, subst, sym}
use Rattle.fws_unfold.specs.declared.draft.Draft.{Draft}
use Rattle.fws_unfold.specs.declared.frame.Frame.{Frame}
use Rattle.fws_unfold.specs.Frames.{Begun, Waiting}
use Rattle.fws_unfold.proofs.Frames.{if_put}
use Rattle.fws_unfold.proofs.stacking.put_chain.Goals as goal

pub put_frames-requires-clause-named : goal.put_frames-requires-clause-named
put_frames-requires-clause-named c = c.requires.named

pub put_frames-requires-clause-acyclic : goal.put_frames-requires-clause-acyclic
put_frames-requires-clause-acyclic c = c.requires.acyclic

pub put_frames-requires-clause-sound : goal.put_frames-requires-clause-sound
put_frames-requires-clause-sound c = c.requires.sound

pub put_frames-requires-clause-even : goal.put_frames-requires-clause-even
put_frames-requires-clause-even c = c.new-stack.ensures.even

pub put_frames-requires-clause-waiting : goal.put_frames-requires-clause-waiting
put_frames-requires-clause-waiting c =
    let chains = c.args.chains.now in
    let P = Begun chains c.in_ok-frame.frame (reverse c.begin.new.out.items) in
    let old : List Draft = reverse c.args.out.now.items in
    record {
      chain = c.args.c;
      back = c.args.back;
      old = old;
      holds = subst (λ (fs : List Frame). Waiting chains P fs c.args.c c.args.back old) (sym c.new-stack.ensures.none) c.in_ok-frame.ensures;
    }

pub returns-clause-does : goal.returns-clause-does
returns-clause-does c =
    let chains = c.args.chains.now in
    let P = Begun chains c.in_ok-frame.frame (reverse c.begin.new.out.items) in
    let old : List Draft = reverse c.args.out.now.items in
    let first = subst (λ (fs : List Frame). Waiting chains P fs c.args.c c.args.back old) (sym c.new-stack.ensures.none) c.in_ok-frame.ensures in
    if_put c.put_frames.result _ _ (λ whole. (whole c.args.c c.args.back old first).does) c.put_frames.ensures

pub returns-clause-uses : goal.returns-clause-uses
returns-clause-uses c =
    let chains = c.args.chains.now in
    let P = Begun chains c.in_ok-frame.frame (reverse c.begin.new.out.items) in
    let old : List Draft = reverse c.args.out.now.items in
    let first = subst (λ (fs : List Frame). Waiting chains P fs c.args.c c.args.back old) (sym c.new-stack.ensures.none) c.in_ok-frame.ensures in
    if_put c.put_frames.result _ _ (λ whole. (whole c.args.c c.args.back old first).uses) c.put_frames.ensures
