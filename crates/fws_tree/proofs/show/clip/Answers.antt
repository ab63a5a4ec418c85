use Rattle.std.proofs.Common.{arith}
use Rattle.fws_tree.specs.declared.store.Step.{Step}
use Rattle.fws_tree.proofs.Showing.{clip-skip, clip-step, clip-push, clip-end}
use Rattle.fws_tree.proofs.show.clip.Goals as goal
use Rattle.fws_tree.proofs.show.clip.Goals.{then-s-lo+else-s-top+in_ok-push-2, else-s-lo}

pub returns-then-s-top-clause-row : goal.returns-then-s-top-clause-row
returns-then-s-top-clause-row c = let d : Step = record { hi = 0; node = 0 } in
    rw c.in_ok-push.ensures.items (clip-push c.args.steps.now c.args.last c.loop-s.s-index c.loop-s.lo c.args.top d c.loop-s.pieces.items c.loop-s-test.true c.loop-s.invariant.order c.if-s-top.true c.loop-s.invariant.clipped).0

pub returns-then-s-top-clause-end : goal.returns-then-s-top-clause-end
returns-then-s-top-clause-end c = let d : Step = record { hi = 0; node = 0 } in
    rw c.in_ok-push.ensures.items (clip-push c.args.steps.now c.args.last c.loop-s.s-index c.loop-s.lo c.args.top d c.loop-s.pieces.items c.loop-s-test.true c.loop-s.invariant.order c.if-s-top.true c.loop-s.invariant.clipped).1

pub returns-then-s-top-clause-leads : goal.returns-then-s-top-clause-leads
returns-then-s-top-clause-leads c = let d : Step = record { hi = 0; node = 0 } in
    rw c.in_ok-push.ensures.items (clip-push c.args.steps.now c.args.last c.loop-s.s-index c.loop-s.lo c.args.top d c.loop-s.pieces.items c.loop-s-test.true c.loop-s.invariant.order c.if-s-top.true c.loop-s.invariant.clipped).2

pub returns-then-s-top-clause-below : goal.returns-then-s-top-clause-below
returns-then-s-top-clause-below c = let d : Step = record { hi = 0; node = 0 } in
    rw c.in_ok-push.ensures.items (clip-push c.args.steps.now c.args.last c.loop-s.s-index c.loop-s.lo c.args.top d c.loop-s.pieces.items c.loop-s-test.true c.loop-s.invariant.order c.if-s-top.true c.loop-s.invariant.clipped).3

pub loop-s-preserved : goal.loop-s-preserved
loop-s-preserved c = let d : Step = record { hi = 0; node = 0 } in elim c.if-s-lo.branch [
  | then-s-lo+else-s-top+in_ok-push-2 w ↦ rw (w.lo-is, w.pieces-is) (rw w.in_ok-push-2.ensures.items (record {
    order = (let t = w.if-s-top.false in omega arith);
    clipped = clip-step c.args.steps.now c.args.last c.loop-s.s-index c.loop-s.lo d c.loop-s.pieces.items c.loop-s-test.true w.if-s-lo.true c.loop-s.invariant.clipped;
  }))
  | else-s-lo w ↦ rw (w.lo-is, w.pieces-is) (record {
    order = c.loop-s.invariant.order;
    clipped = clip-skip c.args.steps.now c.args.last c.loop-s.s-index c.loop-s.lo d c.loop-s.pieces.items c.loop-s-test.true w.if-s-lo.false c.loop-s.invariant.clipped;
  })
]

pub returns-clause-row : goal.returns-clause-row
returns-clause-row c = rw c.in_ok-push-3.ensures.items (clip-end c.args.steps.now c.args.last c.loop-s.s-index c.loop-s.lo c.args.top c.loop-s.pieces.items c.loop-s-test.false c.loop-s.invariant.order c.loop-s.invariant.clipped).0

pub returns-clause-end : goal.returns-clause-end
returns-clause-end c = rw c.in_ok-push-3.ensures.items (clip-end c.args.steps.now c.args.last c.loop-s.s-index c.loop-s.lo c.args.top c.loop-s.pieces.items c.loop-s-test.false c.loop-s.invariant.order c.loop-s.invariant.clipped).1

pub returns-clause-leads : goal.returns-clause-leads
returns-clause-leads c = rw c.in_ok-push-3.ensures.items (clip-end c.args.steps.now c.args.last c.loop-s.s-index c.loop-s.lo c.args.top c.loop-s.pieces.items c.loop-s-test.false c.loop-s.invariant.order c.loop-s.invariant.clipped).2

pub returns-clause-below : goal.returns-clause-below
returns-clause-below c = rw c.in_ok-push-3.ensures.items (clip-end c.args.steps.now c.args.last c.loop-s.s-index c.loop-s.lo c.args.top c.loop-s.pieces.items c.loop-s-test.false c.loop-s.invariant.order c.loop-s.invariant.clipped).3
