use Rattle.std.proofs.Common.{ℕ, List, reverse}
use Rattle.fws_unfold.specs.declared.draft.Draft.{Draft}
use Rattle.fws_unfold.specs.Frames.{Begun, Waiting}
use Rattle.fws_unfold.specs.Stacks.{frames_of, IsEven}
use Rattle.fws_unfold.proofs.stacking.put_frames.Given as goal

abbrev pub invariant-loop-turn : goal.invariant-loop-turn
invariant-loop-turn l = record {
  even : IsEven l.stack;
  waiting : (c back : ℕ) (old : List Draft) → Waiting l.chains (Begun l.chains l.fn.frame (reverse l.fn.out.items)) (frames_of l.fn.stack) c back old
      → Waiting l.chains (Begun l.chains l.now (reverse l.out.items)) (frames_of l.stack) c back old;
}
