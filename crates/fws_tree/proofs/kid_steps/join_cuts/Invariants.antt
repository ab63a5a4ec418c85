use Rattle.std.proofs.Common.{◌≡◌, ℕ, drop}
use Rattle.fws_tree.specs.Held.{pick, over_leaf}
use Rattle.fws_tree.specs.Merged.{left_at, right_at}
use Rattle.fws_tree.proofs.kid_steps.join_cuts.Given as goal

abbrev pub invariant-loop-both : goal.invariant-loop-both
invariant-loop-both l = (x : ℕ) → pick (λ n. n) l.steps.items (over_leaf (left_at (drop l.both-index l.both-items) l.a.last x) (right_at (drop l.both-index l.both-items) l.b.last x)) x
    ≡ over_leaf (left_at l.both-items l.a.last x) (right_at l.both-items l.b.last x)
