use Rattle.std.proofs.Common.{◌≡◌, ℕ, ◌<◌, ◌≤◌, length, get_or}
use Rattle.fws_test_trees.proofs.points.within.Given as goal

abbrev pub invariant-loop-field : goal.invariant-loop-field
invariant-loop-field l = (length l.near ≡ 12) × ((k : ℕ) → k < l.field → get_or l.near k 0 ≤ get_or l.tops k 0)
