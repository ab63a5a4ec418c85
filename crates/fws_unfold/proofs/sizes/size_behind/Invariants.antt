use Rattle.std.proofs.Common.{◌≡◌, ◌+◌, ◌≤◌, map, drop}
use Rattle.std.specs.Prelude.{sum}
use Rattle.fws_unfold.specs.Levels.{capped, size_at}
use Rattle.fws_unfold.proofs.sizes.size_behind.Given as goal

abbrev pub invariant-loop-c : goal.invariant-loop-c
invariant-loop-c l = record {
  small : l.size ≤ 1000001;
  so_far : capped (l.size + sum (map (size_at l.before) (drop l.c-index l.c-items))) ≡ capped (l.shape.rules + sum (map (size_at l.before) l.shape.names));
}
