use Rattle.std.proofs.Common.{ℕ, ◌<◌, List, slice_index_or}
use Rattle.fws_exec.specs.Hulls.{HasAt, HullsGrow}
use Rattle.fws_exec.proofs.merge.take_in.Given as goal

abbrev pub invariant-loop-place : goal.invariant-loop-place
invariant-loop-place l = record {
  grown : HullsGrow l.initial.hulls.items l.hulls.items;
  taken : (n : ℕ) (p : List ℕ) → n < l.place → HasAt l.initial.hulls.items n p → HasAt l.hulls.items (slice_index_or l.twins n n) p;
}
