use Rattle.std.proofs.Common.{◌≡◌, ◌≤◌, ◌+◌, ◌&&◌, not, ℕ, List, length, drop, vec_len}
use Rattle.fws_box.specs.Boxes.{box_hits, sides_of}
use Rattle.fws_box.specs.Sides.{sides_have}
use Rattle.fws_box.proofs.SideBySide.{one}
use Rattle.fws_box.proofs.pieces.cut.Given as goal

abbrev pub invariant-loop-k : goal.invariant-loop-k
invariant-loop-k l = record {
  count : vec_len l.pieces ≤ l.k;
  once : (p : List ℕ) → length p ≡ 12 → box_hits l.pieces.items p + one (sides_have (sides_of l.left) p && not (sides_have (drop l.k (sides_of l.b)) (drop l.k p)))
      ≡ one (sides_have (sides_of l.a) p && not (sides_have (sides_of l.b) p));
}
