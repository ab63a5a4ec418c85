use Rattle.std.proofs.Common.{◌≡◌, ◌&&◌, ℕ, List, length, drop}
use Rattle.fws_box.specs.Boxes.{sides_of}
use Rattle.fws_box.specs.Sides.{sides_have}
use Rattle.fws_box.proofs.narrowing.meet.Given as goal

abbrev pub invariant-loop-k : goal.invariant-loop-k
invariant-loop-k l =
    (p : List ℕ) → length p ≡ 12 → (sides_have (sides_of l.met) p && sides_have (drop l.k (sides_of l.b)) (drop l.k p)) ≡ (sides_have (sides_of l.a) p && sides_have (sides_of l.b) p)
