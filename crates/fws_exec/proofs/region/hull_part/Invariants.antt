use Rattle.std.proofs.Common.{◌≡◌, ℕ, true, List, length}
use Rattle.fws_box.specs.Boxes.{sides_of}
use Rattle.fws_box.specs.Sides.{sides_have}
use Rattle.fws_exec.specs.Hulls.{HasPoint}
use Rattle.fws_exec.proofs.region.hull_part.Given as goal

abbrev pub invariant-loop-k : goal.invariant-loop-k
invariant-loop-k l = record {
  within : (p : List ℕ) → length p ≡ 12 → sides_have (sides_of l.part) p ≡ true → sides_have (sides_of l.area) p ≡ true;
  covers : (p : List ℕ) → HasPoint l.hull p → sides_have (sides_of l.area) p ≡ true → sides_have (sides_of l.part) p ≡ true;
}
