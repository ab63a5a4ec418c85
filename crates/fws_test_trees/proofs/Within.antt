-- A point whose values are at most the tops, place by place, is within them.
use Rattle.std.proofs.Common.{◌≡◌, ℕ, suc, ◌<◌, ◌≤◌, List, [], ◌∷◌, length, get_or, arith}
use Rattle.fws_box.specs.Sides.{IsWithin}

pub within_places : (tops p : List ℕ) → length tops ≡ length p → ((k : ℕ) → k < length tops → get_or p k 0 ≤ get_or tops k 0) → IsWithin tops p
within_places [] [] same below = tt
within_places [] (x ∷ p) same below = absurd (omega arith)
within_places (t ∷ tops) [] same below = absurd (omega arith)
within_places (t ∷ tops) (x ∷ p) same below =
    (below 0 (omega arith), within_places tops p (omega arith) (λ k lt. below (suc k) (omega arith)))
