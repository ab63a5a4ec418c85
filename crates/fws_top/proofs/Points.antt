-- Points within the tops of their fields.
use Rattle.std.proofs.Common.{◌≡◌, ℕ, zero, suc, ◌≤◌, ◌<◌, List, [], ◌∷◌, length, get_or, refl, ap, arith}
use Rattle.fws_box.specs.Sides.{IsWithin}

pub within_at : (tops p : List ℕ) (k : ℕ) → IsWithin tops p → k < length tops → get_or p k 0 ≤ get_or tops k 0
within_at [] p k w lt = absurd (omega arith)
within_at (top ∷ tops) [] k w lt = absurd w
within_at (top ∷ tops) (x ∷ p) zero w lt = w.0
within_at (top ∷ tops) (x ∷ p) (suc k) w lt = within_at tops p k w.1 (omega arith)

pub within-length : (tops p : List ℕ) → IsWithin tops p → length p ≡ length tops
within-length [] [] w = refl
within-length [] (x ∷ p) w = absurd w
within-length (top ∷ tops) [] w = absurd w
within-length (top ∷ tops) (x ∷ p) w = ap suc (within-length tops p w.1)
