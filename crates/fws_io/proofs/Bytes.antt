-- Bytes that were written piece by piece.
use Rattle.std.proofs.Common.{◌≡◌, ℕ, ◌+◌, ◌-◌, List, Option, None, Some, length, take, drop, refl, ap, append_assoc}
use Rattle.std.proofs.Math.Seq.{take-add}
use Rattle.std.proofs.lemmas.List.{take_rest}
use Rattle.fws_io.specs.Outside.{with_more}

-- the first bytes, and then the first of the rest
pub with_more-take : (written : Option (List ℕ)) (bytes : List ℕ) (done more : ℕ) → with_more (with_more written (take done bytes)) (take more (take (length bytes - done) (drop done bytes))) ≡ with_more written (take (done + more) bytes)
with_more-take None bytes done more = refl
with_more-take (Some w) bytes done more = ap (λ (b : List ℕ). Some b) (rw (take_rest bytes done, take-add) (append_assoc w (take done bytes) (take more (drop done bytes))))
