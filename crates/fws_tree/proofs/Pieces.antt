-- Pieces in a row, and what they hold.
use Rattle.std.proofs.Common.{◌≡◌, ℕ, zero, suc, ◌+◌, ◌<◌, ◌≤◌, List, [], ◌∷◌, ◌++◌, length, get_or, take, inl, inr, refl, arith}
use Rattle.std.proofs.lemmas.Bool.{cases_lt}
use Rattle.fws_tree.specs.Building.{AreInRow, end_of}
use Rattle.fws_tree.specs.declared.join.Piece.{Piece}

-- Rows of pieces.

pub row_at : {T : Type 0} (from : ℕ) (ps : List (Piece T)) (i : ℕ) (d : Piece T) → AreInRow from ps → i < length ps
    → ((get_or ps i d).lo ≡ end_of from (take i ps)) × ((get_or ps i d).lo ≤ (get_or ps i d).hi)
row_at from [] i d row lt = absurd (omega arith)
row_at from (p ∷ ps) zero d row lt = (row.0, row.1)
row_at from (p ∷ ps) (suc i) d row lt = row_at (p.hi + 1) ps i d row.2 (omega arith)

pub end_of-push : {T : Type 0} (from : ℕ) (ps : List (Piece T)) (p : Piece T) → end_of from (ps ++ p ∷ []) ≡ p.hi + 1
end_of-push from [] p = refl
end_of-push from (q ∷ ps) p = end_of-push (q.hi + 1) ps p

pub row-push : {T : Type 0} (from : ℕ) (ps : List (Piece T)) (p : Piece T) → AreInRow from ps → p.lo ≡ end_of from ps → p.lo ≤ p.hi → AreInRow from (ps ++ p ∷ [])
row-push from [] p row e le = (e, le, tt)
row-push from (q ∷ ps) p row e le = (row.0, row.1, row-push (q.hi + 1) ps p row.2 e le)

-- What is held.

-- The last piece grows.

-- each value before the end lies in a piece
pub piece_of : {T : Type 0} (from : ℕ) (ps : List (Piece T)) (d : Piece T) (x : ℕ) → AreInRow from ps → from ≤ x → x < end_of from ps
    → (i : ℕ) × (i < length ps) × ((get_or ps i d).lo ≤ x) × (x ≤ (get_or ps i d).hi)
piece_of from [] d x row a b = absurd (omega arith)
piece_of from (p ∷ ps) d x row a b = elim (cases_lt p.hi x) [
  | inl past ↦ (let r = piece_of (p.hi + 1) ps d x row.2 (omega arith) b in (suc r.0, omega (arith, r.1), r.2, r.3))
  | inr in' ↦ (0, omega arith, omega (arith, row), in')
]
