-- What recolouring makes of a value.
use Rattle.std.specs.Prelude.{◌≡◌, ◌≢◌, ℕ, List, Some, bit_and}
use Rattle.std.specs.HashMap.{get}
use Rattle.fws_tree.specs.declared.memo.Memo.{Memo}
use Rattle.fws_tree.specs.Bits.{bits_in}
use Rattle.fws_tree.specs.Held.{pair_eq}

-- value x, where the label is l, becomes z: it stays where there is no label or none of its bits is wanted, and is moved
-- elsewhere
abbrev pub IsRecoloured : (ℕ → ℕ → ℕ → Type 0) → List ℕ → ℕ → ℕ → ℕ → ℕ → Type 0
IsRecoloured moves values wanted x l z =
    (l ≡ 0 → z ≡ x) × (bit_and (bits_in values x) wanted ≡ 0 → z ≡ x) × (l ≢ 0 → bit_and (bits_in values x) wanted ≢ 0 → moves x l z)

-- what was moved stays moved
abbrev pub StaysMoved : (ℕ → ℕ → ℕ → Type 0) → (ℕ → ℕ → ℕ → Type 0) → Type 0
StaysMoved old new = (x l z : ℕ) → old x l z → new x l z

-- each entry of a memo was moved
abbrev pub AreAsked : (ℕ → ℕ → ℕ → Type 0) → Memo → Type 0
AreAsked moves memo = (x l z : ℕ) → get pair_eq memo.found (x, l) ≡ Some z → moves x l z
