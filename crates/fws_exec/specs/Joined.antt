-- How equal classes become one.
use Rattle.std.specs.Prelude.{◌≡◌, ℕ, ◌⊎◌, Bool, true, false, ◌&&◌, not, nat_eq, slice_index_or, MatchBool, List, slice_get}
use Rattle.fws_exec.specs.declared.spot.Class.{Class}
use Rattle.fws_exec.specs.declared.spot.Spot.TheVariants.{Unused}
use Rattle.fws_exec.specs.Sheets.{among, StandsAt}

-- the class with a number is to become another one, its twin
abbrev pub has_twin : List ℕ → ℕ → Bool
has_twin twins n = not (nat_eq (slice_index_or twins n n) n)

-- class x becomes z: its twin, an equal one that stays, if it has one; else it stays
abbrev pub IsJoined : List ℕ → List Class → ℕ → ℕ → Type 0
IsJoined twins classes x z = MatchBool (has_twin twins x) ((has_twin twins z ≡ false) × (slice_get classes z ≡ slice_get classes x) × (slice_index_or twins x x ≡ z)) (z ≡ x)

-- a number is one of these, and has a twin
abbrev pub is_joined : List ℕ → List ℕ → ℕ → Bool
is_joined twins joined n = among joined n && has_twin twins n

-- classes whose numbers pass the test may be unused from now on; all others stay
abbrev pub AreReleased : (ℕ → Bool) → List Class → List Class → Type 0
AreReleased test old new = (n : ℕ) → (slice_get new n ≡ slice_get old n) ⊎ ((test n ≡ true) × StandsAt Unused new n)
