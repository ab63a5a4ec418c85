-- Trees that are made of others, point by point.
use Rattle.std.specs.Prelude.{◌≡◌, ℕ, Bool, not, Some, List, slice_index, if◌then◌else◌}
use Rattle.fws_box.specs.Sides.{IsWithin}
use Rattle.fws_iv.specs.declared.iv.Iv.{Iv}
use Rattle.fws_iv.specs.Ivs.{has}
use Rattle.fws_tree.specs.Plain.{Plain, value}

-- the new tree is true just where this one is false
abbrev pub IsNegated : List ℕ → Plain Bool → Plain Bool → Type 0
IsNegated tops tree new = (q : List ℕ) → IsWithin tops q → (b : Bool) × (value tree q ≡ Some b) × (value new q ≡ Some (not b))

-- the new tree's truth value is made of those of two trees
abbrev pub AreJoined : (Bool → Bool → Bool) → List ℕ → Plain Bool → Plain Bool → Plain Bool → Type 0
AreJoined made tops first second new =
    (q : List ℕ) → IsWithin tops q → (a : Bool) × (b : Bool) × (value first q ≡ Some a) × (value second q ≡ Some b) × (value new q ≡ Some (made a b))

-- the new tree's value is this one's where the value of a field is a member, and a fixed one elsewhere
abbrev pub IsKeptIn : {L : Type 0} → ℕ → List Iv → L → List ℕ → Plain L → Plain L → Type 0
IsKeptIn field set off tops tree new = (q : List ℕ) → IsWithin tops q → value new q ≡ (if has set (slice_index q field) then value tree q else Some off)
