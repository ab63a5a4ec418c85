-- Where in a field the points lie that have a value.
use Rattle.std.specs.Prelude.{◌≡◌, ℕ, true, nat_eq, List, slice_index}
use Rattle.std.specs.HashSet.{HashSet, contains}
use Rattle.fws_iv.specs.declared.iv.Iv.{Iv}
use Rattle.fws_iv.specs.Ivs.{has}
use Rattle.fws_box.specs.Sides.{IsWithin}
use Rattle.fws_tree.specs.declared.canvas.Canvas.{Canvas}
use Rattle.fws_tree.specs.Held.{held_at}

-- a cell of a canvas holds the value at a point
abbrev pub IsHeldAt : Canvas → ℕ → ℕ → List ℕ → Type 0
IsHeldAt c value at p = held_at c.store at p ≡ value

-- a cell of a canvas holds the value nowhere
abbrev pub Lacks : Canvas → ℕ → ℕ → Type 0
Lacks c value at = (p : List ℕ) → IsHeldAt c value at p → ⊥

-- each of the cells holds the value nowhere
abbrev pub AreLacking : {S : Type 0} → Canvas → ℕ → HashSet ℕ S → Type 0
AreLacking c value cells = (at : ℕ) → contains nat_eq cells at ≡ true → Lacks c value at

-- a set has the field's value of each point within the tops at which the cell holds the value
abbrev pub HasSpread : Canvas → ℕ → ℕ → ℕ → List Iv → Type 0
HasSpread c field value at set = (p : List ℕ) → IsWithin c.tops p → IsHeldAt c value at p → has set (slice_index p field) ≡ true

-- each cell that is done has its spread in the set
abbrev pub AreDone : {S : Type 0} → Canvas → ℕ → ℕ → HashSet ℕ S → List Iv → Type 0
AreDone c field value done set = (at : ℕ) → contains nat_eq done at ≡ true → HasSpread c field value at set

-- whatever the first set has, the second one has
abbrev pub Grows : List Iv → List Iv → Type 0
Grows old new = (x : ℕ) → has old x ≡ true → has new x ≡ true
