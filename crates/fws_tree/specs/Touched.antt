-- Labels of marks that occur at points with some values.
use Rattle.std.specs.Prelude.{◌≡◌, ◌≢◌, ℕ, Bool, true, nat_eq, Some, List, slice_get}
use Rattle.std.specs.HashSet.{HashSet, contains}
use Rattle.std.specs.List.{list_any}
use Rattle.fws_box.specs.Sides.{IsWithin}
use Rattle.fws_tree.specs.declared.canvas.Canvas.{Canvas}
use Rattle.fws_tree.specs.declared.mark.Mark.{Mark}
use Rattle.fws_tree.specs.declared.store.Cell.{Cell}
use Rattle.fws_tree.specs.declared.touch.Touch.{Touch}
use Rattle.fws_tree.specs.Held.{held_at}
use Rattle.fws_tree.specs.Marks.{mark_at}
use Rattle.fws_tree.specs.Painted.{tops_of, value_at}

-- a value is one of those that are called
abbrev pub is_called : List ℕ → ℕ → Bool
is_called called n = list_any (nat_eq n) called

-- the label is that of a touch
abbrev pub IsTold : ℕ → List Touch → Type 0
IsTold label ts = (k : ℕ) × (t : Touch) × (slice_get ts k ≡ Some t) × (t.label ≡ label)

-- the point lies within the tops and has a called value, and the label is that of the marks there
abbrev pub IsTouch : Canvas → List ℕ → List Mark → Touch → Type 0
IsTouch c called marks t = IsWithin (tops_of c) t.point × (is_called called (value_at c t.point) ≡ true) × (mark_at marks 0 t.point ≡ t.label) × (t.label ≢ 0)

-- each label that the marks have at a point within the tops with a called value is that of a touch
abbrev pub AreAllTold : Canvas → List ℕ → List Mark → List Touch → Type 0
AreAllTold c called marks ts = (p : List ℕ) → IsWithin (tops_of c) p → is_called called (value_at c p) ≡ true → mark_at marks 0 p ≢ 0 → IsTold (mark_at marks 0 p) ts

-- ---- how they are found

-- a number is among these
abbrev pub IsAmong : List ℕ → ℕ → Type 0
IsAmong xs x = (k : ℕ) × (slice_get xs k ≡ Some x)

-- the same of cells: the first holds values, of which a set has those that are called, and the second labels
abbrev pub IsMet : {S : Type 0} → List ℕ → List Cell → ℕ → ℕ → HashSet ℕ S → Touch → Type 0
IsMet tops cells root marked called t = IsWithin tops t.point × (contains nat_eq called (held_at cells root t.point) ≡ true) × (held_at cells marked t.point ≡ t.label) × (t.label ≢ 0)
