-- Two cells merged into one by a rule.
use Rattle.std.specs.Prelude.{◌≡◌, ℕ, ◌<◌, nat_le, if◌then◌else◌, Some, None, List, [], ◌∷◌, slice_index, slice_get, length, bit_and}
use Rattle.std.specs.HashMap.{get}
use Rattle.fws_tree.specs.declared.memo.Memo.{Memo}
use Rattle.fws_tree.specs.declared.store.Cell.{Cell}
use Rattle.fws_tree.specs.declared.together.Both.{Both}
use Rattle.fws_tree.specs.Held.{held_at, field_of, pair_eq}

-- the first cell of the first step that reaches x, else the last one
abbrev pub left_at : List Both → ℕ → ℕ → ℕ
left_at [] last x = last
left_at (s ∷ ss) last x = if nat_le x s.hi then s.left else left_at ss last x

-- the second cell of the first step that reaches x, else the last one
abbrev pub right_at : List Both → ℕ → ℕ → ℕ
right_at [] last x = last
right_at (s ∷ ss) last x = if nat_le x s.hi then s.right else right_at ss last x

-- one of two cells, or both, is a cut
abbrev pub HaveCut : List Cell → ℕ → ℕ → Type 0
HaveCut cells a b = (c d : Cell) → slice_get cells a ≡ Some c → slice_get cells b ≡ Some d → field_of c ≡ None → field_of d ≡ None → ⊥

-- at each point the cell r of the new cells holds what the rule may give for what a and b of the old ones hold
abbrev pub IsMerged : (ℕ → ℕ → ℕ → Type 0) → List Cell → List Cell → ℕ → ℕ → ℕ → Type 0
IsMerged gives old new a b r = (p : List ℕ) → gives (held_at old a p) (held_at old b p) (held_at new r p)

-- each entry of a memo is a merge in the store
abbrev pub AreKnown : (ℕ → ℕ → ℕ → Type 0) → List Cell → Memo → Type 0
AreKnown gives cells memo = (a b r : ℕ) → get pair_eq memo.found (a, b) ≡ Some r → (a < length cells) × (b < length cells) × (r < length cells) × IsMerged gives cells cells a b r

-- the cell has a mask, and none of the wanted bits is in it
abbrev pub IsSkipped : List ℕ → ℕ → ℕ → Type 0
IsSkipped masks wanted at = (at < length masks) × (bit_and (slice_index masks at) wanted ≡ 0)

-- a cell that is skipped may stay as it is, whatever it meets
abbrev pub CanSkip : (ℕ → ℕ → ℕ → Type 0) → List Cell → List ℕ → ℕ → Type 0
CanSkip gives cells masks wanted = (at : ℕ) → IsSkipped masks wanted at → (at < length cells) × ((p : List ℕ) (y : ℕ) → gives (held_at cells at p) y (held_at cells at p))

-- it is no leaf
abbrev pub IsCutCell : List Cell → ℕ → Type 0
IsCutCell cells at = (c : Cell) → slice_get cells at ≡ Some c → field_of c ≡ None → ⊥
