-- What the numbered cells of a working store hold at a point: each names earlier ones alone.
use Rattle.std.specs.Prelude.{Bool, ◌&&◌, ℕ, suc, ◌<◌, nat_le, nat_eq, if◌then◌else◌, Option, Some, None, List, [], ◌∷◌, ◌++◌, slice_index, All}
use Rattle.fws_tree.specs.declared.store.Step.{Step}
use Rattle.fws_tree.specs.declared.store.Cell.{Cell}
use Rattle.fws_tree.specs.declared.store.Cell.TheVariants.{Leaf, Cut}

-- the cell of the first step that reaches x, else the last
abbrev pub child_at : List Step → ℕ → ℕ → ℕ
child_at [] last x = last
child_at (s ∷ ss) last x = if nat_le x s.hi then s.node else child_at ss last x

-- what v gives of the cell of the first step that reaches x, else z
abbrev pub pick : (ℕ → ℕ) → List Step → ℕ → ℕ → ℕ
pick v [] z x = z
pick v (s ∷ ss) z x = if nat_le x s.hi then v s.node else pick v ss z x

-- what a cell holds at a point, after what the earlier ones hold there
abbrev pub held_over : List ℕ → List ℕ → Cell → ℕ
held_over p held (Leaf n) = n
held_over p held (Cut f ss last) = slice_index held (child_at ss last (slice_index p f))

-- what cells hold at a point, after what the earlier ones hold there
abbrev pub held_after : List ℕ → List ℕ → List Cell → List ℕ
held_after p held [] = held
held_after p held (c ∷ cs) = held_after p (held ++ held_over p held c ∷ []) cs

-- what the cell with this number holds at a point
abbrev pub held_at : List Cell → ℕ → List ℕ → ℕ
held_at cells at p = slice_index (held_after p [] cells) at

-- a cell that names cells below n alone
abbrev pub IsCellBelow : ℕ → Cell → Type 0
IsCellBelow n (Leaf k) = Unit {0}
IsCellBelow n (Cut f ss last) = All (λ s. s.node < n) ss × (last < n)

-- each cell names earlier ones alone
abbrev pub AreOrderedFrom : ℕ → List Cell → Type 0
AreOrderedFrom n [] = Unit {0}
AreOrderedFrom n (c ∷ cs) = IsCellBelow n c × AreOrderedFrom (suc n) cs

-- the field that a cell cuts
abbrev pub field_of : Cell → Option ℕ
field_of (Leaf n) = None
field_of (Cut f ss last) = Some f

-- of two numbers the second where the first is 0
abbrev pub over_leaf : ℕ → ℕ → ℕ
over_leaf a b = if nat_eq a 0 then b else a

-- two pairs are equal
abbrev pub pair_eq : ℕ × ℕ → ℕ × ℕ → Bool
pair_eq p q = nat_eq p.0 q.0 && nat_eq p.1 q.1
