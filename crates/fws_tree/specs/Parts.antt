-- Two cells together at a field, where most of the first one stays.
use Rattle.std.specs.Prelude.{◌≡◌, ◌⊎◌, ℕ, ◌+◌, ◌<◌, ◌≤◌, nat_eq, if◌then◌else◌, Option, Some, None, List, [], ◌∷◌, ◌++◌, map, length, slice_index, slice_range, All}
use Rattle.std.specs.List.{flat_map}
use Rattle.fws_tree.specs.declared.narrow.Part.{Part}
use Rattle.fws_tree.specs.declared.store.Step.{Step}
use Rattle.fws_tree.specs.declared.store.Cell.{Cell}
use Rattle.fws_tree.specs.declared.store.Cell.TheVariants.{Leaf, Cut}
use Rattle.fws_tree.specs.declared.together.Both.{Both}
use Rattle.fws_tree.specs.Held.{held_at}
use Rattle.fws_tree.specs.Merged.{left_at, right_at, IsSkipped}

-- the second cell is one at which each first one stays
abbrev pub CanStay : (ℕ → ℕ → ℕ → Type 0) → List Cell → Option ℕ → Type 0
CanStay gives cells stay = (k : ℕ) → stay ≡ Some k → (k < length cells) × ((p : List ℕ) (x : ℕ) → gives x (held_at cells k p) x)

-- the first cell stays where it meets the second: it is skipped, or the second one is that at which all stay
abbrev pub Stays : List ℕ → ℕ → Option ℕ → ℕ → ℕ → Type 0
Stays masks wanted stay left right = IsSkipped masks wanted left ⊎ (stay ≡ Some right)

-- the steps of a cell, if it cuts the field
abbrev pub cut_steps : ℕ → Cell → List Step
cut_steps f (Leaf n) = []
cut_steps f (Cut g ss last) = if nat_eq g f then ss else []

-- the steps of a cell that is there, if it cuts the field
abbrev pub own_steps : ℕ → Option Cell → List Step
own_steps f None = []
own_steps f (Some c) = cut_steps f c

-- a step of the first cell beside the second cell
abbrev pub both_with : ℕ → Step → Both
both_with right s = record { hi = s.hi; left = s.node; right = right }

-- the steps of a part over both cells
abbrev pub part_steps : List Step → Part → List Both
part_steps steps p = map (both_with p.right) (slice_range steps p.from p.to) ++ record { hi = p.hi; left = p.left; right = p.right } ∷ []

-- all steps over both cells: those of the parts, and those of a last run
abbrev pub all_steps : List Step → List Part → ℕ → ℕ → ℕ → List Both
all_steps steps parts from to right = flat_map (part_steps steps) parts ++ map (both_with right) (slice_range steps from to)

-- the run of a part lies within the steps and stays, and the cells behind it are below n and m
pub record IsPart (masks : List ℕ) (wanted : ℕ) (stay : Option ℕ) (steps : List Step) (n m : ℕ) (part : Part) : Type 0 where
  pub order : (part.from ≤ part.to) × (part.to ≤ length steps)
  pub run : All (λ s. Stays masks wanted stay s.node part.right) (slice_range steps part.from part.to)
  pub below : (part.left < n) × (part.right < m)

-- a part of which the cells behind the run stand in the store, and are less than the two cells together
pub record IsPartOf (cells : List Cell) (masks : List ℕ) (wanted : ℕ) (stay : Option ℕ) (a b : ℕ) (steps : List Step) (part : Part) : Type 0 where
  pub order : (part.from ≤ part.to) × (part.to ≤ length steps)
  pub run : All (λ s. Stays masks wanted stay s.node part.right) (slice_range steps part.from part.to)
  pub below : (part.left < length cells) × (part.right < length cells) × (part.left + part.right < a + b)

-- parts over cells a and b at field f, the last run of the first one's steps, which stays, and the last cells: what they
-- lead to holds what a and b hold
pub record AreParted (cells : List Cell) (masks : List ℕ) (wanted : ℕ) (stay : Option ℕ) (a b f : ℕ) (steps : List Step) (parts : List Part) (from to left right : ℕ) : Type 0 where
  pub held_left : (p : List ℕ) → held_at cells a p ≡ held_at cells (left_at (all_steps steps parts from to right) left (slice_index p f)) p
  pub held_right : (p : List ℕ) → held_at cells b p ≡ held_at cells (right_at (all_steps steps parts from to right) right (slice_index p f)) p
  pub nodes : All (λ s. s.node < length cells) steps
  pub each : All (λ part. IsPartOf cells masks wanted stay a b steps part) parts
  pub order : (from ≤ to) × (to ≤ length steps)
  pub run : All (λ s. Stays masks wanted stay s.node right) (slice_range steps from to)
  pub last : (left < length cells) × (right < length cells) × (left + right < a + b)
