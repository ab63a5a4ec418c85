-- Hulls: bounds of points, and those of the points of classes.
use Rattle.std.specs.Prelude.{◌≡◌, ℕ, ◌<◌, ◌≤◌, Bool, true, ◌&&◌, nat_eq, Some, List, length, slice_get, slice_index}
use Rattle.std.specs.List.{list_any}
use Rattle.fws_exec.specs.declared.hulls.Change.{Change}
use Rattle.fws_exec.specs.declared.hull.Hull.{Hull}

-- a point of twelve values, each of which lies between the least and the greatest one of its field
pub record HasPoint (h : Hull) (p : List ℕ) : Type 0 where
  pub twelve : length p ≡ 12
  pub low : (k : ℕ) → k < 12 → slice_index h.lo k ≤ slice_index p k
  pub high : (k : ℕ) → k < 12 → slice_index p k ≤ slice_index h.hi k

-- a point of the hull with a number
abbrev pub HasAt : List Hull → ℕ → List ℕ → Type 0
HasAt hulls n p = (h : Hull) × (slice_get hulls n ≡ Some h) × HasPoint h p

-- no hull loses a point
abbrev pub HullsGrow : List Hull → List Hull → Type 0
HullsGrow old new = (n : ℕ) (p : List ℕ) → HasAt old n p → HasAt new n p

-- one of the changes is that of class x to class z
abbrev pub is_noted : List Change → ℕ → ℕ → Bool
is_noted changes x z = list_any (λ c. nat_eq x c.from && nat_eq z c.to) changes

-- what was noted stays so
abbrev pub NotesStay : List Change → List Change → Type 0
NotesStay old new = (x z : ℕ) → is_noted old x z ≡ true → is_noted new x z ≡ true

-- the change of a class whose number passes the test is noted
abbrev pub IsChange : (ℕ → Bool) → List Change → ℕ → ℕ → Type 0
IsChange called changes x z = called x ≡ true → is_noted changes x z ≡ true

-- points of the second hull that lay in that of a class lie in that of a class to which it changed
abbrev pub AreSettled : List Change → Hull → List Hull → List Hull → Type 0
AreSettled changes area old new = (x z : ℕ) (p : List ℕ) → is_noted changes x z ≡ true → HasAt old x p → HasPoint area p → HasAt new z p
