-- Trees and sides by a test of points.
use Rattle.std.specs.Prelude.{◌≡◌, ℕ, Bool, false, Option, Some, List, if◌then◌else◌}
use Rattle.fws_box.specs.Sides.{IsWithin, sides_have}
use Rattle.fws_iv.specs.declared.iv.Iv.{Iv}
use Rattle.fws_net.specs.declared.site.Site.{Site}
use Rattle.fws_net.specs.Points.{tops_of}
use Rattle.fws_tree.specs.Plain.{Plain, value}
use Rattle.fws_place.specs.Lost.{is_lost_at}

-- the sides have just the points that pass the test
abbrev pub HaveWhere : List ℕ → (List ℕ → Bool) → List (List Iv) → Type 0
HaveWhere tops test sides = (p : List ℕ) → IsWithin tops p → sides_have sides p ≡ test p

-- the new tree has these values where the test passes, and is false elsewhere
abbrev pub IsKept : List ℕ → (List ℕ → Bool) → (List ℕ → Option Bool) → Plain Bool → Type 0
IsKept tops test v new = (q : List ℕ) → IsWithin tops q → value new q ≡ (if test q then v q else Some false)

-- the new tree has this one's values where the test passes, and is false elsewhere
abbrev pub IsKeptWhere : List ℕ → (List ℕ → Bool) → Plain Bool → Plain Bool → Type 0
IsKeptWhere tops test tree new = IsKept tops test (λ q. value tree q) new

-- the new tree is false at lost pairs, and has this one's values elsewhere
abbrev pub HasNoLost : Site → Plain Bool → Plain Bool → Type 0
HasNoLost site tree new = (p : List ℕ) → IsWithin (tops_of site) p → value new p ≡ (if is_lost_at site p then Some false else value tree p)

-- the new tree's leaf is made of the truth values of three trees
abbrev pub AreMixed : {L : Type 0} → (Bool → Bool → Bool → L) → List ℕ → Plain Bool → Plain Bool → Plain Bool → Plain L → Type 0
AreMixed {L} made tops first second third new = (q : List ℕ) → IsWithin tops q
    → (a : Bool) × (b : Bool) × (c : Bool)
    × (value first q ≡ Some a) × (value second q ≡ Some b) × (value third q ≡ Some c) × (value new q ≡ Some (made a b c))
