-- What the builder of reduced trees keeps.
use Rattle.std.specs.Prelude.{◌≡◌, ℕ, ◌+◌, ◌≤◌, ◌⊎◌, nat_lt, true, Some, map, List, [], ◌∷◌, ◌++◌, slice_get, if◌then◌else◌}
use Rattle.std.specs.List.{AllByRecursion}
use Rattle.fws_iv.specs.declared.iv.Iv.{Iv}
use Rattle.fws_iv.specs.Ivs.{has, IsRegular}
use Rattle.fws_tree.specs.declared.join.Piece.{Piece}
use Rattle.fws_tree.specs.declared.node.Kid.{Kid}
use Rattle.fws_tree.specs.declared.node.Node.{Node}
use Rattle.fws_tree.specs.declared.row.Row.{Row}
use Rattle.fws_tree.specs.Nodes.{AreOrderedFrom}

-- no item stands at two places
abbrev pub AreDifferent : {X : Type 0} → List X → Type 0
AreDifferent {X} xs = (i j : ℕ) (x : X) → slice_get xs i ≡ Some x → slice_get xs j ≡ Some x → i ≡ j

-- how many kids have the value
abbrev pub kid_hits : List Kid → ℕ → ℕ
kid_hits [] x = 0
kid_hits (k ∷ ks) x = (if has k.set x then 1 else 0) + kid_hits ks x

-- the least member of a set
abbrev pub IsLeast : List Iv → ℕ → Type 0
IsLeast s least = (has s least ≡ true) × ((x : ℕ) → has s x ≡ true → least ≤ x)

-- the least values of the kids are at least from and do not fall
abbrev pub LeastsRise : ℕ → List Kid → Type 0
LeastsRise from [] = Unit {0}
LeastsRise from (k ∷ ks) = (least : ℕ) × (from ≤ least) × IsLeast k.set least × LeastsRise least ks

-- nodes of which each names earlier ones alone, and no two are equal
pub record IsArena (ns : List Node) : Type 0 where
  pub ordered : AreOrderedFrom 0 ns
  pub different : AreDifferent ns

-- the list with more behind
abbrev pub Extends : {X : Type 0} → List X → List X → Type 0
Extends {X} old new = (more : List X) × (new ≡ old ++ more)

-- pieces one behind the other without gaps, from a number on, none empty
abbrev pub AreInRow : {T : Type 0} → ℕ → List (Piece T) → Type 0
AreInRow from [] = Unit {0}
AreInRow from (p ∷ ps) = (p.lo ≡ from) × (p.lo ≤ p.hi) × AreInRow (p.hi + 1) ps

-- where the next piece begins
abbrev pub end_of : {T : Type 0} → ℕ → List (Piece T) → ℕ
end_of from [] = from
end_of from (p ∷ ps) = end_of (p.hi + 1) ps

-- a kid with this node has the value
abbrev pub HasKid : List Kid → ℕ → ℕ → Type 0
HasKid [] n x = ⊥
HasKid (k ∷ ks) n x = ((k.node ≡ n) × (has k.set x ≡ true)) ⊎ HasKid ks n x

-- kids for the values below the end: each lies in one of them, and their least values rise
pub record AreKidsTo (end : ℕ) (ks : List Kid) : Type 0 where
  pub regular : AllByRecursion (λ k. IsRegular k.set) ks
  pub hits : (x : ℕ) → kid_hits ks x ≡ (if nat_lt x end then 1 else 0)
  pub rise : LeastsRise 0 ks

-- numbers that stand for the leaves of rows, by their places in a list
abbrev pub AreNumbersOf : {L : Type 0} → List L → List ℕ → List (Row L) → Type 0
AreNumbersOf leaves numbers rows = map (λ n. slice_get leaves n) numbers ≡ map (λ r. Some r.leaf) rows
