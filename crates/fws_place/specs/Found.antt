-- What is found in a tree of truth values.
use Rattle.std.specs.Prelude.{◌≡◌, ℕ, Bool, true, Option, Some, List, Contains, MatchOption}
use Rattle.fws_box.specs.Sides.{IsWithin}
use Rattle.fws_net.specs.declared.connection.Rec.{Rec}
use Rattle.fws_net.specs.declared.packet.Packet.{Packet}
use Rattle.fws_net.specs.declared.site.Site.{Site}
use Rattle.fws_tree.specs.declared.row.Row.{Row}
use Rattle.fws_tree.specs.declared.tables.Tables.{Tables}
use Rattle.fws_tree.specs.Plain.{Plain, value}
use Rattle.fws_place.specs.declared.breach.Pair.{Pair}
use Rattle.fws_place.specs.declared.clause.Clause.{Clause}
use Rattle.fws_place.specs.Clauses.{Breaks, NamesPair}
use Rattle.fws_place.specs.Fits.{Meets}
use Rattle.fws_place.specs.Meaning.{IsPairOf, point_of}
use Rattle.fws_place.specs.Sides.{leasts}

-- the point is the least one of a row that is true
abbrev pub IsTrueIn : List (Row Bool) → List ℕ → Type 0
IsTrueIn rows p = (row : Row Bool) × Contains rows row × (row.leaf ≡ true) × (p ≡ leasts row.sides)

-- the tree is true at this point
abbrev pub IsTrueAt : List ℕ → Plain Bool → List ℕ → Type 0
IsTrueAt tops t p = IsWithin tops p × (value t p ≡ Some true)

-- the tree is true nowhere
abbrev pub IsTrueNowhere : List ℕ → Plain Bool → Type 0
IsTrueNowhere tops t = (p : List ℕ) → IsTrueAt tops t p → ⊥

-- the tree is true at the named pair
abbrev pub IsNamedPair : Site → Plain Bool → Pair × Option Pair → Type 0
IsNamedPair site t named = NamesPair site (λ p r. value t (point_of p r) ≡ Some true) named.0 named.1

-- the tree is true at no pair
abbrev pub IsTrueAtNoPair : Site → Plain Bool → Type 0
IsTrueAtNoPair site t = (p : Packet) (r : Rec) → IsPairOf site p r → value t (point_of p r) ≡ Some true → ⊥

-- what was looked for: packets that break the clause, or that there are none
abbrev pub IsSought : Site → Tables → Clause → Option (Pair × Option Pair) → Type 0
IsSought site tables clause found = MatchOption found (Meets site tables clause) (λ named. Breaks site tables clause named.0 named.1)
