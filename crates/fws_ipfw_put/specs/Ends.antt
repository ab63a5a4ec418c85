-- The ends that new packets get.
use Rattle.std.specs.Prelude.{◌≡◌, ℕ, ◌≤◌, ◌<◌, ◌^◌, Option, Some, None, List, ◌++◌, All, slice_get}
use Rattle.fws_box.specs.Sides.{IsWithin}
use Rattle.fws_net.specs.declared.outcome.End.{End}
use Rattle.fws_net.specs.declared.outcome.Outcome.{Outcome}
use Rattle.fws_net.specs.declared.outcome.Outcome.TheVariants.{Drop, Accept}
use Rattle.fws_net.specs.declared.outcome.Rewrite.{Rewrite}
use Rattle.fws_place.specs.declared.redirect.Redirect.{Redirect}
use Rattle.fws_tree.specs.declared.row.Row.{Row}
use Rattle.fws_tree.specs.Plain.{Plain, value}

-- the end is one of these
abbrev pub IsAmong : List End → End → Type 0
IsAmong ends e = (i : ℕ) × (slice_get ends i ≡ Some e)

-- so is the end, if there is one
abbrev pub IsAmongIf : List End → Option End → Type 0
IsAmongIf ends None = Unit {0}
IsAmongIf ends (Some e) = IsAmong ends e

-- the source that an outcome writes is one of these
abbrev pub IsSourceOf : List End → Outcome → Type 0
IsSourceOf ends Drop = Unit {0}
IsSourceOf ends (Accept w) = IsAmongIf ends w.src

-- each source that the rows write is one of these
abbrev pub HaveSources : List End → List (Row Outcome) → Type 0
HaveSources ends rows = All (λ row. IsSourceOf ends row.leaf) rows

-- each destination of the redirects is one of these
abbrev pub HaveDestinations : List End → List Redirect → Type 0
HaveDestinations ends redirects = All (λ r. IsAmong ends r.local) redirects

-- more behind
abbrev pub Extends : List End → List End → Type 0
Extends old new = (more : List End) × (new ≡ old ++ more)

-- each source that the tree gives at a point is one of these
abbrev pub HasSources : List ℕ → Plain Outcome → List End → Type 0
HasSources tops t ends = (p : List ℕ) (w : Rewrite) (e : End) → IsWithin tops p → value t p ≡ Some (Accept w) → w.src ≡ Some e → IsAmong ends e

-- an address and a port in their ranges
abbrev pub FitsPort : Option ℕ → Type 0
FitsPort None = Unit {0}
FitsPort (Some port) = port ≤ 65535

abbrev pub FitsEnd : End → Type 0
FitsEnd e = (e.addr < 2 ^ 32) × FitsPort e.port
