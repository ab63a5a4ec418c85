-- What is gathered from the rows of the table of new packets.
use Rattle.std.specs.Prelude.{◌≡◌, ℕ, true, false, nat_eq, if◌then◌else◌, Option, Some, None, option_and_then, List, [], ◌++◌, length, All, position, slice_get, slice_index_or}
use Rattle.std.specs.Option.{option_map_or}
use Rattle.fws_box.specs.Sides.{IsWithin}
use Rattle.fws_box.specs.declared.field.Field.TheVariants as fields
use Rattle.fws_iv.specs.declared.iv.Iv.{Iv}
use Rattle.fws_iv.specs.Ivs.{has}
use Rattle.fws_net.specs.declared.outcome.End.{End}
use Rattle.fws_net.specs.declared.outcome.Outcome.{Outcome}
use Rattle.fws_net.specs.declared.outcome.Outcome.TheVariants.{Drop, Accept}
use Rattle.fws_net.specs.declared.outcome.Rewrite.{Rewrite}
use Rattle.fws_tree.specs.declared.node.Node.{Node}
use Rattle.fws_tree.specs.declared.node.Node.TheVariants.{Leaf, Cut}
use Rattle.fws_tree.specs.declared.row.Row.{Row}
use Rattle.fws_tree.specs.Plain.{Plain, value}
use Rattle.fws_pf_put.specs.Sources.{IsWrittenOver, same_end}
use Rattle.fws_box.specs.Fields.{value_of}

-- States

abbrev pub rewrite_of : Outcome → Option Rewrite
rewrite_of Drop = None
rewrite_of (Accept w) = Some w

-- what a node writes that is a leaf and accepts
abbrev pub leaf_rewrite : List Outcome → Node → Option Rewrite
leaf_rewrite leaves (Leaf n) = option_and_then rewrite_of (slice_get leaves n)
leaf_rewrite leaves (Cut f kids) = None

-- what the accepting leaf writes that is a state
abbrev pub rewrite_at : List Outcome → List Node → List ℕ → ℕ → Option Rewrite
rewrite_at leaves nodes states k =
    if option_map_or (nat_eq k) (slice_get states k) false then option_and_then (leaf_rewrite leaves) (slice_get nodes k) else None

-- Rows

-- the source that an outcome writes, if it does
abbrev pub source_of : Outcome → Option End
source_of Drop = None
source_of (Accept w) = w.src

-- the end is one of these
abbrev pub IsAmong : List End → End → Type 0
IsAmong ends e = (i : ℕ) × (slice_get ends i ≡ Some e)

-- so is the end, if there is one
abbrev pub IsAmongIf : List End → Option End → Type 0
IsAmongIf ends None = Unit {0}
IsAmongIf ends (Some e) = IsAmong ends e

-- each source that the rows write is one of these
abbrev pub HaveSources : List End → List (Row Outcome) → Type 0
HaveSources ends rows = All (λ row. IsAmongIf ends (source_of row.leaf)) rows

-- more behind
abbrev pub Extends : List End → List End → Type 0
Extends old new = (more : List End) × (new ≡ old ++ more)

-- the sources of the packets of a row
abbrev pub sources_of : Row Outcome → List Iv
sources_of row = slice_index_or row.sides 4 []

-- each member of the one set is a member of the other
abbrev pub IsWithinSet : List Iv → List Iv → Type 0
IsWithinSet s t = (v : ℕ) → has s v ≡ true → has t v ≡ true

-- the set has the sources of a row
pub record Covers (set : List Iv) (row : Row Outcome) : Type 0 where
  pub twelve : length row.sides ≡ 12
  pub sources : IsWithinSet (sources_of row) set

-- the set has the sources of all rows that write the end
abbrev pub CoversAll : End → List Iv → List (Row Outcome) → Type 0
CoversAll e set rows = All (λ row. source_of row.leaf ≡ Some e → Covers set row) rows

-- the set at the place of each end has the sources of all rows that write it
abbrev pub AreSets : List End → List (List Iv) → List (Row Outcome) → Type 0
AreSets ends sets rows = (e : End) (i : ℕ) (s : List Iv) → position (same_end e) ends ≡ Some i → slice_get sets i ≡ Some s → CoversAll e s rows

-- the set at the place of the row's source now has the row's sources, and all have what they had
abbrev pub PutsRow : List End → Row Outcome → List (List Iv) → List (List Iv) → Type 0
PutsRow ends row old new =
    (e : End) (i : ℕ) (s : List Iv) → position (same_end e) ends ≡ Some i → slice_get new i ≡ Some s
    → (source_of row.leaf ≡ Some e → Covers s row) × (t : List Iv) × (slice_get old i ≡ Some t) × IsWithinSet t s

-- each source that the tree gives at a point is written over the point's address
abbrev pub TellSources : List ℕ → Plain Outcome → List End → List (List Iv) → Type 0
TellSources tops t ends sets =
    (p : List ℕ) (w : Rewrite) (e : End) → IsWithin tops p → value t p ≡ Some (Accept w) → w.src ≡ Some e
    → IsWrittenOver ends sets e (value_of p fields.Src)
