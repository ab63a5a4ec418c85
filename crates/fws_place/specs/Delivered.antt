-- How packets are found that have a source written and are sent to one of some addresses, as those that are delivered.
use Rattle.std.specs.Prelude.{◌≡◌, ℕ, ◌+◌, ◌%◌, ◌^◌, ◌<◌, ◌≤◌, Bool, true, false, List, [], slice_index_or, slice_set, Contains, if◌then◌else◌, IsTrue, Option, Some, All, MatchOption}
use Rattle.fws_iv.specs.declared.iv.Iv.{Iv}
use Rattle.fws_iv.specs.Ivs.{has}
use Rattle.fws_net.specs.declared.outcome.Outcome.{Outcome}
use Rattle.fws_net.specs.declared.outcome.Outcome.TheVariants.{Drop, Accept}
use Rattle.fws_net.specs.declared.outcome.Rewrite.{Rewrite}
use Rattle.fws_net.specs.Fates.{written_addr}
use Rattle.fws_tree.specs.declared.row.Row.{Row}
use Rattle.fws_place.specs.Rewritings.{writes_source}
use Rattle.fws_place.specs.Sides.{leasts}
use Rattle.fws_net.specs.declared.outcome.End.{End}
use Rattle.fws_net.specs.declared.site.Site.{Site}
use Rattle.fws_net.specs.Points.{tops_of}
use Rattle.fws_tree.specs.declared.tables.Tables.{Tables}
use Rattle.fws_tree.specs.Plain.{Plain, value}
use Rattle.fws_box.specs.Sides.{IsWithin, sides_have}
use Rattle.fws_box.specs.declared.field.Field.TheVariants as fields
use Rattle.fws_box.specs.Fields.{value_of}

-- Destinations

-- the destination is local once an end that begins at an address, and keeps the rest by its size, is written over it
abbrev pub is_kept_local : List Iv → ℕ → ℕ → ℕ → Bool
is_kept_local local addr size d = has local (addr + d % size)

-- no number from one up to another passes the test
abbrev pub NoneIn : (ℕ → Bool) → ℕ → ℕ → Type 0
NoneIn test from end = (d : ℕ) → from ≤ d → d < end → test d ≡ false

-- the first number from one up to another that passes the test
pub record IsFirstIn (test : ℕ → Bool) (from end d : ℕ) : Type 0 where
  pub begun : from ≤ d
  pub ended : d < end
  pub there : test d ≡ true
  pub first : NoneIn test from d

-- Rows

-- the outcome where it writes a source
abbrev pub with_source : Outcome → Outcome
with_source Drop = Drop
with_source (Accept w) = if writes_source w then Accept w else Drop

-- a packet of the row with this entry and destination is accepted and sent to one of the addresses
pub record IsDelivered (local : List Iv) (row : Row Outcome) (entry dst : ℕ) : Type 0 where
  pub entry_there : has (slice_index_or row.sides 0 []) entry ≡ true
  pub arrives : 1 ≤ entry
  pub dst_there : has (slice_index_or row.sides 2 []) dst ≡ true
  pub rewriting : Rewrite
  pub accepted : row.leaf ≡ Accept rewriting
  pub here : has local (written_addr rewriting.dst dst) ≡ true

-- none is, up to the greatest entry, and what is written over its destinations are addresses
pub record NoneDelivered (local : List Iv) (top : ℕ) (row : Row Outcome) : Type 0 where
  pub none : (entry dst : ℕ) → entry ≤ top → dst < 2 ^ 32 → IsDelivered local row entry dst → ⊥
  pub addresses : (w : Rewrite) → row.leaf ≡ Accept w → (d : ℕ) → d < 2 ^ 32 → written_addr w.dst d < 2 ^ 32

-- the point is the least one of a row but for its entry and destination, with which packets are sent to one of the addresses
pub record IsDeliveredIn (local : List Iv) (top : ℕ) (rows : List (Row Outcome)) (q : List ℕ) : Type 0 where
  pub row : Row Outcome
  pub there : Contains rows row
  pub entry : ℕ
  pub dst : ℕ
  pub entry_low : entry ≤ top
  pub dst_low : dst < 2 ^ 32
  pub delivered : IsDelivered local row entry dst
  pub point : q ≡ slice_set (slice_set (leasts row.sides) 0 entry) 2 dst

-- a number from one up to another that passes the test, which is the first, or there is none
abbrev pub IsFoundFirst : (ℕ → Bool) → ℕ → ℕ → Option ℕ → Type 0
IsFoundFirst test from end found = MatchOption found (NoneIn test from end) (IsFirstIn test from end)

-- the same of an address in a range with its ends
abbrev pub IsIn : (ℕ → Bool) → ℕ → ℕ → Option ℕ → Type 0
IsIn test lo hi o = MatchOption o (NoneIn test lo (hi + 1)) (λ x. (lo ≤ x) × (x ≤ hi) × (test x ≡ true) × (x < 2 ^ 32) × NoneIn test lo x)

-- a member of the set that passes the test, or there is none
abbrev pub IsFoundIn : (ℕ → Bool) → List Iv → Option ℕ → Type 0
IsFoundIn test set found =
    MatchOption found ((d : ℕ) → has set d ≡ true → test d ≡ false) (λ d. (d < 2 ^ 32) × (has set d ≡ true) × (test d ≡ true))

-- a member of the set over which a local address is written, or there is none
abbrev pub IsFoundWritten : List Iv → Option End → List Iv → Option ℕ → Type 0
IsFoundWritten local end set found = MatchOption found
    ((d : ℕ) → d < 2 ^ 32 → has set d ≡ true → has local (written_addr end d) ≡ true → ⊥)
    (λ d. (has set d ≡ true) × (has local (written_addr end d) ≡ true) × (d < 2 ^ 32))

-- a point of a row whose packets are sent to one of the addresses, or no row has one
abbrev pub IsFoundDelivered : List Iv → ℕ → List (Row Outcome) → Option (List ℕ) → Type 0
IsFoundDelivered local top rows found = MatchOption found (All (NoneDelivered local top) rows) (IsDeliveredIn local top rows)

-- Trees

-- each row has the tree's value at its points
abbrev pub AreRightRows : List ℕ → Plain Outcome → List (Row Outcome) → Type 0
AreRightRows tops t rows = (p : List ℕ) → IsWithin tops p → All (λ row. IsTrue (sides_have row.sides p) → value t p ≡ Some row.leaf) rows

-- the tree has the outcomes of new packets that write a source, and drops for the others
abbrev pub AreAllSources : Site → Tables → Plain Outcome → Type 0
AreAllSources site tables t =
    (q : List ℕ) → IsWithin (tops_of site) q → (o : Outcome) × (value tables.fresh.1 q ≡ Some o) × (value t q ≡ Some (with_source o))

-- the same at entries that pass the test, and drops elsewhere
abbrev pub AreSources : Site → Tables → (ℕ → Bool) → Plain Outcome → Type 0
AreSources site tables keeps t = (q : List ℕ) → IsWithin (tops_of site) q
    → (o : Outcome) × (value tables.fresh.1 q ≡ Some o) × (value t q ≡ Some (if keeps (value_of q fields.Entry) then with_source o else Drop))
