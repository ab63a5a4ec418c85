-- Which tables are reached from a name.
use Rattle.std.specs.Prelude.{◌≡◌, ℕ, zero, suc, ◌+◌, ◌<◌, ◌≤◌, Bool, true, false, ◌||◌, nat_eq, Option, Some, None, position, slice_index_or, length, List, [], ◌∷◌, ◌++◌}
use Rattle.std.specs.List.{list_any, IsDistinct}
use Rattle.std.specs.Option.{option_map_or}
use Rattle.std.specs.Str.{bytes_eq}
use Rattle.indexmap.specs.IndexSet.{insert_key}
use Rattle.fws_iv.specs.declared.iv.Iv.{Iv}
use Rattle.fws_iv.specs.Ivs.{has, IsRegular}
use Rattle.fws_pf.specs.declared.tables.Table.{Table}
use Rattle.fws_pf.specs.Tables.{empty_table, table_named}

-- the place of the table with a name; the first one counts
abbrev pub table_position : List Table → List ℕ → Option ℕ
table_position tables name = position (λ t. bytes_eq t.name name) tables

abbrev pub table_at : List Table → ℕ → Table
table_at tables p = slice_index_or tables p (empty_table [])

-- places with a further one, unless it is among them
abbrev pub with_found : List ℕ → Option ℕ → List ℕ
with_found places None = places
with_found places (Some p) = insert_key nat_eq places p

abbrev pub with_place : List Table → List ℕ → List ℕ → List ℕ
with_place tables places name = with_found places (table_position tables name)

abbrev pub with_places : List Table → List ℕ → List (List ℕ) → List ℕ
with_places tables places [] = places
with_places tables places (name ∷ names) = with_places tables (with_place tables places name) names

-- the place is one of these
abbrev pub IsPlace : List ℕ → ℕ → Type 0
IsPlace places p = list_any (nat_eq p) places ≡ true

-- the place of the table with a name is among these, if there is such a table
abbrev pub IsFound : List Table → List ℕ → List ℕ → Type 0
IsFound tables places name = (p : ℕ) → table_position tables name ≡ Some p → IsPlace places p

abbrev pub AreFound : List Table → List ℕ → List (List ℕ) → Type 0
AreFound tables places [] = Unit {0}
AreFound tables places (name ∷ names) = IsFound tables places name × AreFound tables places names

-- a table has a number, or one of its names does
abbrev pub table_has : (List ℕ → Bool) → ℕ → Table → Bool
table_has name_has v t = has t.own v || list_any name_has t.named

-- a number stands in the table of a name, or in one that this reaches by way of less than n tables
abbrev pub reaches : ℕ → List Table → ℕ → List ℕ → Bool
reaches zero tables v name = false
reaches (suc n) tables v name = option_map_or (table_has (reaches n tables v) v) (table_named tables name) false

-- the places of the tables that a name reaches
pub record IsClosure (tables : List Table) (name places : List ℕ) : Type 0 where
  pub below : (p : ℕ) → IsPlace places p → p < length tables
  pub root : IsFound tables places name
  pub closed : (p : ℕ) → IsPlace places p → AreFound tables places (table_at tables p).named
  pub within : (p v : ℕ) → IsPlace places p → has (table_at tables p).own v ≡ true → reaches (length tables) tables v name ≡ true

-- places that a name reaches; all that the tables at those ahead of the next one name is among them, and what the table at a place
-- reaches the name reaches by way of so many tables more as stand ahead of it
pub record IsReached (tables : List Table) (name places : List ℕ) (next : ℕ) : Type 0 where
  pub distinct : IsDistinct nat_eq places
  pub below : (p : ℕ) → IsPlace places p → p < length tables
  pub root : IsFound tables places name
  pub closed : (k : ℕ) → k < next → AreFound tables places (table_at tables (slice_index_or places k 0)).named
  pub within : (k m n v : ℕ) → k < length places → m + k < n → table_has (reaches m tables v) v (table_at tables (slice_index_or places k 0)) ≡ true → reaches n tables v name ≡ true
  pub room : next ≤ length places

-- the addresses that stand in the tables at places
abbrev pub own_ranges : List Table → List ℕ → List Iv
own_ranges tables [] = []
own_ranges tables (p ∷ places) = (table_at tables p).own ++ own_ranges tables places

abbrev pub AreRegularAt : List Table → List ℕ → Type 0
AreRegularAt tables [] = Unit {0}
AreRegularAt tables (p ∷ places) = IsRegular (table_at tables p).own × AreRegularAt tables places
