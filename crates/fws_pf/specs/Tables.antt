-- Tables of addresses, which may name one another (pf.conf(5)).
use Rattle.std.specs.Prelude.{ℕ, zero, suc, ◌-◌, ◌^◌, Bool, is_some, Option, Some, None, List, [], ◌∷◌, ◌++◌, length}
use Rattle.std.specs.List.{find}
use Rattle.std.specs.Option.{option_map_or}
use Rattle.std.specs.Str.{bytes_eq}
use Rattle.fws_iv.specs.declared.iv.Iv.{Iv}
use Rattle.fws_iv.specs.Ivs.{with_range, with_ranges}
use Rattle.fws_pf.specs.declared.tables.Table.{Table}
use Rattle.fws_pf.specs.declared.value_draft.Item.{Item}
use Rattle.fws_pf.specs.declared.value_draft.Part.{Part}
use Rattle.fws_pf.specs.declared.value_draft.Part.TheVariants as parts

-- the table with a name; the first one counts
abbrev pub table_named : List Table → List ℕ → Option Table
table_named tables name = find (λ t. bytes_eq t.name name) tables

abbrev pub has_table : List Table → List ℕ → Bool
has_table tables name = is_some (table_named tables name)

-- a set with the sets of names
abbrev pub with_sets : (List ℕ → List Iv) → List Iv → List (List ℕ) → List Iv
with_sets set_of set [] = set
with_sets set_of set (name ∷ names) = with_sets set_of (with_ranges set (set_of name)) names

-- the addresses that stand in a table, and in those that it names, by way of less than n tables
abbrev pub addresses_within : ℕ → List Table → List ℕ → List Iv
addresses_within zero tables name = []
addresses_within (suc n) tables name = option_map_or (λ t. with_sets (addresses_within n tables) t.own t.named) (table_named tables name) []

-- the addresses of a table: the least sets in which each table has its own addresses and those of the tables that it names. No
-- way from table to table has to meet one twice
abbrev pub table_set : List Table → List ℕ → List Iv
table_set tables name = addresses_within (length tables) tables name

-- the numbers of a value; none where every one is among them
abbrev pub part_set : List Table → Part → Option (List Iv)
part_set tables parts.Every = None
part_set tables (parts.Set set) = Some set
part_set tables (parts.Table name) = Some (table_set tables name)

-- a table with what stands in it
abbrev pub with_member : Part → Table → Table
with_member parts.Every t = record t { own = with_range 0 (2 ^ 32 - 1) t.own }
with_member (parts.Set set) t = record t { own = with_ranges t.own set }
with_member (parts.Table name) t = record t { named = t.named ++ name ∷ [] }

abbrev pub with_members : List Item → Table → Table
with_members [] t = t
with_members (item ∷ items) t = with_members items (with_member item.part t)

abbrev pub empty_table : List ℕ → Table
empty_table name = record { name = name; own = []; named = [] }
