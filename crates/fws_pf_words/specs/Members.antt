-- The members of a table: its own ranges, and the names of other tables.
use Rattle.std.specs.Prelude.{ℕ, ◌-◌, ◌^◌, Bool, true, false, nat_le, List, [], ◌∷◌, ◌++◌}
use Rattle.std.specs.List.{list_all}
use Rattle.fws_iv.specs.declared.iv.Iv.{Iv}
use Rattle.fws_pf.specs.declared.value_draft.Item.{Item}
use Rattle.fws_pf.specs.declared.value_draft.Part.{Part}
use Rattle.fws_pf.specs.declared.value_draft.Part.TheVariants as parts

-- the numbers of a value that names no table
abbrev pub own_ranges : Part → List Iv
own_ranges parts.Every = record { lo = 0; hi = 2 ^ 32 - 1 } ∷ []
own_ranges (parts.Set set) = set
own_ranges (parts.Table name) = []

abbrev pub item_ranges : Item → List Iv
item_ranges item = own_ranges item.part

-- none of its ranges is empty
abbrev pub is_ranged : Item → Bool
is_ranged item = list_all (λ x. nat_le x.lo x.hi) (own_ranges item.part)

-- the ranges that values stand for, one after another
abbrev pub all_ranges : (Item → List Iv) → List Item → List Iv
all_ranges f [] = []
all_ranges f (item ∷ items) = f item ++ all_ranges f items

-- the name of a table ahead of others, if the value is one
abbrev pub with_name : Part → List (List ℕ) → List (List ℕ)
with_name (parts.Table name) names = name ∷ names
with_name _ names = names

-- the value names no table
abbrev pub is_own : Part → Bool
is_own (parts.Table name) = false
is_own _ = true

-- the tables that values name
abbrev pub names_of : List Item → List (List ℕ)
names_of [] = []
names_of (item ∷ items) = with_name item.part (names_of items)
