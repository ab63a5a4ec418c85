-- Tables that name one another in a circle.
use Rattle.std.specs.Prelude.{◌≡◌, ◌≢◌, ℕ, Bool, true, Option, Some, slice_get, List}
use Rattle.std.specs.List.{list_any}
use Rattle.fws_iv.specs.declared.iv.Iv.{Iv}
use Rattle.fws_pf.specs.declared.tables.Table.{Table}
use Rattle.fws_pf.specs.Tables.{table_set}
use Rattle.fws_pf_words.specs.Reached.{IsPlace, reaches, table_at, table_has, table_position}

-- the set is that of the table at the place, under any name for which this place is found
abbrev pub IsSetAt : List Table → List Iv → ℕ → Type 0
IsSetAt tables set p = (name : List ℕ) → table_position tables name ≡ Some p → set ≡ table_set tables name

-- sets at places: each is that of the table there
abbrev pub AreSetsOf : List Table → List (Option (List Iv)) → Type 0
AreSetsOf tables sets = (p : ℕ) (set : List Iv) → slice_get sets p ≡ Some (Some set) → IsSetAt tables set p

-- no place has a set
abbrev pub HasNoSet : List (Option (List Iv)) → Type 0
HasNoSet sets = (p : ℕ) (set : List Iv) → slice_get sets p ≢ Some (Some set)

-- what the table of a name has, is had at the place: by the table there, or by one that it reaches by way of so many tables
abbrev pub LeadsBack : List Table → List ℕ → ℕ → Type 0
LeadsBack tables name p = (n v : ℕ) → reaches n tables v name ≡ true → (m : ℕ) × (table_has (reaches m tables v) v (table_at tables p) ≡ true)

-- places, each of them among all of these, that lead back to a name
pub record IsBack (tables : List Table) (name all places : List ℕ) : Type 0 where
  pub among : (p : ℕ) → IsPlace places p → IsPlace all p
  pub lead : (p : ℕ) → IsPlace places p → LeadsBack tables name p

-- one of the names is that of a table at one of the places
pub record NamesOneOf (tables : List Table) (places : List ℕ) (names : List (List ℕ)) : Type 0 where
  pub name : List ℕ
  pub place : ℕ
  pub found : table_position tables name ≡ Some place
  pub among : IsPlace places place
  pub one : (f : List ℕ → Bool) → f name ≡ true → list_any f names ≡ true
