-- Words that stand for values.
use Rattle.std.specs.Prelude.{ℕ, Option, Some, None, List, [], ◌∷◌, if◌then◌else◌}
use Rattle.std.specs.Str.{bytes_eq}

-- the value of a name in a table of names and their values: that of its first row, none where no row has the name
abbrev pub named_in : {X : Type 0} → List (List ℕ × X) → List ℕ → Option X
named_in [] name = None
named_in (row ∷ rows) name = if bytes_eq name row.0 then Some row.1 else named_in rows name
