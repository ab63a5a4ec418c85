-- Tables over the chains for paths of so many steps, each made from the one before.
use Rattle.std.specs.Prelude.{ℕ, ◌+◌, Bool, false, is_some, min, slice_get, unwrap_or, List, map, sum}
use Rattle.std.specs.List.{list_any}
use Rattle.fws_unfold.specs.declared.calls.Shape.{Shape}

-- what a table has for a chain; nothing past its end
abbrev pub flag_at : List Bool → ℕ → Bool
flag_at table c = unwrap_or (slice_get table c) false

-- the chain names some chain
abbrev pub is_naming : Shape → Bool
is_naming shape = is_some (slice_get shape.names 0)

-- one step more than in the table before
abbrev pub flag_behind : List Bool → Shape → Bool
flag_behind before shape = list_any (flag_at before) shape.names

abbrev pub size_at : List ℕ → ℕ → ℕ
size_at table c = unwrap_or (slice_get table c) 0

-- numbers past 1,000,000 are all alike
abbrev pub capped : ℕ → ℕ
capped n = min n 1000001

-- the size of a chain by the table of sizes that are one chain less deep
abbrev pub size_behind : List ℕ → Shape → ℕ
size_behind before shape = capped (shape.rules + sum (map (size_at before) shape.names))
