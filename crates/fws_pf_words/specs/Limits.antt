-- How many rules a statement makes, and may make.
use Rattle.std.specs.Prelude.{ℕ, max, nat_lt, Option, None, Some, List, length, if◌then◌else◌}
use Rattle.fws_pf.specs.declared.value_draft.Item.{Item}

-- the number, unless it is more than 200,000
abbrev pub within_limit : ℕ → Option ℕ
within_limit n = if nat_lt 200000 n then None else Some n

-- how many conditions the values of a place are
abbrev pub place_size : List Item → ℕ
place_size items = max 1 (length items)
