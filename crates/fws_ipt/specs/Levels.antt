-- Tables over the chains for paths of so many steps, each made from the one before, for the slow model.
use Rattle.std.specs.Prelude.{ℕ, ◌+◌, Bool, false, ◌||◌, nat_eq, min, slice_get, unwrap_or, Option, List, map, sum}
use Rattle.std.specs.List.{list_any}
use Rattle.std.specs.Option.{option_map_or}
use Rattle.fws_ipt.specs.declared.config.IptChain.{IptChain}
use Rattle.fws_ipt.specs.Refusals.{all_named, chain_width}

-- what a table has for a chain; nothing past its end
abbrev pub flag_at : List Bool → ℕ → Bool
flag_at table c = unwrap_or (slice_get table c) false

-- a chain is the one that is looked for, if one is, or the table has it
abbrev pub is_met : Option ℕ → List Bool → ℕ → Bool
is_met to before c = option_map_or (nat_eq c) to false || flag_at before c

-- one step more than in the table before
abbrev pub flag_behind : Option ℕ → List Bool → IptChain → Bool
flag_behind to before chain = list_any (is_met to before) (all_named chain.rules)

abbrev pub size_at : List ℕ → ℕ → ℕ
size_at table c = unwrap_or (slice_get table c) 0

-- numbers past 1,000,000 are all alike
abbrev pub capped : ℕ → ℕ
capped n = min n 1000001

-- the size of a chain by the table of sizes that are one chain less deep
abbrev pub size_behind : ℕ → List ℕ → IptChain → ℕ
size_behind f before chain = capped (chain_width f chain + sum (map (size_at before) (all_named chain.rules)))
