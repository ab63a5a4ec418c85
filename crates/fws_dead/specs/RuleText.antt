-- Lines of rules: what is written of rules by their numbers.
use Rattle.std.specs.Prelude.{ℕ, suc, List, [], ◌∷◌, ◌++◌, length, codes, get_or}
use Rattle.std.specs.Fmt.{decimal}
use Rattle.std.specs.List.{flat_map}

-- the line of rule n, which is counted from 0: its number from 1, and its label
abbrev pub rule_line : List (List ℕ) → ℕ → List ℕ
rule_line labels n = decimal (suc n) ++ 32 ∷ get_or labels n [] ++ 10 ∷ []

-- the line of a count, and a line for each of these rules
abbrev pub dead_text : List (List ℕ) → List ℕ → List ℕ
dead_text labels numbers = codes "dead " ++ decimal (length numbers) ++ 10 ∷ flat_map (rule_line labels) numbers
