-- An order of names: lists whose names ascend by it are seen to differ in their names in one pass.
use Rattle.std.specs.Prelude.{ℕ, Bool, true, false, ◌&&◌, ◌||◌, nat_eq, nat_lt, List, [], ◌∷◌, length}
use Rattle.fws_ios.specs.declared.config.IosList.{IosList}

-- the first text stands ahead of the second one: it has the lesser number where they first differ, or ends there
abbrev pub precedes : List ℕ → List ℕ → Bool
precedes a [] = false
precedes [] (d ∷ ds) = true
precedes (c ∷ cs) (d ∷ ds) = nat_lt c d || (nat_eq c d && precedes cs ds)

-- by what names are ordered: by their first bytes, then by their lengths, then by all their bytes
abbrev pub rank : List ℕ → List ℕ
rank [] = []
rank (c ∷ cs) = c ∷ length (c ∷ cs) ∷ c ∷ cs

-- the lists have names that ascend from behind this one on
abbrev pub names_ascend : List ℕ → List IosList → Bool
names_ascend name [] = true
names_ascend name (l ∷ ls) = precedes (rank name) (rank l.name) && names_ascend l.name ls
