-- Instances by their numbers.
use Rattle.std.specs.Prelude.{ℕ}
use Rattle.fws_ipfw.specs.declared.draft.Defined.{Defined}

-- a number and its redirects as an instance that is defined
abbrev pub defined_of : ℕ × ℕ → Defined
defined_of entry = record { number = entry.0; redirects = entry.1 }
