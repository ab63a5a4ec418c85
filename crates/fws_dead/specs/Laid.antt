-- What is written over numbers.
use Rattle.std.specs.Prelude.{ℕ, ◌+◌, ◌-◌, ◌%◌, ◌^◌}
use Rattle.fws_dead.specs.declared.laid.Laid.{Laid}

-- a number with the value over it: its last bits are kept
abbrev pub laid_over : Laid → ℕ → ℕ
laid_over l x = l.value + x % 2 ^ l.kept

-- the first number behind one of which the bits but for the last ones are others
abbrev pub next_block : ℕ → ℕ → ℕ
next_block x kept = x - x % 2 ^ kept + 2 ^ kept
