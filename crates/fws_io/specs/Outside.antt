-- What shelves and sinks count and tell.
use Rattle.std.specs.Prelude.{ℕ, ◌-◌, ◌^◌, ◌<◌, ◌≡◌, ◌⊎◌, ◌==◌, Bool, List, ◌++◌}
use Rattle.std.specs.List.{list_any}
use Rattle.std.specs.Prelude.{Option, None, Some}

-- a count of faults rose, or stands at the last value of a 64-bit counter
abbrev pub Rose : ℕ → ℕ → Type 0
Rose old new = (old < new) ⊎ (new ≡ 2 ^ 64 - 1)

-- the bytes written, where they are told, and then a further piece
abbrev pub with_more : Option (List ℕ) → List ℕ → Option (List ℕ)
with_more None piece = None
with_more (Some bytes) piece = Some (bytes ++ piece)

-- a list of the numbers of calls names this one
abbrev pub is_listed : List ℕ → ℕ → Bool
is_listed numbers call = list_any (λ number. number == call) numbers
