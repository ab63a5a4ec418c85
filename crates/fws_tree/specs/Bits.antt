-- Bits of values, and masks that cover those of all values below a cell.
use Rattle.std.specs.Prelude.{◌≡◌, ℕ, ◌-◌, ◌^◌, ◌<◌, List, slice_index, slice_index_or, length, bit_and}
use Rattle.fws_tree.specs.declared.store.Cell.{Cell}
use Rattle.fws_tree.specs.Held.{held_at}

-- the bits of a value by its number: all 64 where there is none
abbrev pub bits_in : List ℕ → ℕ → ℕ
bits_in values n = slice_index_or values n (2 ^ 64 - 1)

-- whatever bits are asked for, the mask has one of them where b has
abbrev pub Covers : ℕ → ℕ → Type 0
Covers mask b = (wanted : ℕ) → bit_and mask wanted ≡ 0 → bit_and b wanted ≡ 0

-- the masks of the first cells cover the bits of what they hold
abbrev pub AreMasks : List ℕ → List Cell → List ℕ → Type 0
AreMasks values cells masks = (at : ℕ) → at < length masks → (at < length cells) × ((p : List ℕ) → Covers (slice_index masks at) (bits_in values (held_at cells at p)))
