-- A number for each cell, which is all that a hash is fed of it: equal cells have the same.
use Rattle.std.specs.Prelude.{ℕ, ◌+◌, ◌*◌, ◌^◌, ◌%◌, List, [], ◌∷◌}
use Rattle.std.specs.Int.{rotate_left, w64}
use Rattle.std.specs.Int.Bits.{bit_xor}
use Rattle.fws_tree.specs.declared.store.Step.{Step}
use Rattle.fws_tree.specs.declared.store.Cell.{Cell}
use Rattle.fws_tree.specs.declared.store.Cell.TheVariants.{Leaf, Cut}

-- a sum with one more word
unfoldable pub summed : ℕ → ℕ → ℕ
summed sum word = (bit_xor (rotate_left w64 sum 5) word * 5871781006564002453) % 2 ^ 64

-- a sum with one more word for each step
abbrev pub stepped : ℕ → List Step → ℕ
stepped sum [] = sum
stepped sum (s ∷ ss) = stepped (summed sum (s.hi * 2 ^ 32 + s.node)) ss

-- the sum of all that a cell is made of
abbrev pub digest : Cell → ℕ
digest (Leaf n) = summed 0 n
digest (Cut f ss last) = stepped (summed (f + 1) last) ss
