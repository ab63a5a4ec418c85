-- How tags tell the number of the end that is held: one tag for each of its bits.
use Rattle.std.specs.Prelude.{ℕ, zero, suc, ◌/◌, ◌%◌, Bool, not, nat_eq, List, [], ◌∷◌, if◌then◌else◌}
use Rattle.fws_net.specs.declared.condition.Lit.{Lit}
use Rattle.fws_net.specs.declared.condition.Test.TheVariants.{Tag}
use Rattle.fws_ifcl.specs.declared.diagram.Act.{Act}
use Rattle.fws_ifcl.specs.declared.diagram.Act.TheVariants.{AddTag, DelTag}

-- how many bits a number has, if these are at most so many
abbrev pub bits_within : ℕ → ℕ → ℕ
bits_within zero n = 0
bits_within (suc more) n = if nat_eq n 0 then 0 else suc (bits_within more (n / 2))

abbrev pub bit_count : ℕ → ℕ
bit_count n = bits_within n n

-- the lowest bits of a number, as many as asked for, the lowest one first
abbrev pub bits_of : ℕ → ℕ → List Bool
bits_of zero n = []
bits_of (suc more) n = nat_eq (n % 2) 1 ∷ bits_of more (n / 2)

-- makes tags, of which the first has this number, tell bits
abbrev pub telling : ℕ → List Bool → List Act
telling tag [] = []
telling tag (b ∷ bits) = (if b then AddTag tag else DelTag tag) ∷ telling (suc tag) bits

-- these tags tell just these bits
abbrev pub told : ℕ → List Bool → List Lit
told tag [] = []
told tag (b ∷ bits) = record { not = not b; test = Tag tag } ∷ told (suc tag) bits
