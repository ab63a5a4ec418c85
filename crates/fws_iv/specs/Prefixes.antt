-- Sets of addresses as prefixes.
use Rattle.std.specs.Prelude.{◌≡◌, ℕ, ◌+◌, ◌-◌, ◌/◌, ◌%◌, ◌^◌, ◌<◌, ◌≤◌, Bool, ◌&&◌, ◌||◌, nat_eq, nat_le, nat_lt, List, [], ◌∷◌, All}
use Rattle.std.specs.List.{count_by, list_any}
use Rattle.fws_num.specs.declared.prefix.Prefix.{Prefix}

-- two addresses agree in their first n bits
abbrev pub agree : ℕ → ℕ → ℕ → Bool
agree n a b = nat_eq (a / 2 ^ (32 - n)) (b / 2 ^ (32 - n))

-- the prefix has the address: its first bits are those of the prefix
abbrev pub prefix_has : Prefix → ℕ → Bool
prefix_has p v = agree p.len p.addr v

-- one of the prefixes has the address
abbrev pub some_prefix_has : List Prefix → ℕ → Bool
some_prefix_has ps v = list_any (λ p. prefix_has p v) ps

-- an address of 32 bits, of which those past the length are 0
pub record IsBlock (block : Prefix) : Type 0 where
  pub short : block.len ≤ 32
  pub fits : block.addr < 2 ^ 32
  pub cleared : block.addr % 2 ^ (32 - block.len) ≡ 0

-- the prefixes ascend and have no address in common: the first begins at the number or later, and each further one behind
-- the last address of the one before
abbrev pub AscendFrom : ℕ → List Prefix → Type 0
AscendFrom from [] = Unit {0}
AscendFrom from (p ∷ ps) = (from ≤ p.addr) × AscendFrom (p.addr + 2 ^ (32 - p.len)) ps

-- the number behind the last address of the prefixes; the number where there are none
abbrev pub behind : ℕ → List Prefix → ℕ
behind from [] = from
behind from (p ∷ ps) = behind (p.addr + 2 ^ (32 - p.len)) ps

-- prefixes that are blocks and ascend, with all their addresses before the number
pub record EndBy (end : ℕ) (ps : List Prefix) : Type 0 where
  pub sound : All IsBlock ps
  pub ascending : AscendFrom 0 ps
  pub room : behind 0 ps ≤ end

-- the new prefixes have the addresses of the old ones, and those from the first one to the one before the end
abbrev pub AddsRange : List Prefix → List Prefix → ℕ → ℕ → Type 0
AddsRange old new from end = (v : ℕ) → some_prefix_has new v ≡ (some_prefix_has old v || (nat_le from v && nat_lt v end))

-- an address lies in one at most of prefixes that ascend
abbrev pub PrefixesAreApart : Type 0
PrefixesAreApart = (from : ℕ) (ps : List Prefix) → All IsBlock ps → AscendFrom from ps → (v : ℕ) → count_by (λ p. prefix_has p v) ps ≤ 1
