-- Sets that one option of a rule can name.
use Rattle.std.specs.Prelude.{ℕ, ◌+◌, ◌-◌, ◌%◌, ◌^◌, Bool, true, false, ◌&&◌, not, nat_eq, nat_le, nat_lt, bit_and, List, [], ◌∷◌, length}
use Rattle.std.specs.List.{list_all}
use Rattle.fws_iv.specs.declared.iv.Iv.{Iv}
use Rattle.fws_net.specs.declared.site.Site.{Site}

-- one number, up to a greatest one
abbrev pub is_number : ℕ → List Iv → Bool
is_number most (iv ∷ []) = nat_eq iv.lo iv.hi && nat_le iv.hi most
is_number most _ = false

-- one range of numbers, up to a greatest one
abbrev pub is_range : ℕ → List Iv → Bool
is_range most (iv ∷ []) = nat_le iv.lo iv.hi && nat_le iv.hi most
is_range most _ = false

-- ranges up to a greatest number, that ascend from a number on and don't touch
abbrev pub ascend_from : ℕ → ℕ → List Iv → Bool
ascend_from most from [] = true
ascend_from most from (iv ∷ set) = nat_le from iv.lo && nat_le iv.lo iv.hi && nat_le iv.hi most && ascend_from most (iv.hi + 2) set

-- at least one range of numbers up to a greatest one
abbrev pub are_ranges : ℕ → List Iv → Bool
are_ranges most [] = false
are_ranges most (iv ∷ set) = ascend_from most 0 (iv ∷ set)

-- an interface: the entry of loopback or of an interface of the site
abbrev pub is_interface : Site → List Iv → Bool
is_interface site set = is_number (length site.faces + 1) set && list_all (λ iv. not (nat_eq iv.lo 0)) set

-- the range has just the addresses that agree in their first n bits
abbrev pub is_network : ℕ → Iv → Bool
is_network n iv = nat_eq (iv.lo % 2 ^ (32 - n)) 0 && nat_eq (iv.hi + 1) (iv.lo + 2 ^ (32 - n))

-- TCP flags are tested, and only such as are looked at are wanted
abbrev pub are_flags : ℕ → ℕ → Bool
are_flags mask want = nat_lt 0 mask && nat_le mask 63 && nat_eq (bit_and mask want) want

-- the least number of the first range of a set; 0 where there is none
abbrev pub first_number : List Iv → ℕ
first_number [] = 0
first_number (iv ∷ set) = iv.lo
