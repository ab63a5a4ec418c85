-- Sets divided into groups.
use Rattle.std.specs.Prelude.{◌≡◌, ℕ, ◌-◌, ◌^◌, ◌≤◌, Bool, true, ◌&&◌, ◌||◌, nat_le, List, length}
use Rattle.std.specs.List.{list_all, list_any}
use Rattle.fws_iv.specs.declared.iv.Iv.{Iv}
use Rattle.fws_iv.specs.Ivs.{has}
use Rattle.fws_print.specs.Sets.{are_ranges}

-- addresses of one literal
abbrev pub are_addresses : List Iv → Bool
are_addresses set = are_ranges (2 ^ 32 - 1) set

-- ports of one literal
abbrev pub are_ports : List Iv → Bool
are_ports set = are_ranges 65535 set && nat_le (length set) 30

-- groups that together have the members of the set, and of which each is good
pub record AreGroups (good : List Iv → Bool) (set : List Iv) (groups : List (List Iv)) : Type 0 where
  pub same : (x : ℕ) → list_any (λ s. has s x) groups ≡ has set x
  pub each : list_all good groups ≡ true

-- the new groups have the members of the old ones and those of the set, and are ranges up to a number if these are
pub record AddsGroup (old new : List (List Iv)) (set : List Iv) : Type 0 where
  pub same : (x : ℕ) → list_any (λ s. has s x) new ≡ (list_any (λ s. has s x) old || has set x)
  pub ranges : (most : ℕ) → ((v : ℕ) → has set v ≡ true → v ≤ most) → list_all (are_ranges most) old ≡ true → list_all (are_ranges most) new ≡ true
