-- Prefixes that ascend have no address in common.
use Rattle.std.proofs.Common.{◌≡◌, ℕ, ◌+◌, ◌-◌, ◌^◌, ◌<◌, ◌≤◌, Bool, true, false, cond, List, [], ◌∷◌, All, inl, inr, ◌∙◌, ap, arith}
use Rattle.std.specs.List.{count_by}
use Rattle.std.proofs.lemmas.Bool.{cases_Bool}
use Rattle.std.proofs.lemmas.Bool.Decides.{nat_tests}
use Rattle.std.proofs.lemmas.List.Elements.{All-head, All-tail}
use Rattle.std.proofs.lemmas.List.Sums.{sum_by-cons}
use Rattle.fws_num.specs.declared.prefix.Prefix.{Prefix}
use Rattle.fws_iv.specs.Prefixes.{prefix_has, AscendFrom, IsBlock}
use Rattle.fws_iv.proofs.Blocks.{has_range}

-- how many prefixes have the address
abbrev holders : ℕ → List Prefix → ℕ
holders v ps = count_by (λ p. prefix_has p v) ps

holders_step : (v : ℕ) (p : Prefix) (ps : List Prefix) (b : Bool) → prefix_has p v ≡ b → holders v (p ∷ ps) ≡ cond b 1 0 + holders v ps
holders_step v p ps b e = sum_by-cons (λ q. cond (prefix_has q v) 1 0) p ps ∙ ap (λ t. cond t 1 0 + holders v ps) e

-- none has an address below the first
none_below : (from : ℕ) (ps : List Prefix) → All IsBlock ps → AscendFrom from ps → (v : ℕ) → v < from → holders v ps ≡ 0
none_below from [] sound rise v below = omega arith
none_below from (p ∷ ps) sound rise v below =
    let is = All-head IsBlock p ps sound in
    let out : prefix_has p v ≡ false = grind (arith, nat_tests, has_range p v is.cleared, rise.0) in
    let rest = none_below (p.addr + 2 ^ (32 - p.len)) ps (All-tail IsBlock p ps sound) rise.1 v (omega (arith, rise.0)) in
    holders_step v p ps false out ∙ omega (arith, rest)

pub one_holder : (from : ℕ) (ps : List Prefix) → All IsBlock ps → AscendFrom from ps → (v : ℕ) → holders v ps ≤ 1
one_holder from [] sound rise v = omega arith
one_holder from (p ∷ ps) sound rise v =
    let is = All-head IsBlock p ps sound in
    let others = All-tail IsBlock p ps sound in
    elim (cases_Bool (prefix_has p v)) [
      | inl held ↦
          let within : v < p.addr + 2 ^ (32 - p.len) = grind (arith, nat_tests, has_range p v is.cleared) in
          let rest = none_below (p.addr + 2 ^ (32 - p.len)) ps others rise.1 v within in
          omega (arith, holders_step v p ps true held, rest)
      | inr lacked ↦ omega (arith, holders_step v p ps false lacked, one_holder (p.addr + 2 ^ (32 - p.len)) ps others rise.1 v)
    ]
