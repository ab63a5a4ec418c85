-- Instances are looked up where they are likely to stand.
use Rattle.std.proofs.Common.{◌≡◌, ◌≢◌, ℕ, zero, suc, ◌+◌, ◌<◌, ◌≤◌, true, false, ◌||◌, not, nat_eq, nat_le, slice_get, Some, List, [], ◌∷◌, length, refl, ap, sym, ◌∙◌, arith}
use Rattle.std.proofs.lemmas.Bool.{and_from, and_parts, or_from, or_right, leb-true, ne_eqb, not-true, not_from_false}
use Rattle.fws_ipfw.specs.declared.config.IpfwNat.{IpfwNat}
use Rattle.fws_ipfw.specs.FileText.{has_nat}
use Rattle.fws_ipfw.specs.Soundness.{are_apart}
use Rattle.fws_ipfw_print.specs.Printable.{numbers_ascend, redirects_at}
use Rattle.fws_ipfw_print.proofs.Basics.{if_true, if_false, never}

-- no number below those that ascend is there
none_below : (from n : ℕ) (nats : List IpfwNat) → n < from → numbers_ascend from nats ≡ true → has_nat nats n ≡ false
none_below from n [] lt h = refl
none_below from n (nat ∷ nats) lt h =
    let parts = and_parts (nat_le from nat.number) (numbers_ascend (nat.number + 1) nats) h in
    let low : from ≤ nat.number = leb-true from nat.number parts.0 in
    let later : n < nat.number + 1 = omega arith in
    or_from (nat_eq nat.number n) (has_nat nats n) (ne_eqb nat.number n (λ e. omega arith)) (none_below (nat.number + 1) n nats later parts.1)

pub ascending_apart : (from : ℕ) (nats : List IpfwNat) → numbers_ascend from nats ≡ true → are_apart nats ≡ true
ascending_apart from [] h = refl
ascending_apart from (nat ∷ nats) h =
    let parts = and_parts (nat_le from nat.number) (numbers_ascend (nat.number + 1) nats) h in
    let lt : nat.number < nat.number + 1 = omega arith in
    and_from (not (has_nat nats nat.number)) (are_apart nats) (not_from_false (has_nat nats nat.number) (none_below (nat.number + 1) nat.number nats lt parts.1)) (ascending_apart (nat.number + 1) nats parts.1)

-- an instance that stands at a place is there
pub found_there : (nats : List IpfwNat) (place n : ℕ) (nat : IpfwNat) → slice_get nats place ≡ Some nat → nat_eq nat.number n ≡ true → has_nat nats n ≡ true
found_there [] place n nat e h = absurd cc
found_there (first ∷ nats) zero n nat e h =
    let same : first ≡ nat = cc in
    ap (λ b. b || has_nat nats n) (ap (λ (x : IpfwNat). nat_eq x.number n) same ∙ h)
found_there (first ∷ nats) (suc place) n nat e h = or_right (nat_eq first.number n) (has_nat nats n) (found_there nats place n nat e h)

-- and the only one with its number
pub redirects_there : (nats : List IpfwNat) (place n : ℕ) (nat : IpfwNat) → are_apart nats ≡ true → slice_get nats place ≡ Some nat → nat_eq nat.number n ≡ true → length nat.redirects ≡ redirects_at nats n
redirects_there [] place n nat apart e h = absurd cc
redirects_there (first ∷ nats) zero n nat apart e h =
    let same : first ≡ nat = cc in
    sym (if_true (nat_eq first.number n) (length first.redirects) (redirects_at nats n) (ap (λ (x : IpfwNat). nat_eq x.number n) same ∙ h) ∙ ap (λ (x : IpfwNat). length x.redirects) same)
redirects_there (first ∷ nats) (suc place) n nat apart e h =
    let parts = and_parts (not (has_nat nats first.number)) (are_apart nats) apart in
    let there = found_there nats place n nat e h in
    let other : first.number ≢ n = λ k. never (sym (not-true (has_nat nats first.number) parts.0) ∙ ap (has_nat nats) k ∙ there) in
    redirects_there nats place n nat parts.1 e h
    ∙ sym (if_false (nat_eq first.number n) (length first.redirects) (redirects_at nats n) (ne_eqb first.number n other))
