-- Instances that have a number of their own.
use Rattle.std.proofs.Common.{◌≡◌, ℕ, zero, suc, Bool, true, false, ◌||◌, not, cond, nat_eq, Option, Some, None, List, [], ◌∷◌, slice_get, refl, sym, ap, ◌∙◌, true≢false, arith}
use Rattle.std.proofs.lemmas.Bool.{or_right, and_parts}
use Rattle.std.proofs.lemmas.Bool.Decides.{nat_tests}
use Rattle.fws_ipfw.specs.declared.config.IpfwNat.{IpfwNat}
use Rattle.fws_ipfw.specs.FileText.{has_nat}
use Rattle.fws_ipfw.specs.Soundness.{are_apart}
use Rattle.fws_ipfw.specs.Walk.{nat_numbered}

one : (a b : IpfwNat) → Some a ≡ Some b → a ≡ b
one a b e = cc

none : (a : IpfwNat) → None ≡ Some a → ⊥
none a e = cc

first_has : (b rest : Bool) → b ≡ true → (b || rest) ≡ true
first_has true rest e = refl
first_has false rest e = absurd (true≢false (sym e))

-- an instance that stands among others has a number that is there
has_there : (n : ℕ) (nats : List IpfwNat) (i : ℕ) (nat : IpfwNat) → slice_get nats i ≡ Some nat → nat_eq nat.number n ≡ true → has_nat nats n ≡ true
has_there n [] i nat there e = absurd (none nat there)
has_there n (x ∷ xs) zero nat there e = first_has (nat_eq x.number n) (has_nat xs n) (ap (λ (y : IpfwNat). nat_eq y.number n) (one x nat there) ∙ e)
has_there n (x ∷ xs) (suc i) nat there e = or_right (nat_eq x.number n) (has_nat xs n) (has_there n xs i nat there e)

same_number : (x n : ℕ) → nat_eq x n ≡ true → x ≡ n
same_number x n e = grind (arith, nat_tests)

-- two cases of the first one's number
split : (b : Bool) (x : IpfwNat) (rest : Option IpfwNat) (nat : IpfwNat) → (b ≡ true → ⊥) → rest ≡ Some nat → cond b (Some x) rest ≡ Some nat
split true x rest nat other is = elim (other refl) [ ]
split false x rest nat other is = is

not_both : (b : Bool) → not b ≡ true → b ≡ true → ⊥
not_both true e f = true≢false (sym e)
not_both false e f = true≢false (sym f)

-- it is the one that is found by its number
pub found_there : (n : ℕ) (nats : List IpfwNat) (i : ℕ) (nat : IpfwNat) → are_apart nats ≡ true → slice_get nats i ≡ Some nat → nat_eq nat.number n ≡ true → nat_numbered n nats ≡ Some nat
found_there n [] i nat apart there e = absurd (none nat there)
found_there n (x ∷ xs) zero nat apart there e =
    let same : x ≡ nat = one x nat there in
    let is : nat_eq x.number n ≡ true = ap (λ (y : IpfwNat). nat_eq y.number n) same ∙ e in
    ap (λ b. cond b (Some x) (nat_numbered n xs)) is ∙ ap Some same
found_there n (x ∷ xs) (suc i) nat apart there e =
    let parts = and_parts (not (has_nat xs x.number)) (are_apart xs) apart in
    let other : nat_eq x.number n ≡ true → ⊥ =
    λ is. not_both (has_nat xs x.number) parts.0 (ap (has_nat xs) (same_number x.number n is) ∙ has_there n xs i nat there e) in
    split (nat_eq x.number n) x (nat_numbered n xs) nat other (found_there n xs i nat parts.1 there e)
