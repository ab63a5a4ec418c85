-- The length of a wildcard.
use Rattle.std.proofs.Common.{◌≡◌, ◌≢◌, ℕ, suc, ◌+◌, ◌-◌, ◌<◌, Bool, true, false, cond, nat_eq, Option, Some, sym, ◌∙◌, refl, arith, eq-eqb}
use Rattle.std.proofs.lemmas.Bool.Decides.{nat_tests}
use Rattle.std.specs.List.{find, range_with_len}
use Rattle.fws_ios.specs.Values.{wildcard_of}

-- one length after another is tried
find_more : (p : ℕ → Bool) (n : ℕ) → n < 33 → find p (range_with_len n (33 - n)) ≡ cond (p n) (Some n) (find p (range_with_len (n + 1) (33 - (n + 1))))
find_more p n h = let e : 33 - n ≡ suc (33 - (n + 1)) = omega arith in rw e refl

-- a wildcard was found, or is yet to be found
pub found : (wildcard n m : ℕ) (o : Option ℕ) → n < 33 → m ≡ wildcard_of n → m ≡ wildcard →
    find (λ k. nat_eq (wildcard_of k) wildcard) (range_with_len n (33 - n)) ≡ o → Some n ≡ o
found wildcard n m o h e f g =
    let t : nat_eq (wildcard_of n) wildcard ≡ true = eq-eqb (wildcard_of n) wildcard (sym e ∙ f) in
    sym (rw t at (find_more (λ k. nat_eq (wildcard_of k) wildcard) n h)) ∙ g

pub passed : (wildcard n m : ℕ) (o : Option ℕ) → n < 33 → m ≡ wildcard_of n → m ≢ wildcard →
    find (λ k. nat_eq (wildcard_of k) wildcard) (range_with_len n (33 - n)) ≡ o →
    find (λ k. nat_eq (wildcard_of k) wildcard) (range_with_len (n + 1) (33 - (n + 1))) ≡ o
passed wildcard n m o h e f g =
    let t : nat_eq (wildcard_of n) wildcard ≡ false = grind (arith, nat_tests) in
    sym (rw t at (find_more (λ k. nat_eq (wildcard_of k) wildcard) n h)) ∙ g
