-- Tests of all numbers from one on.
use Rattle.std.proofs.Common.{◌≡◌, ℕ, suc, ◌+◌, Bool, true, false, ◌&&◌, sym, ap, ◌∙◌}
use Rattle.std.specs.List.{list_all, range_with_len}

-- the first of some numbers passes the test, or it doesn't
pub first_passes : (f : ℕ → Bool) (a n m : ℕ) → n ≡ suc m → f a ≡ true → list_all f (range_with_len (a + 1) m) ≡ list_all f (range_with_len a n)
first_passes f a n m is h = sym (ap (λ (k : ℕ). list_all f (range_with_len a k)) is ∙ ap (λ (b : Bool). b && list_all f (range_with_len (a + 1) m)) h)

pub first_fails : (f : ℕ → Bool) (a n m : ℕ) → n ≡ suc m → f a ≡ false → list_all f (range_with_len a n) ≡ false
first_fails f a n m is h = ap (λ (k : ℕ). list_all f (range_with_len a k)) is ∙ ap (λ (b : Bool). b && list_all f (range_with_len (a + 1) m)) h
