-- The numbers from one on, in their order.
use Rattle.std.proofs.Common.{◌≡◌, ℕ, zero, suc, ◌+◌, ◌-◌, ◌<◌, [], ◌∷◌, ◌++◌, get_or, nat_eq, false, zero-add, sym, ◌∙◌, ap, arith}
use Rattle.std.proofs.lemmas.Bool.{cond-false}
use Rattle.std.proofs.lemmas.Bool.Decides.{nat_tests}
use Rattle.std.proofs.lemmas.List.FromFn.{get_or-range_with_len}
use Rattle.std.specs.List.{range_with_len}
use Rattle.fws_tree.specs.Held.{over_leaf}

pub range_more : (a n : ℕ) → range_with_len a (n + 1) ≡ range_with_len a n ++ (a + n) ∷ []
range_more a zero = let e : a ≡ a + 0 = omega arith in ap (λ z. z ∷ []) e
range_more a (suc n) =
    let e : suc n + 1 ≡ suc (n + 1) = omega arith in
    let f : a + 1 + n ≡ a + suc n = omega arith in
    ap (range_with_len a) e ∙ ap (λ zs. a ∷ zs) (range_more (a + 1) n) ∙ ap (λ z. a ∷ range_with_len (a + 1) n ++ z ∷ []) f

-- behind the place of the value 0 there are those of values that are one more
pub place_behind : (z k count : ℕ) → over_leaf z (k + 1) - 1 < count → get_or (k ∷ range_with_len 0 count) z 0 ≡ over_leaf z (k + 1) - 1
place_behind zero k count lt = omega arith
place_behind (suc m) k count lt =
    let ne : nat_eq (suc m) 0 ≡ false = grind (arith, nat_tests) in
    let e : m ≡ over_leaf (suc m) (k + 1) - 1 = sym (ap (λ z. z - 1) (cond-false (nat_eq (suc m) 0) (k + 1) (suc m) ne) ∙ omega arith) in
    get_or-range_with_len 0 count m 0 (omega arith) ∙ zero-add m ∙ e
