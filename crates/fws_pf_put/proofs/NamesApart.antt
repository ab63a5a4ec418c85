-- The names of tags, one behind the other.
use Rattle.std.proofs.Common.{◌≡◌, ℕ, suc, ◌+◌, true, nat_eq, List, [], ◌∷◌, ◌++◌, length, arith, ap, ◌∙◌, refl}
use Rattle.std.proofs.lemmas.Bool.{and_parts, and_from, eq-eqb}
use Rattle.std.specs.Str.{bytes_eq}
use Rattle.fws_pf_print.specs.Printable.{are_named, tag_name}

bytes_same : (a : List ℕ) → bytes_eq a a ≡ true
bytes_same [] = refl
bytes_same (x ∷ a) = and_from (nat_eq x x) (bytes_eq a a) (eq-eqb x x refl) (bytes_same a)

same_name : (n k : ℕ) (name : List ℕ) → k ≡ n → name ≡ tag_name n → bytes_eq name (tag_name k) ≡ true
same_name n k name same is = ap (λ m. bytes_eq name (tag_name m)) same ∙ ap (λ l. bytes_eq l (tag_name n)) is ∙ bytes_same (tag_name n)

pub named_more : (n : ℕ) (names : List (List ℕ)) (name : List ℕ) → are_named n names ≡ true → name ≡ tag_name (n + length names) → are_named n (names ++ name ∷ []) ≡ true
named_more n [] name h is = and_from (bytes_eq name (tag_name n)) true (same_name (n + 0) n name (omega arith) is) refl
named_more n (first ∷ names) name h is =
    let both = and_parts (bytes_eq first (tag_name n)) (are_named (suc n) names) h in
    let next : n + suc (length names) ≡ suc n + length names = omega arith in
    and_from (bytes_eq first (tag_name n)) (are_named (suc n) (names ++ name ∷ [])) both.0
    (named_more (suc n) names name both.1 (is ∙ ap tag_name next))

pub longer : (names : List (List ℕ)) (name : List ℕ) → length (names ++ name ∷ []) ≡ length names + 1
longer [] name = refl
longer (first ∷ names) name = let rest = longer names name in omega (arith, rest)
