-- Pairs of leaves that aren't equal.
use Rattle.std.proofs.Common.{◌≡◌, Bool, true, cond, Option, Some, None, inl, inr, ◌∙◌, ap}
use Rattle.std.proofs.lemmas.Bool.{cases_Bool, cond-true, cond-false}
use Rattle.fws_dead.specs.Unequal.{IsUnequal}

pub unequal_from : {L : Type 0} (eq : L → L → Bool) → ((x y : L) → eq x y ≡ true → x ≡ y) → (a b : L) (first second : Option L) (t : Option (Option (L × L)))
    → first ≡ Some a → second ≡ Some b → t ≡ Some (cond (eq a b) None (Some (a, b))) → IsUnequal first second t
unequal_from {L} eq exact a b first second t first-is second-is t-is = record {
  one = a;
  two = b;
  first_is = first-is;
  second_is = second-is;
  both_is = elim (cases_Bool (eq a b)) [
    | inl y ↦ inl (t-is ∙ ap (λ (o : Option (L × L)). Some o) (cond-true (eq a b) None (Some (a, b)) y), exact a b y)
    | inr n ↦ inr (t-is ∙ ap (λ (o : Option (L × L)). Some o) (cond-false (eq a b) None (Some (a, b)) n))
  ];
}
