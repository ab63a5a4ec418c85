-- The places that the leaves of a reduced tree name are those that are its values.
use Rattle.std.proofs.Common.{◌≡◌, ℕ, suc, ◌<◌, Bool, true, ◌&&◌, not, Some, List, [], ◌∷◌, inl, inr, ◌∙◌, ap, arith}
use Rattle.std.proofs.lemmas.Bool.{leb-true, and_parts, cases_Bool, MatchBool-at_true, MatchBool-at_false, cond-true, not-true}
use Rattle.std.specs.Prelude.{nat_le, nat_eq, map}
use Rattle.fws_iv.specs.Ivs.{has}
use Rattle.fws_tree.specs.Plain.{Plain, leaf, cut, Kids, none, kid, kid_at, value_from, value, EachKid, Parts, IsReducedFrom, IsReduced}
use Rattle.fws_box.specs.Sides.{IsWithin}
use Rattle.fws_tree.specs.Tree.{AreLeavesBelow, AreKidLeavesBelow}
use Rattle.fws_tree.proofs.Reduced.{cond_false}
use Rattle.fws_tree.proofs.PathPoints.{leaf_value}

-- each value at a point within the tops is below n
abbrev AreValuesBelow : ℕ → List ℕ → ℕ → Plain ℕ → Type 0
AreValuesBelow n tops f t = (p : List ℕ) → IsWithin tops p → (k : ℕ) → value_from f t p ≡ Some k → k < n

least_point : (tops : List ℕ) → IsWithin tops (map (λ top. 0) tops)
least_point [] = tt
least_point (top ∷ tops) = (omega arith, least_point tops)

kids_below : (n f : ℕ) (tops : List ℕ) → ((t : Plain ℕ) → IsReducedFrom f tops t → AreValuesBelow n tops f t → AreLeavesBelow n t)
    → (domain : ℕ → Bool) (ks : Kids ℕ) → Parts domain ks → EachKid (IsReducedFrom f tops) ks → ((x : ℕ) → domain x ≡ true → AreValuesBelow n tops f (kid_at ks x)) → AreKidLeavesBelow n ks
kids_below n f tops below domain none parts each v = tt
kids_below n f tops below domain (kid s t ks) parts each v =
    let x : ℕ = parts.2.0 in (
      below t each.0 (λ p w k e. v x (parts.1 x parts.2.1) p w k (ap (λ u. value_from f u p) (cond-true (has s x) t (kid_at ks x) parts.2.1) ∙ e)),
      kids_below n f tops below (λ y. domain y && not (has s y)) ks parts.4 each.1
          (λ y d p w k e. let b = and_parts (domain y) (not (has s y)) d in
          v y b.0 p w k (ap (λ u. value_from f u p) (cond_false (has s y) t (kid_at ks y) (not-true (has s y) b.1)) ∙ e)),
    )

below_from : (n : ℕ) (tops : List ℕ) (f : ℕ) (t : Plain ℕ) → IsReducedFrom f tops t → AreValuesBelow n tops f t → AreLeavesBelow n t
below_from n tops f (leaf k) r v = v (map (λ top. 0) tops) (least_point tops) k (leaf_value f k (map (λ top. 0) tops))
below_from n [] f (cut g ks) r v = absurd r
below_from n (top ∷ tops) f (cut g ks) r v = elim (cases_Bool (nat_eq g f)) [
  | inl y ↦ let m = MatchBool-at_true _ _ y r in
      kids_below n (suc f) tops (λ t q w. below_from n tops (suc f) t q w) (λ x. nat_le x top) ks m.1 m.2
      (λ x d p w k e. v (x ∷ p) (leb-true x top d, w) k (ap (λ u. value_from (suc f) u p) (cond-true (nat_eq g f) (kid_at ks x) (cut g ks) y) ∙ e))
  | inr z ↦ below_from n tops (suc f) (cut g ks) (MatchBool-at_false _ _ z r)
      (λ p w k e. v (0 ∷ p) (omega arith, w) k (ap (λ u. value_from (suc f) u p) (cond_false (nat_eq g f) (kid_at ks 0) (cut g ks) z) ∙ e))
]

-- where each value of a reduced tree is below n, each leaf is
pub leaves_below : (n : ℕ) (tops : List ℕ) (t : Plain ℕ) → IsReduced tops t → ((p : List ℕ) → IsWithin tops p → (k : ℕ) → value t p ≡ Some k → k < n) → AreLeavesBelow n t
leaves_below n tops t r v = below_from n tops 0 t r v
