-- What each value of a tree meets, each of its leaves does.
use Rattle.std.proofs.Common.{◌≡◌, ℕ, suc, Bool, true, ◌&&◌, not, Some, List, [], ◌∷◌, inl, inr, refl, ◌∙◌, ap, arith}
use Rattle.std.proofs.lemmas.Bool.{and_from, and_parts, cases_Bool, cond-true, cond-false, leb-true, not-true, MatchBool-at_true, MatchBool-at_false}
use Rattle.std.specs.Prelude.{nat_eq, nat_le}
use Rattle.fws_box.specs.Sides.{IsWithin}
use Rattle.fws_iv.specs.Ivs.{has}
use Rattle.fws_tree.specs.Plain.{Plain, leaf, cut, Kids, none, kid, kid_at, value_from, EachKid, Parts, IsReducedFrom}
use Rattle.fws_tree.specs.Subtrees.{IsSubtree, IsKidSubtree}
use Rattle.fws_ipfw_put_rules.specs.declared.choice.Choice.{Choice}
use Rattle.fws_ipfw_put_rules.specs.Leaves.{all_leaves, all_kid_leaves}

-- a subtree that is a leaf meets what all leaves meet
mutual
  pub leaf_meets : (test : Choice → Bool) (a : Choice) (t : Plain Choice) → IsSubtree (leaf a) t → all_leaves test t ≡ true → test a ≡ true
  leaf_meets test a (leaf b) s h = ap (all_leaves test) s ∙ h
  leaf_meets test a (cut f ks) (inl e) h = ap (all_leaves test) e ∙ h
  leaf_meets test a (cut f ks) (inr s) h = kid_leaf_meets test a ks s h

  kid_leaf_meets : (test : Choice → Bool) (a : Choice) (ks : Kids Choice) → IsKidSubtree (leaf a) ks → all_kid_leaves test ks ≡ true → test a ≡ true
  kid_leaf_meets test a none s h = absurd s
  kid_leaf_meets test a (kid r t ks) (inl s) h = leaf_meets test a t s (and_parts (all_leaves test t) (all_kid_leaves test ks) h).0
  kid_leaf_meets test a (kid r t ks) (inr s) h = kid_leaf_meets test a ks s (and_parts (all_leaves test t) (all_kid_leaves test ks) h).1

abbrev least_point : List ℕ → List ℕ
least_point [] = []
least_point (top ∷ tops) = 0 ∷ least_point tops

least_within : (tops : List ℕ) → IsWithin tops (least_point tops)
least_within [] = tt
least_within (top ∷ tops) = (omega arith, least_within tops)

leaf_value : (g : ℕ) (a : Choice) (p : List ℕ) → value_from g (leaf a) p ≡ Some a
leaf_value g a [] = refl
leaf_value g a (x ∷ p) = leaf_value (suc g) a p

-- what is known of the values of a tree over the fields from one on
abbrev Meets : (Choice → Bool) → ℕ → List ℕ → Plain Choice → Type 0
Meets test g tops t = (p : List ℕ) (a : Choice) → IsWithin tops p → value_from g t p ≡ Some a → test a ≡ true

mutual
  pub leaves_meet : (test : Choice → Bool) (g : ℕ) (tops : List ℕ) (t : Plain Choice) → IsReducedFrom g tops t → Meets test g tops t → all_leaves test t ≡ true
  leaves_meet test g tops (leaf a) r h = h (least_point tops) a (least_within tops) (leaf_value g a (least_point tops))
  leaves_meet test g [] (cut f ks) r h = absurd r
  leaves_meet test g (top ∷ tops) (cut f ks) r h = elim (cases_Bool (nat_eq f g)) [
    | inl y ↦ (let m = MatchBool-at_true _ _ y r in
        kid_leaves_meet test g top tops (λ x. nat_le x top) ks m.1 m.2
        (λ x d p a w e. h (x ∷ p) a (leb-true x top d, w) (ap (λ u. value_from (suc g) u p) (cond-true (nat_eq f g) (kid_at ks x) (cut f ks) y) ∙ e)))
    | inr n ↦ leaves_meet test (suc g) tops (cut f ks) (MatchBool-at_false _ _ n r)
        (λ p a w e. h (0 ∷ p) a (omega arith, w) (ap (λ u. value_from (suc g) u p) (cond-false (nat_eq f g) (kid_at ks 0) (cut f ks) n) ∙ e))
  ]

  kid_leaves_meet : (test : Choice → Bool) (g top : ℕ) (tops : List ℕ) (domain : ℕ → Bool) (ks : Kids Choice) → Parts domain ks → EachKid (IsReducedFrom (suc g) tops) ks
      → ((x : ℕ) → domain x ≡ true → Meets test (suc g) tops (kid_at ks x)) → all_kid_leaves test ks ≡ true
  kid_leaves_meet test g top tops domain none parts each h = refl
  kid_leaves_meet test g top tops domain (kid s t ks) parts each h =
      let least = parts.2.0 in
      let own : has s least ≡ true = parts.2.1 in
      and_from (all_leaves test t) (all_kid_leaves test ks)
      (leaves_meet test (suc g) tops t each.0 (λ p a w e. h least (parts.1 least own) p a w (ap (λ u. value_from (suc g) u p) (cond-true (has s least) t (kid_at ks least) own) ∙ e)))
      (kid_leaves_meet test g top tops (λ x. domain x && not (has s x)) ks parts.4 each.1
      (λ x d p a w e. let both = and_parts (domain x) (not (has s x)) d in
      h x both.0 p a w (ap (λ u. value_from (suc g) u p) (cond-false (has s x) t (kid_at ks x) (not-true (has s x) both.1)) ∙ e)))
