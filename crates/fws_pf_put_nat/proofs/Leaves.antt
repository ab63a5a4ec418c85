-- The leaves of trees.
use Rattle.std.proofs.Common.{◌≡◌, ℕ, suc, Some, List, [], ◌∷◌, inl, inr, subst}
use Rattle.std.proofs.lemmas.Bool.{cases_Bool, cond-true, cond-false}
use Rattle.std.proofs.lemmas.Option.{none-some, same_Some}
use Rattle.std.specs.Prelude.{nat_eq}
use Rattle.fws_iv.specs.Ivs.{has}
use Rattle.fws_net.specs.declared.outcome.Outcome.{Outcome}
use Rattle.fws_net.specs.declared.packet.Packet.{Packet}
use Rattle.fws_tree_seen.specs.declared.seen.Seen.TheVariants.{Entered}
use Rattle.fws_tree_seen.specs.Reached.{Reaches, ReachesKid}
use Rattle.fws_tree.specs.Plain.{Plain, leaf, cut, Kids, none, kid, kid_at, branch, value_from}
use Rattle.fws_pf_put_nat.specs.Ends.{HasLeaf, HasKidLeaf}

-- what is reached is a leaf
mutual
  pub reach_leaf : (p : Packet) (t : Plain Outcome) (w : Outcome) → Reaches Entered p t w → HasLeaf t w
  reach_leaf p (leaf a) w h = h
  reach_leaf p (cut f ks) w h = reach_kid_leaf p f ks w h

  pub reach_kid_leaf : (p : Packet) (f : ℕ) (ks : Kids Outcome) (w : Outcome) → ReachesKid Entered p f ks w → HasKidLeaf ks w
  reach_kid_leaf p f none w h = absurd h
  reach_kid_leaf p f (kid s t ks) w (inl h) = inl (reach_leaf p t w h.1)
  reach_kid_leaf p f (kid s t ks) w (inr h) = inr (reach_kid_leaf p f ks w h)

-- a value is a leaf
kid_at_leaf : (ks : Kids Outcome) (x : ℕ) (w : Outcome) → HasLeaf (kid_at ks x) w → HasKidLeaf ks w
kid_at_leaf none x w h = absurd h
kid_at_leaf (kid s t ks) x w h = elim (cases_Bool (has s x)) [
  | inl y ↦ inl (subst (λ u. HasLeaf u w) (cond-true (has s x) t (kid_at ks x) y) h)
  | inr n ↦ inr (kid_at_leaf ks x w (subst (λ u. HasLeaf u w) (cond-false (has s x) t (kid_at ks x) n) h))
]

branch_leaf : (f : ℕ) (t : Plain Outcome) (x : ℕ) (w : Outcome) → HasLeaf (branch f t x) w → HasLeaf t w
branch_leaf f (leaf a) x w h = h
branch_leaf f (cut g ks) x w h = elim (cases_Bool (nat_eq g f)) [
  | inl y ↦ kid_at_leaf ks x w (subst (λ u. HasLeaf u w) (cond-true (nat_eq g f) (kid_at ks x) (cut g ks) y) h)
  | inr n ↦ subst (λ u. HasLeaf u w) (cond-false (nat_eq g f) (kid_at ks x) (cut g ks) n) h
]

pub value_leaf : (f : ℕ) (t : Plain Outcome) (p : List ℕ) (w : Outcome) → value_from f t p ≡ Some w → HasLeaf t w
value_leaf f (leaf a) [] w e = same_Some a w e
value_leaf f (cut g ks) [] w e = absurd (none-some w e)
value_leaf f t (x ∷ p) w e = branch_leaf f t x w (value_leaf (suc f) (branch f t x) p w e)
