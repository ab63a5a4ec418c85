-- Steps down the tree of a node.
use Rattle.std.proofs.Common.{◌≡◌, ◌≢◌, ℕ, suc, ◌-◌, ◌<◌, Bool, true, false, cond, Option, Some, None, List, [], ◌∷◌, length, get_or, refl, sym, ◌∙◌, ap, subst, arith, zero-add, drop, drop-cons}
use Rattle.std.proofs.lemmas.List.{get_or_default}
use Rattle.std.proofs.lemmas.Bool.{cond-true, cond_both, eqb-true, eq-eqb}
use Rattle.std.proofs.lemmas.Option.{slice_get_within, slice_get_read}
use Rattle.std.specs.Prelude.{nat_eq, IfSome, slice_get, option_and_then}
use Rattle.fws_tree.specs.declared.node.Node.{Node}
use Rattle.fws_tree.specs.declared.node.Node.TheVariants.{Leaf}
use Rattle.fws_tree.specs.Plain.{Plain, leaf, cut, Kids, none, kid_at, branch, value_from, value}
use Rattle.fws_box.specs.Sides.{IsWithin}
use Rattle.fws_tree.specs.Nodes.{tree_over, trees_after, tree_of, IsNodeBelow, AreOrderedFrom, relabel}
use Rattle.fws_tree.specs.Tree.{IsKept}
use Rattle.fws_tree.proofs.Numbered.{node_tree, ordered_at}
use Rattle.fws_tree.proofs.Reduced.{has_value_from}
use Rattle.fws_tree.proofs.Relabel.{value-relabel}

-- the tree of a node that was read is its own cut over the trees of its kids
pub tree_read : (ns : List Node) (at : ℕ) (x : Node) → AreOrderedFrom 0 ns → at < length ns → x ≡ get_or ns at x → tree_of ns at ≡ tree_over (trees_after [] ns) x
tree_read ns at x h lt e = node_tree ns at h lt ∙ ap (tree_over (trees_after [] ns)) (get_or_default ns at (Leaf 0) x lt ∙ sym e)

-- where the node is known
pub tree_is : (ns : List Node) (at : ℕ) (x y : Node) → AreOrderedFrom 0 ns → at < length ns → x ≡ get_or ns at x → x ≡ y → tree_of ns at ≡ tree_over (trees_after [] ns) y
tree_is ns at x y h lt e is = tree_read ns at x h lt e ∙ ap (tree_over (trees_after [] ns)) is

-- a node that was read names nodes below it
pub below_read : (ns : List Node) (at : ℕ) (x : Node) → AreOrderedFrom 0 ns → at < length ns → x ≡ get_or ns at x → IsNodeBelow at x
below_read ns at x h lt e = subst (λ y. IsNodeBelow at y) (get_or_default ns at (Leaf 0) x lt ∙ sym e)
    (subst (λ k. IsNodeBelow k (get_or ns at (Leaf 0))) (zero-add at) (ordered_at 0 ns at h lt))

-- a leaf is left as it is
pub leaf_left : (t : Plain ℕ) (f x n : ℕ) → t ≡ leaf n → branch f t x ≡ t
leaf_left t f x n e = ap (λ u. branch f u x) e ∙ sym e

-- at a value of the field that it cuts, a tree is left at the kid for the value
pub cut_left : (t : Plain ℕ) (f g x : ℕ) (ks : Kids ℕ) → t ≡ cut g ks → g ≡ f → branch f t x ≡ kid_at ks x
cut_left t f g x ks e h = ap (λ u. branch f u x) e ∙ cond-true (nat_eq g f) (kid_at ks x) (cut g ks) (eq-eqb g f h)

-- at a value of another field, a cut is left as it is
pub cut_kept : (t : Plain ℕ) (f g x : ℕ) (ks : Kids ℕ) → t ≡ cut g ks → g ≢ f → branch f t x ≡ t
cut_kept t f g x ks e h = ap (λ u. branch f u x) e ∙ cond_both (nat_eq g f) (kid_at ks x) (cut g ks) (λ u. u ≡ t)
    (λ y. absurd (h (eqb-true g f y))) (λ n. sym e)

same_both : {A : Type 0} (b : Bool) (x : A) → cond b x x ≡ x
same_both true x = refl
same_both false x = refl

-- a cut without kids has no value
none_left : (f : ℕ) (p : List ℕ) → value_from {L = ℕ} f (cut 0 none) p ≡ None
none_left f [] = refl
none_left f (x ∷ p) = ap (λ t. value_from (suc f) t p) (same_both (nat_eq 0 f) (cut 0 none)) ∙ none_left (suc f) p

-- where no kid has the point's value at i, the tree has no value at the point
pub way_off : (f : ℕ) (t : Plain ℕ) (p : List ℕ) (i : ℕ) → i < length p → branch f t (get_or p i 0) ≡ cut 0 none → value_from f t (drop i p) ≡ None
way_off f t p i h e = rw (drop-cons p i 0) (ap (λ u. value_from (suc f) u (drop (suc i) p)) e ∙ none_left (suc f) (drop (suc i) p))

-- a number below one that is itself below n
pub some_below : (at n : ℕ) (o : Option ℕ) → at < n → IfSome o (λ k. k < at) → IfSome o (λ k. k < n)
some_below at n None lt h = h
some_below at n (Some k) lt h = omega arith

-- at a point within its tops, a kept tree has a leaf at the place that its tree of places gives
pub place_there : {L : Type 0} (tops : List ℕ) (leaves : List L) (nodes : List Node) → IsKept L tops leaves nodes → (ts p : List ℕ) → tops ≡ ts → IsWithin ts p
    → (n : ℕ) × (value (tree_of nodes (length nodes - 1)) p ≡ Some n) × (n < length leaves)
place_there tops leaves nodes k ts p s w =
    let root : ℕ = length nodes - 1 in
    let some = k.shared.some in
    let a = has_value_from tops 0 (relabel leaves (tree_of nodes root)) (k.shared.reduced root (omega arith)) p (subst (λ us. IsWithin us p) (sym s) w) in
    of_place leaves (value (tree_of nodes root) p) a.0 (sym (value-relabel leaves (tree_of nodes root) p) ∙ a.1)
  where
    of_place : {L : Type 0} (leaves : List L) (o : Option ℕ) (a : L) → option_and_then (slice_get leaves) o ≡ Some a → (n : ℕ) × (o ≡ Some n) × (n < length leaves)
    of_place leaves None a e = absurd (cc)
    of_place leaves (Some n) a e = (n, refl, slice_get_within leaves n a e)

-- so the place is below the number of leaves
pub place_within : {L : Type 0} (tops : List ℕ) (leaves : List L) (nodes : List Node) → IsKept L tops leaves nodes → (ts p : List ℕ) → tops ≡ ts → IsWithin ts p
    → (n : ℕ) → Some n ≡ value (tree_of nodes (length nodes - 1)) p → n < length leaves
place_within tops leaves nodes k ts p s w n e =
    let t = place_there tops leaves nodes k ts p s w in
    let q : Some n ≡ Some t.0 = e ∙ t.1 in
    let r : t.0 ≡ n = cc in subst (λ m. m < length leaves) r t.2

-- the leaf at that place is the value
pub leaf_told : {L : Type 0} (leaves : List L) (t : Plain ℕ) (p : List ℕ) (n : ℕ) (x : L) → value t p ≡ Some n → n < length leaves → x ≡ get_or leaves n x
    → value (relabel leaves t) p ≡ Some x
leaf_told leaves t p n x e lt is = value-relabel leaves t p ∙ ap (option_and_then (slice_get leaves)) e ∙ slice_get_read leaves (length leaves) n x refl lt is
