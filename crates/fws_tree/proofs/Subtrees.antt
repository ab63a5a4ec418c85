-- Subtrees of trees, and of nodes that were added.
use Rattle.std.proofs.Common.{◌≡◌, ◌⊎◌, ℕ, ◌+◌, ◌<◌, ◌≤◌, List, [], ◌∷◌, ◌++◌, inl, inr, length, get_or, Some, slice_get, refl, sym, ◌∙◌, ap, subst, arith, length-append}
use Rattle.std.proofs.lemmas.List.{get_or_push}
use Rattle.std.proofs.lemmas.Option.{slice_get-get_or}
use Rattle.fws_tree.specs.Building.{AreDifferent, HasKid}
use Rattle.fws_tree.specs.declared.node.Kid.{Kid}
use Rattle.fws_tree.specs.declared.node.Node.{Node}
use Rattle.fws_tree.specs.Nodes.{kids_over, tree_of, trees_after}
use Rattle.fws_tree.specs.Plain.{Plain, leaf, cut, none}
use Rattle.fws_tree.specs.Subtrees.{IsSubtree, IsKidSubtree}

pub subtree-self : {L : Type 0} (t : Plain L) → IsSubtree t t
subtree-self (leaf a) = refl
subtree-self (cut f ks) = inl refl

-- a subtree of a kid's tree
pub kid_subtree : (ts : List (Plain ℕ)) (ks : List Kid) (n x : ℕ) (u : Plain ℕ) → HasKid ks n x → IsSubtree u (get_or ts n (cut 0 none)) → IsKidSubtree u (kids_over ts ks)
kid_subtree ts [] n x u h s = absurd h
kid_subtree ts (k ∷ ks) n x u (inl a) s = inl (subst (λ m. IsSubtree u (get_or ts m (cut 0 none))) (sym a.0) s)
kid_subtree ts (k ∷ ks) n x u (inr b) s = inr (kid_subtree ts ks n x u b s)

pub many_over : (ns new : List Node) (r f n x : ℕ) (ks : List Kid) (u : Plain ℕ) → tree_of new r ≡ cut f (kids_over (trees_after [] ns) ks) → HasKid ks n x → IsSubtree u (tree_of ns n) → IsSubtree u (tree_of new r)
many_over ns new r f n x ks u t h s =
    let over : IsSubtree u (cut f (kids_over (trees_after [] ns) ks)) = inr (kid_subtree (trees_after [] ns) ks n x u h s) in
    subst (λ v. IsSubtree u v) (sym t) over

-- the one node that may be new
pub added_last : (old new : List Node) (x : Node) (r k : ℕ) → AreDifferent new → (new ≡ old) ⊎ (new ≡ old ++ x ∷ []) → slice_get new r ≡ Some x → length old ≤ k → k < length new → k ≡ r
added_last old new x r k d (inl e) at le lt = let l : length new ≡ length old = ap (λ (ns : List Node). length ns) e in absurd (omega arith)
added_last old new x r k d (inr e) at le lt =
    let l : length new ≡ length old + 1 = ap (λ (ns : List Node). length ns) e ∙ length-append old (x ∷ []) in
    let z : length old ≡ k = omega arith in
    d k r x (slice_get-get_or new k x lt ∙ ap Some (ap (λ ns. get_or ns k x) e ∙ get_or_push old x x k z)) at
