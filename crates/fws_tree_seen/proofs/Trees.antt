-- The trees of nodes.
use Rattle.std.proofs.Common.{◌≡◌, ℕ, zero, suc, ◌+◌, ◌<◌, zero-add, Some, List, [], ◌∷◌, ◌++◌, length, get_or, slice_get, refl, sym, ◌∙◌, ap, subst, arith, length-append}
use Rattle.std.proofs.lemmas.Grind.{common_steps}
use Rattle.std.proofs.lemmas.Option.{slice_get_within, get_or_from_slice_get}
use Rattle.std.specs.List.{AllByRecursion}
use Rattle.std.specs.Prelude.{slice_index_or}
use Rattle.fws_tree.specs.declared.node.Kid.{Kid}
use Rattle.fws_tree.specs.declared.node.Node.{Node}
use Rattle.fws_tree.specs.declared.node.Node.TheVariants.{Leaf, Cut}
use Rattle.fws_tree.specs.Nodes.{kids_over, tree_over, trees_after, tree_of, IsNodeBelow, AreOrderedFrom, named_leaf, relabel, relabel_kids}
use Rattle.fws_tree.specs.Plain.{Plain, leaf, cut, none, kid}
use Rattle.fws_tree.specs.Shared.{subtree_of}
use Rattle.fws_tree_seen.specs.Cuts.{kids_of}

at_front : (ts us : List (Plain ℕ)) (i : ℕ) → i < length ts → get_or (ts ++ us) i (cut 0 none) ≡ get_or ts i (cut 0 none)
at_front ts us i h = grind (arith, common_steps)

at_end : (ts : List (Plain ℕ)) (t : Plain ℕ) → get_or (ts ++ t ∷ []) (length ts) (cut 0 none) ≡ t
at_end ts t = grind (arith, common_steps)

-- later nodes leave the earlier trees
kept : (ts : List (Plain ℕ)) (ns : List Node) (i : ℕ) → i < length ts → get_or (trees_after ts ns) i (cut 0 none) ≡ get_or ts i (cut 0 none)
kept ts [] i h = refl
kept ts (n ∷ ns) i h =
    let l : i < length (ts ++ tree_over ts n ∷ []) = omega (arith, length-append ts (tree_over ts n ∷ [])) in
    kept (ts ++ tree_over ts n ∷ []) ns i l ∙ at_front ts (tree_over ts n ∷ []) i h

kids_same : (ts us : List (Plain ℕ)) (n : ℕ) → ((i : ℕ) → i < n → get_or us i (cut 0 none) ≡ get_or ts i (cut 0 none)) → (ks : List Kid) → AllByRecursion (λ k. k.node < n) ks
    → kids_over us ks ≡ kids_over ts ks
kids_same ts us n e [] h = refl
kids_same ts us n e (k ∷ ks) h = ap (λ t. kid k.set t (kids_over us ks)) (e k.node h.0) ∙ ap (λ l. kid k.set (get_or ts k.node (cut 0 none)) l) (kids_same ts us n e ks h.1)

node_same : (ts us : List (Plain ℕ)) (n : ℕ) → ((i : ℕ) → i < n → get_or us i (cut 0 none) ≡ get_or ts i (cut 0 none)) → (x : Node) → IsNodeBelow n x → tree_over us x ≡ tree_over ts x
node_same ts us n e (Leaf a) h = refl
node_same ts us n e (Cut f ks) h = ap (λ l. cut f l) (kids_same ts us n e ks h)

node_from : (ts : List (Plain ℕ)) (ns : List Node) → AreOrderedFrom (length ts) ns → (j : ℕ) → j < length ns
    → get_or (trees_after ts ns) (length ts + j) (cut 0 none) ≡ tree_over (trees_after ts ns) (get_or ns j (Leaf 0))
node_from ts [] h j lt = absurd (omega arith)
node_from ts (n ∷ ns) h zero lt =
    let us : List (Plain ℕ) = ts ++ tree_over ts n ∷ [] in
    let l : length us ≡ suc (length ts) = omega (arith, length-append ts (tree_over ts n ∷ [])) in
    let here : length ts + 0 < length us = omega arith in
    let z : length ts + 0 ≡ length ts = omega arith in
    kept us ns (length ts + 0) here ∙ ap (λ k. get_or us k (cut 0 none)) z ∙ at_end ts (tree_over ts n)
    ∙ sym (node_same ts (trees_after us ns) (length ts) (λ i lt'. let m : i < length us = omega arith in kept us ns i m ∙ at_front ts (tree_over ts n ∷ []) i lt') n h.0)
node_from ts (n ∷ ns) h (suc j) lt =
    let us : List (Plain ℕ) = ts ++ tree_over ts n ∷ [] in
    let l : length us ≡ suc (length ts) = omega (arith, length-append ts (tree_over ts n ∷ [])) in
    let e : length ts + suc j ≡ length us + j = omega arith in
    ap (λ k. get_or (trees_after us ns) k (cut 0 none)) e ∙ node_from us ns (subst (λ k. AreOrderedFrom k ns) (sym l) h.1) j (omega arith)

-- the tree of a node is its own cut over the trees of its kids
node_tree : (ns : List Node) (at : ℕ) → AreOrderedFrom 0 ns → at < length ns → tree_of ns at ≡ tree_over (trees_after [] ns) (get_or ns at (Leaf 0))
node_tree ns at h lt = let z : at ≡ 0 + at = omega arith in ap (λ k. get_or (trees_after [] ns) k (cut 0 none)) z ∙ node_from [] ns h at lt

-- each node names nodes below it
ordered_at : (n : ℕ) (ns : List Node) (j : ℕ) → AreOrderedFrom n ns → j < length ns → IsNodeBelow (n + j) (get_or ns j (Leaf 0))
ordered_at n [] j h lt = absurd (omega arith)
ordered_at n (x ∷ xs) zero h lt = let z : n ≡ n + 0 = omega arith in subst (λ k. IsNodeBelow k x) z h.0
ordered_at n (x ∷ xs) (suc j) h lt = let e : suc n + j ≡ n + suc j = omega arith in
    subst (λ k. IsNodeBelow k (get_or xs j (Leaf 0))) e (ordered_at (suc n) xs j h.1 (omega arith))

relabelled_kids : {L : Type 0} → (leaves : List L) (trees : List (Plain ℕ)) (ks : List Kid)
    → relabel_kids leaves (kids_over trees ks) ≡ kids_of (λ n. relabel leaves (slice_index_or trees n (cut 0 none))) ks
relabelled_kids leaves trees [] = refl
relabelled_kids leaves trees (k ∷ ks) = ap (λ l. kid k.set (relabel leaves (slice_index_or trees k.node (cut 0 none))) l) (relabelled_kids leaves trees ks)

-- the tree of a cut
pub cut_tree : {L : Type 0} → (leaves : List L) (nodes : List Node) (k f : ℕ) (ks : List Kid) → AreOrderedFrom 0 nodes → slice_get nodes k ≡ Some (Cut f ks)
    → subtree_of leaves nodes k ≡ cut f (kids_of (λ n. subtree_of leaves nodes n) ks)
cut_tree leaves nodes k f ks ordered is =
    let trees = trees_after [] nodes in
    ap (relabel leaves) (node_tree nodes k ordered (slice_get_within nodes k (Cut f ks) is) ∙ ap (tree_over trees) (get_or_from_slice_get nodes k (Cut f ks) (Leaf 0) is))
    ∙ ap (λ l. cut f l) (relabelled_kids leaves trees ks)

-- the tree of a leaf
pub leaf_tree : {L : Type 0} → (leaves : List L) (nodes : List Node) (k n : ℕ) (a : L) → AreOrderedFrom 0 nodes → slice_get nodes k ≡ Some (Leaf n) → slice_get leaves n ≡ Some a
    → subtree_of leaves nodes k ≡ leaf a
leaf_tree leaves nodes k n a ordered is at =
    let trees = trees_after [] nodes in
    ap (relabel leaves) (node_tree nodes k ordered (slice_get_within nodes k (Leaf n) is) ∙ ap (tree_over trees) (get_or_from_slice_get nodes k (Leaf n) (Leaf 0) is))
    ∙ ap named_leaf at

-- a cut names nodes before it
pub kids_before : (nodes : List Node) (k f : ℕ) (ks : List Kid) → AreOrderedFrom 0 nodes → slice_get nodes k ≡ Some (Cut f ks) → AllByRecursion (λ kid. kid.node < k) ks
kids_before nodes k f ks ordered is =
    let lt = slice_get_within nodes k (Cut f ks) is in
    let b : IsNodeBelow k (get_or nodes k (Leaf 0)) = subst (λ n. IsNodeBelow n (get_or nodes k (Leaf 0))) (zero-add k) (ordered_at 0 nodes k ordered lt) in
    subst (λ x. IsNodeBelow k x) (get_or_from_slice_get nodes k (Cut f ks) (Leaf 0) is) b
