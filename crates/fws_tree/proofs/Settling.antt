-- Nodes whose leaves were put in order, and the tree that they stand for.
use Rattle.std.proofs.Common.{◌≡◌, ◌⊎◌, ℕ, zero, suc, ◌+◌, ◌-◌, ◌<◌, ◌≤◌, List, [], ◌∷◌, ◌++◌, inl, inr, length, get_or, map, Option, Some, None, slice_get, option_and_then, All, nat_eq, zero-add, refl, sym, ◌∙◌, ap, subst, arith, length-append}
use Rattle.std.proofs.lemmas.Bool.{cases_Bool, MatchBool-at_true, MatchBool-at_false}
use Rattle.std.proofs.lemmas.List.{length-map, get_or-map}
use Rattle.std.proofs.lemmas.List.FromFn.{length-range_with_len, get_or-range_with_len}
use Rattle.std.proofs.lemmas.Option.{slice_get_within, get_or_from_slice_get}
use Rattle.std.specs.List.{AllByRecursion, range_with_len}
use Rattle.fws_tree.specs.Building.{AreDifferent, IsArena, Extends}
use Rattle.fws_tree.specs.declared.node.Kid.{Kid}
use Rattle.fws_tree.specs.declared.node.Node.{Node}
use Rattle.fws_tree.specs.declared.node.Node.TheVariants.{Leaf, Cut}
use Rattle.fws_tree.specs.Nodes.{kids_over, tree_over, tree_of, trees_after, named_leaf, relabel, relabel_kids, IsNodeBelow, AreOrderedFrom}
use Rattle.fws_tree.specs.Plain.{Plain, leaf, cut, Kids, none, kid, EachKid, IsReducedFrom, IsReduced, value}
use Rattle.fws_tree.specs.Settled.{IsPlaceBelow, IsPut, IsPlaced, ArePlaced, AreSettled}
use Rattle.fws_tree.specs.Shared.{IsShared, subtree_of}
use Rattle.fws_tree.specs.Subtrees.{IsSubtree, IsKidSubtree, AreSubtrees}
use Rattle.fws_tree.specs.Tree.{AreLeavesBelow, AreKidLeavesBelow}
use Rattle.fws_tree.proofs.Joining.{reduced_later}
use Rattle.fws_tree.proofs.LeafNumbers.{slice_get-extends}
use Rattle.fws_tree.proofs.Numbered.{node_tree, ordered_at, tree_of-told}
use Rattle.fws_tree.proofs.Relabel.{relabel_inj, reduced-relabel, value-relabel}
use Rattle.fws_tree.proofs.LeafPlaces.{leaves_below}
use Rattle.fws_tree.specs.Shown.{AreAddedBelow}
use Rattle.fws_box.specs.Sides.{IsWithin}
use Rattle.fws_tree.proofs.Subtrees.{subtree-self}

-- ---- subtrees

-- what holds of each kid's tree, for a subtree of one of them
each_sub : {L : Type 0} (Q : Plain L → Type 0) (R : Type 0) (u : Plain L) → ((t : Plain L) → Q t → IsSubtree u t → R) → (ks : Kids L) → EachKid Q ks → IsKidSubtree u ks → R
each_sub Q R u step none each s = absurd s
each_sub Q R u step (kid r t ks) each (inl a) = step t each.0 a
each_sub Q R u step (kid r t ks) each (inr b) = each_sub Q R u step ks each.1 b

-- what reduced trees have over these fields, the subtrees of a reduced tree have
reduced_sub : {L : Type 0} (tops : List ℕ) (f : ℕ) (P : Plain L → Type 0) → ((v : Plain L) → IsReducedFrom f tops v → P v) → (t : Plain L) → IsReducedFrom f tops t → (u : Plain L) → IsSubtree u t → P u
reduced_sub tops f P up (leaf a) r u s = subst P (sym s) (up (leaf a) r)
reduced_sub [] f P up (cut g ks) r u s = absurd r
reduced_sub (top ∷ tops) f P up (cut g ks) r u s = elim (cases_Bool (nat_eq g f)) [
  | inl y ↦ (let m = MatchBool-at_true _ _ y r in elim s [
    | inl e ↦ subst P (sym e) (up (cut g ks) r)
    | inr k ↦ each_sub (IsReducedFrom (suc f) tops) (P u) u (λ t q w. reduced_sub tops (suc f) P (λ v z. up v (reduced_later f top tops v z)) t q u w) ks m.2 k
  ])
  | inr n ↦ reduced_sub tops (suc f) P (λ v z. up v (reduced_later f top tops v z)) (cut g ks) (MatchBool-at_false _ _ n r) u s
]

-- a subtree of a reduced tree is reduced
pub subtree_reduced : {L : Type 0} (tops : List ℕ) (t u : Plain L) → IsReduced tops t → IsSubtree u t → IsReduced tops u
subtree_reduced tops t u r s = reduced_sub tops 0 (IsReduced tops) (λ v z. z) t r u s

mutual
  pub subtree_below : (n : ℕ) (t u : Plain ℕ) → AreLeavesBelow n t → IsSubtree u t → AreLeavesBelow n u
  subtree_below n (leaf a) u h s = subst (AreLeavesBelow n) (sym s) h
  subtree_below n (cut f ks) u h (inl e) = subst (AreLeavesBelow n) (sym e) h
  subtree_below n (cut f ks) u h (inr k) = kid_below n ks u h k

  kid_below : (n : ℕ) (ks : Kids ℕ) (u : Plain ℕ) → AreKidLeavesBelow n ks → IsKidSubtree u ks → AreLeavesBelow n u
  kid_below n none u h s = absurd s
  kid_below n (kid r t ks) u h (inl a) = subtree_below n t u h.0 a
  kid_below n (kid r t ks) u h (inr b) = kid_below n ks u h.1 b

same_subtree : {L : Type 0} (u t : Plain L) → u ≡ t → IsSubtree u t
same_subtree u t e = subst (λ v. IsSubtree v t) (sym e) (subtree-self t)

mutual
  subtree-relabel : {L : Type 0} (leaves : List L) (t u : Plain ℕ) → IsSubtree u t → IsSubtree (relabel leaves u) (relabel leaves t)
  subtree-relabel leaves (leaf a) u s = same_subtree (relabel leaves u) (relabel leaves (leaf a)) (ap (relabel leaves) s)
  subtree-relabel leaves (cut f ks) u (inl e) = inl (ap (relabel leaves) e)
  subtree-relabel leaves (cut f ks) u (inr k) = inr (kid_subtree-relabel leaves ks u k)

  kid_subtree-relabel : {L : Type 0} (leaves : List L) (ks : Kids ℕ) (u : Plain ℕ) → IsKidSubtree u ks → IsKidSubtree (relabel leaves u) (relabel_kids leaves ks)
  kid_subtree-relabel leaves none u s = absurd s
  kid_subtree-relabel leaves (kid r t ks) u (inl a) = inl (subtree-relabel leaves t u a)
  kid_subtree-relabel leaves (kid r t ks) u (inr b) = inr (kid_subtree-relabel leaves ks u b)

named_subtree : {L : Type 0} (o : Option L) (u : Plain L) → IsSubtree u (named_leaf o) → u ≡ named_leaf o
named_subtree (Some a) u s = s
named_subtree None u (inl e) = e
named_subtree None u (inr k) = absurd k

-- a subtree of a relabelled tree is a relabelled subtree
abbrev Relabelled : {L : Type 0} → List L → Plain L → Plain ℕ → Type 0
Relabelled leaves u t = (v : Plain ℕ) × IsSubtree v t × (u ≡ relabel leaves v)

abbrev RelabelledKid : {L : Type 0} → List L → Plain L → Kids ℕ → Type 0
RelabelledKid leaves u ks = (v : Plain ℕ) × IsKidSubtree v ks × (u ≡ relabel leaves v)

mutual
  of_relabelled : {L : Type 0} (leaves : List L) (t : Plain ℕ) (u : Plain L) → IsSubtree u (relabel leaves t) → Relabelled leaves u t
  of_relabelled leaves (leaf a) u s = (leaf a, refl, named_subtree (slice_get leaves a) u s)
  of_relabelled leaves (cut f ks) u (inl e) = (cut f ks, inl refl, e)
  of_relabelled leaves (cut f ks) u (inr k) = let z = of_relabelled_kid leaves ks u k in (z.0, inr z.1, z.2)

  of_relabelled_kid : {L : Type 0} (leaves : List L) (ks : Kids ℕ) (u : Plain L) → IsKidSubtree u (relabel_kids leaves ks) → RelabelledKid leaves u ks
  of_relabelled_kid leaves none u s = absurd s
  of_relabelled_kid leaves (kid r t ks) u (inl a) = let z = of_relabelled leaves t u a in (z.0, inl z.1, z.2)
  of_relabelled_kid leaves (kid r t ks) u (inr b) = let z = of_relabelled_kid leaves ks u b in (z.0, inr z.1, z.2)

-- ---- subtrees of a node's tree

kid_node : (ns : List Node) (n : ℕ) (ks : List Kid) (u : Plain ℕ) → AllByRecursion (λ k. k.node < n) ks → IsKidSubtree u (kids_over (trees_after [] ns) ks) → (j : ℕ) × (j < n) × IsSubtree u (tree_of ns j)
kid_node ns n [] u below s = absurd s
kid_node ns n (k ∷ ks) u below (inl a) = (k.node, below.0, a)
kid_node ns n (k ∷ ks) u below (inr b) = kid_node ns n ks u below.1 b

abbrev StandsAt : List Node → Plain ℕ → ℕ → Type 0
StandsAt ns u k = (j : ℕ) × (j ≤ k) × (u ≡ tree_of ns j)

at_node : (ns : List Node) (k : ℕ) (x : Node) (u : Plain ℕ) → tree_of ns k ≡ tree_over (trees_after [] ns) x → IsNodeBelow k x
    → ((j : ℕ) → j < k → IsSubtree u (tree_of ns j) → StandsAt ns u j) → IsSubtree u (tree_over (trees_after [] ns) x) → StandsAt ns u k
at_node ns k (Leaf a) u e below lower s = (k, omega arith, s ∙ sym e)
at_node ns k (Cut f ks) u e below lower (inl s) = (k, omega arith, s ∙ sym e)
at_node ns k (Cut f ks) u e below lower (inr s) =
    let z = kid_node ns k ks u below s in
    let lt = z.1 in
    let w = lower z.0 z.1 z.2 in
    let le = w.1 in
    (w.0, omega arith, w.2)

subtree_under : (n : ℕ) (ns : List Node) (u : Plain ℕ) → AreOrderedFrom 0 ns → (k : ℕ) → k < n → k < length ns → IsSubtree u (tree_of ns k) → StandsAt ns u k
subtree_under zero ns u h k lt lk s = absurd (omega arith)
subtree_under (suc n) ns u h k lt lk s =
    at_node ns k (get_or ns k (Leaf 0)) u (node_tree ns k h lk) (subst (λ i. IsNodeBelow i (get_or ns k (Leaf 0))) (zero-add k) (ordered_at 0 ns k h lk))
    (λ j lj. subtree_under n ns u h j (omega arith) (omega arith)) (subst (IsSubtree u) (node_tree ns k h lk) s)

-- a subtree of a node's tree is the tree of a node that is no later
pub subtree_at : (ns : List Node) (u : Plain ℕ) (k : ℕ) → AreOrderedFrom 0 ns → k < length ns → IsSubtree u (tree_of ns k) → StandsAt ns u k
subtree_at ns u k h lk s = subtree_under (suc k) ns u h k (omega arith) lk s

-- the node of which all trees are subtrees is the last
pub last_is : (ns : List Node) (r : ℕ) → IsArena ns → r < length ns → ((k : ℕ) → k < length ns → IsSubtree (tree_of ns k) (tree_of ns r)) → r ≡ length ns - 1
last_is ns r a lr all =
    let k : ℕ = length ns - 1 in
    let lk : k < length ns = omega arith in
    let z = subtree_at ns (tree_of ns k) r a.ordered lr (all k lk) in
    let le = z.1 in
    let same : k ≡ z.0 = tree_of-told ns a.ordered a.different k z.0 lk (omega arith) z.2 in
    omega arith

-- ---- nodes whose leaves were put in order

placed-extends : {L : Type 0} (leaves old new : List L) (x y : Node) → Extends old new → IsPlaced leaves old x y → IsPlaced leaves new x y
placed-extends leaves old new (Leaf n) (Leaf m) e h =
    let l : length new ≡ length old + length e.0 = ap (λ (xs : List _). length xs) e.1 ∙ length-append old e.0 in
    let lt = h.0 in
    let d = slice_there old m h.0 in
    (omega arith, slice_get-extends old new m d.0 e d.1 ∙ sym d.1 ∙ h.1)
  where
    slice_there : {X : Type 0} (xs : List X) (i : ℕ) → i < length xs → (x : X) × (slice_get xs i ≡ Some x)
    slice_there [] i lt = absurd (omega arith)
    slice_there (x ∷ xs) zero lt = (x, refl)
    slice_there (x ∷ xs) (suc i) lt = slice_there xs i (omega arith)
placed-extends leaves old new (Leaf n) (Cut g js) e h = h
placed-extends leaves old new (Cut f ks) (Leaf m) e h = h
placed-extends leaves old new (Cut f ks) (Cut g js) e h = h

all_placed-extends : {L : Type 0} (leaves old new : List L) (ns ms : List Node) → Extends old new → ArePlaced leaves old ns ms → ArePlaced leaves new ns ms
all_placed-extends leaves old new [] [] e h = tt
all_placed-extends leaves old new [] (m ∷ ms) e h = h
all_placed-extends leaves old new (n ∷ ns) [] e h = h
all_placed-extends leaves old new (n ∷ ns) (m ∷ ms) e h = (placed-extends leaves old new n m e h.0, all_placed-extends leaves old new ns ms e h.1)

placed-push : {L : Type 0} (leaves kept : List L) (ns ms : List Node) (x y : Node) → ArePlaced leaves kept ns ms → IsPlaced leaves kept x y → ArePlaced leaves kept (ns ++ x ∷ []) (ms ++ y ∷ [])
placed-push leaves kept [] [] x y h p = (p, tt)
placed-push leaves kept [] (m ∷ ms) x y h p = absurd h
placed-push leaves kept (n ∷ ns) [] x y h p = absurd h
placed-push leaves kept (n ∷ ns) (m ∷ ms) x y h p = (h.0, placed-push leaves kept ns ms x y h.1 p)

pub placed-length : {L : Type 0} (leaves kept : List L) (ns ms : List Node) → ArePlaced leaves kept ns ms → length ms ≡ length ns
placed-length leaves kept [] [] h = refl
placed-length leaves kept [] (m ∷ ms) h = absurd h
placed-length leaves kept (n ∷ ns) [] h = absurd h
placed-length leaves kept (n ∷ ns) (m ∷ ms) h = let l = placed-length leaves kept ns ms h.1 in omega arith

push_at : {X : Type 0} (xs : List X) (x : X) → slice_get (xs ++ x ∷ []) (length xs) ≡ Some x
push_at [] x = refl
push_at (y ∷ xs) x = push_at xs x

used-push : {L : Type 0} (kept : List L) (ms : List Node) (y : Node) → ((n : ℕ) → n < length kept → (k : ℕ) × (slice_get ms k ≡ Some (Leaf n))) → (n : ℕ) → n < length kept → (k : ℕ) × (slice_get (ms ++ y ∷ []) k ≡ Some (Leaf n))
used-push kept ms y used n lt = let z = used n lt in (z.0, slice_get-extends ms (ms ++ y ∷ []) z.0 (Leaf n) (y ∷ [], refl) z.1)

pub settled-next : {L : Type 0} (leaves : List L) (ns : List Node) (old new : List L) (ms : List Node) (x y : Node) → AreSettled leaves ns old ms → IsPut leaves x y old new → AreSettled leaves (ns ++ x ∷ []) new (ms ++ y ∷ [])
settled-next leaves ns old new ms (Cut f ks) y s p = subst (λ kept. AreSettled leaves (ns ++ Cut f ks ∷ []) kept (ms ++ y ∷ [])) (sym p.1)
    (subst (λ z. AreSettled leaves (ns ++ Cut f ks ∷ []) old (ms ++ z ∷ [])) (sym p.0) (record {
      placed = placed-push leaves old ns ms (Cut f ks) (Cut f ks) s.placed refl;
      used = used-push old ms (Cut f ks) s.used;
    }))
settled-next leaves ns old new ms (Leaf n) y s p =
    let a = p.1.0 in
    let more : List _ = old ++ a ∷ [] in
    let l : length more ≡ length old + 1 = length-append old (a ∷ []) in
    subst (λ kept. AreSettled leaves (ns ++ Leaf n ∷ []) kept (ms ++ y ∷ [])) (sym p.1.2)
    (subst (λ z. AreSettled leaves (ns ++ Leaf n ∷ []) more (ms ++ z ∷ [])) (sym p.0) (record {
      placed = placed-push leaves more ns ms (Leaf n) (Leaf (length old)) (all_placed-extends leaves old more ns ms (a ∷ [], refl) s.placed) (omega arith, push_at old a ∙ sym p.1.1);
      used = λ m lt. elim (last_or m lt) [
        | inl before ↦ used-push old ms (Leaf (length old)) s.used m before
        | inr e ↦ (length ms, push_at ms (Leaf (length old)) ∙ ap (λ i. Some (Leaf i)) (sym e))
      ];
    }))
  where
    last_or : (m : ℕ) → m < length (old ++ p.1.0 ∷ []) → (m < length old) ⊎ (m ≡ length old)
    last_or m lt = let l : length (old ++ p.1.0 ∷ []) ≡ length old + 1 = length-append old (p.1.0 ∷ []) in grind arith

placed_at : {L : Type 0} (leaves kept : List L) (ns ms : List Node) (k : ℕ) (d e : Node) → ArePlaced leaves kept ns ms → k < length ns → IsPlaced leaves kept (get_or ns k d) (get_or ms k e)
placed_at leaves kept [] [] k d e h lt = absurd (omega arith)
placed_at leaves kept [] (m ∷ ms) k d e h lt = absurd h
placed_at leaves kept (n ∷ ns) [] k d e h lt = absurd h
placed_at leaves kept (n ∷ ns) (m ∷ ms) zero d e h lt = h.0
placed_at leaves kept (n ∷ ns) (m ∷ ms) (suc k) d e h lt = placed_at leaves kept ns ms k d e h.1 (omega arith)

placed_below : {L : Type 0} (leaves kept : List L) (n : ℕ) (x y : Node) → IsPlaced leaves kept x y → IsNodeBelow n x → IsNodeBelow n y
placed_below leaves kept n (Leaf a) (Leaf b) h b' = tt
placed_below leaves kept n (Leaf a) (Cut g js) h b = absurd h
placed_below leaves kept n (Cut f ks) (Leaf b) h b' = tt
placed_below leaves kept n (Cut f ks) (Cut g js) h b = subst (IsNodeBelow n) (sym h) b

placed_ordered : {L : Type 0} (leaves kept : List L) (n : ℕ) (ns ms : List Node) → ArePlaced leaves kept ns ms → AreOrderedFrom n ns → AreOrderedFrom n ms
placed_ordered leaves kept n [] [] h o = tt
placed_ordered leaves kept n [] (m ∷ ms) h o = absurd h
placed_ordered leaves kept n (x ∷ ns) [] h o = tt
placed_ordered leaves kept n (x ∷ ns) (m ∷ ms) h o = (placed_below leaves kept n x m h.0 o.0, placed_ordered leaves kept (suc n) ns ms h.1 o.1)

kids_settled : {L : Type 0} (leaves kept : List L) (ns ms : List Node) (n : ℕ) → ((j : ℕ) → j < n → relabel kept (tree_of ms j) ≡ relabel leaves (tree_of ns j))
    → (ks : List Kid) → AllByRecursion (λ k. k.node < n) ks → relabel_kids kept (kids_over (trees_after [] ms) ks) ≡ relabel_kids leaves (kids_over (trees_after [] ns) ks)
kids_settled leaves kept ns ms n same [] below = refl
kids_settled leaves kept ns ms n same (k ∷ ks) below =
    ap (λ t. kid k.set t (relabel_kids kept (kids_over (trees_after [] ms) ks))) (same k.node below.0)
    ∙ ap (λ js. kid k.set (relabel leaves (tree_of ns k.node)) js) (kids_settled leaves kept ns ms n same ks below.1)

node_settled : {L : Type 0} (leaves kept : List L) (ns ms : List Node) (n : ℕ) → ((j : ℕ) → j < n → relabel kept (tree_of ms j) ≡ relabel leaves (tree_of ns j))
    → (x y : Node) → IsPlaced leaves kept x y → IsNodeBelow n x → relabel kept (tree_over (trees_after [] ms) y) ≡ relabel leaves (tree_over (trees_after [] ns) x)
node_settled leaves kept ns ms n same (Leaf a) (Leaf b) h below = ap named_leaf h.1
node_settled leaves kept ns ms n same (Leaf a) (Cut g js) h below = absurd h
node_settled leaves kept ns ms n same (Cut f ks) (Leaf b) h below = absurd h
node_settled leaves kept ns ms n same (Cut f ks) (Cut g js) h below =
    ap (λ y. relabel kept (tree_over (trees_after [] ms) y)) h ∙ ap (λ zs. cut f zs) (kids_settled leaves kept ns ms n same ks below)

settled_under : {L : Type 0} (n : ℕ) (leaves kept : List L) (ns ms : List Node) → AreOrderedFrom 0 ns → AreOrderedFrom 0 ms → ArePlaced leaves kept ns ms → (k : ℕ) → k < n → k < length ns
    → relabel kept (tree_of ms k) ≡ relabel leaves (tree_of ns k)
settled_under zero leaves kept ns ms h g p k lt lk = absurd (omega arith)
settled_under (suc n) leaves kept ns ms h g p k lt lk =
    let l = placed-length leaves kept ns ms p in
    ap (relabel kept) (node_tree ms k g (omega arith))
    ∙ node_settled leaves kept ns ms k (λ j lj. settled_under n leaves kept ns ms h g p j (omega arith) (omega arith)) (get_or ns k (Leaf 0)) (get_or ms k (Leaf 0))
    (placed_at leaves kept ns ms k (Leaf 0) (Leaf 0) p lk) (subst (λ i. IsNodeBelow i (get_or ns k (Leaf 0))) (zero-add k) (ordered_at 0 ns k h lk))
    ∙ ap (relabel leaves) (sym (node_tree ns k h lk))

-- the settled nodes stand for the same trees
pub settled_tree : {L : Type 0} (leaves kept : List L) (ns ms : List Node) → AreOrderedFrom 0 ns → AreSettled leaves ns kept ms → (k : ℕ) → k < length ns → subtree_of kept ms k ≡ subtree_of leaves ns k
settled_tree leaves kept ns ms h s k lk = settled_under (suc k) leaves kept ns ms h (placed_ordered leaves kept 0 ns ms s.placed h) s.placed k (omega arith) lk

-- ---- the tree of all

-- nodes of which the last one's tree is reduced and has all the others as subtrees
pub record IsRooted {L : Type 0} (tops : List ℕ) (leaves : List L) (ns : List Node) : Type 0 where
  pub arena : IsArena ns
  pub some : 0 < length ns
  pub within : (k : ℕ) → k < length ns → IsSubtree (tree_of ns k) (tree_of ns (length ns - 1))
  pub reduced : IsReduced tops (tree_of ns (length ns - 1))
  pub different : AreDifferent leaves
  pub below : AreLeavesBelow (length leaves) (tree_of ns (length ns - 1))

places_below : {L : Type 0} (tops : List ℕ) (leaves : List L) (ns : List Node) → IsRooted tops leaves ns → (k : ℕ) → k < length ns → AreLeavesBelow (length leaves) (tree_of ns k)
places_below tops leaves ns r k lk = subtree_below (length leaves) (tree_of ns (length ns - 1)) (tree_of ns k) r.below (r.within k lk)

-- each leaf's place is below the number of leaves
pub rooted_places : {L : Type 0} (tops : List ℕ) (leaves : List L) (ns : List Node) → IsRooted tops leaves ns → All (IsPlaceBelow (length leaves)) ns
rooted_places tops leaves ns r k d lk = by (get_or ns k d) (node_tree ns k r.arena.ordered lk ∙ ap (tree_over (trees_after [] ns)) (other ns k d lk))
  where
    other : (ns : List Node) (k : ℕ) (d : Node) → k < length ns → get_or ns k (Leaf 0) ≡ get_or ns k d
    other [] k d lt = absurd (omega arith)
    other (n ∷ ns) zero d lt = refl
    other (n ∷ ns) (suc k) d lt = other ns k d (omega arith)

    by : (x : Node) → tree_of ns k ≡ tree_over (trees_after [] ns) x → IsPlaceBelow (length leaves) x
    by (Leaf n) e = subst (AreLeavesBelow (length leaves)) e (places_below tops leaves ns r k lk)
    by (Cut f ks) e = tt

settled_named : {L : Type 0} (leaves kept : List L) (ns ms : List Node) (k n : ℕ) → ArePlaced leaves kept ns ms → slice_get ms k ≡ Some (Leaf n) → n < length kept
settled_named leaves kept ns ms k n p is =
    let lk = slice_get_within ms k (Leaf n) is in
    let l = placed-length leaves kept ns ms p in
    by (get_or ns k (Leaf 0)) (subst (IsPlaced leaves kept (get_or ns k (Leaf 0))) (get_or_from_slice_get ms k (Leaf n) (Leaf 0) is) (placed_at leaves kept ns ms k (Leaf 0) (Leaf 0) p (omega arith)))
  where
    by : (x : Node) → IsPlaced leaves kept x (Leaf n) → n < length kept
    by (Leaf a) h = h.0
    by (Cut f ks) h = absurd h

pub settled_shared : {L : Type 0} (tops : List ℕ) (leaves kept : List L) (ns ms : List Node) → IsRooted tops leaves ns → AreSettled leaves ns kept ms → IsShared tops (subtree_of kept ms (length ms - 1)) kept ms
settled_shared tops leaves kept ns ms r s =
    let l : length ms ≡ length ns = placed-length leaves kept ns ms s.placed in
    let some = r.some in
    let ordered = r.arena.ordered in
    let same : (k : ℕ) → k < length ns → subtree_of kept ms k ≡ subtree_of leaves ns k = settled_tree leaves kept ns ms ordered s in
    let root : subtree_of kept ms (length ms - 1) ≡ subtree_of leaves ns (length ns - 1) = ap (λ n. subtree_of kept ms (n - 1)) l ∙ same (length ns - 1) (omega arith) in
    record {
      ordered = placed_ordered leaves kept 0 ns ms s.placed ordered;
      some = omega arith;
      last = refl;
      reduced = λ k lk. let lt : k < length ns = omega arith in subst (IsReduced tops) (sym (same k lt))
          (reduced-relabel leaves r.different tops (tree_of ns k) (places_below tops leaves ns r k lt) (subtree_reduced tops (tree_of ns (length ns - 1)) (tree_of ns k) r.reduced (r.within k lt)));
      within = λ k lk. let lt : k < length ns = omega arith in subst (λ t. IsSubtree (subtree_of kept ms k) t) (sym root) (subst (λ t. IsSubtree t (subtree_of leaves ns (length ns - 1))) (sym (same k lt))
          (subtree-relabel leaves (tree_of ns (length ns - 1)) (tree_of ns k) (r.within k lt)));
      different = λ j k lj lk e. let a : j < length ns = omega arith in let b : k < length ns = omega arith in
          tree_of-told ns ordered r.arena.different j k a b
          (relabel_inj leaves r.different (tree_of ns j) (tree_of ns k) (places_below tops leaves ns r j a) (places_below tops leaves ns r k b) (sym (same j a) ∙ e ∙ same k b));
      named = λ k n is. settled_named leaves kept ns ms k n s.placed is;
      used = s.used;
    }

-- ---- the subtrees of a shared tree

pub shared_subtrees : {L : Type 0} (tops : List ℕ) (t : Plain L) (leaves : List L) (nodes : List Node) → IsShared tops t leaves nodes → (ts : List (Plain L)) × AreSubtrees t ts × (length ts ≡ length nodes)
shared_subtrees {L} tops t leaves nodes s =
    let ks : List ℕ = range_with_len 0 (length nodes) in
    let ts : List (Plain L) = map (subtree_of leaves nodes) ks in
    let many : length ts ≡ length nodes = length-map ks (subtree_of leaves nodes) ∙ length-range_with_len 0 (length nodes) in
    let at : (k : ℕ) (d : Plain L) → k < length nodes → get_or ts k d ≡ subtree_of leaves nodes k = λ k d lt.
    get_or-map (subtree_of leaves nodes) ks k 0 d (let l = length-range_with_len 0 (length nodes) in omega arith)
    ∙ ap (subtree_of leaves nodes) (get_or-range_with_len 0 (length nodes) k 0 lt ∙ zero-add k) in (
      ts,
      record {
        different = λ i j x a b.
            let li = slice_get_within ts i x a in
            let lj = slice_get_within ts j x b in
            let ni : i < length nodes = omega arith in
            let nj : j < length nodes = omega arith in
            s.different i j ni nj (sym (at i x ni) ∙ get_or_from_slice_get ts i x x a ∙ sym (get_or_from_slice_get ts j x x b) ∙ at j x nj);
        all = λ u. (
          λ c. let lt = c.1 in let ln : c.0 < length nodes = omega arith in subst (λ v. IsSubtree v t) (sym (at c.0 u ln) ∙ c.2) (s.within c.0 ln),
          λ h.
              let some = s.some in
              let z = of_relabelled leaves (tree_of nodes (length nodes - 1)) u (subst (IsSubtree u) s.last h) in
              let w = subtree_at nodes z.0 (length nodes - 1) s.ordered (omega arith) z.1 in
              let le = w.1 in
              let ln : w.0 < length nodes = omega arith in
              (w.0, omega arith, at w.0 u ln ∙ sym (ap (relabel leaves) w.2) ∙ sym z.2),
        );
      },
      many,
    )

-- ---- the tree of a shown cell

pub rooted_from : {L : Type 0} (tops : List ℕ) (leaves : List L) (old ns nodes : List Node) (r : ℕ) (place : List ℕ → ℕ) → nodes ≡ ns → old ≡ [] → IsArena ns → r < length ns → AreAddedBelow old ns r → IsReduced tops (tree_of ns r) → AreDifferent leaves
    → ((p : List ℕ) → IsWithin tops p → value (tree_of ns r) p ≡ Some (place p)) → ((p : List ℕ) → IsWithin tops p → place p < length leaves) → IsRooted tops leaves nodes × (r ≡ length nodes - 1)
rooted_from tops leaves old ns nodes r place same empty a lr below reduced different is there =
    let z : length old ≡ 0 = ap (λ (ms : List Node). length ms) empty in
    let all : (k : ℕ) → k < length ns → IsSubtree (tree_of ns k) (tree_of ns r) = λ k lk. below k (omega arith) lk in
    let last : r ≡ length ns - 1 = last_is ns r a lr all in
    subst (λ ms. IsRooted tops leaves ms × (r ≡ length ms - 1)) (sym same) (
      record {
        arena = a;
        some = omega arith;
        within = λ k lk. subst (λ j. IsSubtree (tree_of ns k) (tree_of ns j)) last (all k lk);
        reduced = subst (λ j. IsReduced tops (tree_of ns j)) last reduced;
        different = different;
        below = subst (λ j. AreLeavesBelow (length leaves) (tree_of ns j)) last (leaves_below (length leaves) tops (tree_of ns r) reduced
            (λ p w k e. let s : Some (place p) ≡ Some k = sym (is p w) ∙ e in let t : place p ≡ k = cc in subst (λ n. n < length leaves) t (there p w)));
      },
      last,
    )

pub finished_value : {L : Type 0} (tops : List ℕ) (leaves kept : List L) (ns nodes ms : List Node) (r n : ℕ) (p : List ℕ) → nodes ≡ ns → IsRooted tops leaves nodes → r ≡ length nodes - 1 → AreSettled leaves nodes kept ms
    → value (tree_of ns r) p ≡ Some n → value (subtree_of kept ms (length ms - 1)) p ≡ slice_get leaves n
finished_value tops leaves kept ns nodes ms r n p same rooted last s is =
    let some = rooted.some in
    let l : length ms ≡ length nodes = placed-length leaves kept nodes ms s.placed in
    let root : subtree_of kept ms (length ms - 1) ≡ subtree_of leaves nodes (length nodes - 1) =
    ap (λ k. subtree_of kept ms (k - 1)) l ∙ settled_tree leaves kept nodes ms rooted.arena.ordered s (length nodes - 1) (omega arith) in
    ap (λ t. value t p) (root ∙ ap (subtree_of leaves nodes) (sym last)) ∙ value-relabel leaves (tree_of nodes r) p
    ∙ ap (option_and_then (slice_get leaves)) (ap (λ ms. value (tree_of ms r) p) same ∙ is)
