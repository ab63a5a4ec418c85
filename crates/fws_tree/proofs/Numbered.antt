-- The trees of nodes, by their numbers.
use Rattle.std.proofs.Common.{◌≡◌, Bool, true, false, cond, ℕ, zero, suc, ◌+◌, ◌<◌, ◌≤◌, zero-add, List, [], ◌∷◌, ◌++◌, length, get_or, refl, sym, ◌∙◌, ap, subst, arith, length-append, Some, slice_get}
use Rattle.std.proofs.lemmas.Grind.{common_steps}
use Rattle.std.proofs.lemmas.Option.{slice_get-get_or, slice_get_within, get_or_from_slice_get}
use Rattle.std.specs.List.{AllByRecursion}
use Rattle.fws_iv.specs.declared.iv.Iv.{Iv}
use Rattle.fws_tree.specs.declared.node.Kid.{Kid}
use Rattle.fws_tree.specs.declared.node.Node.{Node}
use Rattle.fws_tree.specs.declared.node.Node.TheVariants.{Leaf, Cut}
use Rattle.fws_tree.specs.Plain.{Plain, cut, none, kid}
use Rattle.fws_tree.specs.Building.{AreDifferent, IsArena}
use Rattle.fws_tree.specs.Nodes.{kids_over, tree_over, trees_after, tree_of, IsNodeBelow, AreOrderedFrom}

at_front : (ts us : List (Plain ℕ)) (i : ℕ) → i < length ts → get_or (ts ++ us) i (cut 0 none) ≡ get_or ts i (cut 0 none)
at_front ts us i h = grind (arith, common_steps)

at_end : (ts : List (Plain ℕ)) (t : Plain ℕ) → get_or (ts ++ t ∷ []) (length ts) (cut 0 none) ≡ t
at_end ts t = grind (arith, common_steps)

-- later nodes leave the earlier trees
kept : (ts : List (Plain ℕ)) (ns : List Node) (i : ℕ) → i < length ts → get_or (trees_after ts ns) i (cut 0 none) ≡ get_or ts i (cut 0 none)
kept ts [] i h = refl
kept ts (n ∷ ns) i h =
    let l : i < length (ts ++ tree_over ts n ∷ []) = omega (arith, length-append ts (tree_over ts n ∷ [])) in
    kept (ts ++ tree_over ts n ∷ []) ns i l ∙ at_front ts (tree_over ts n ∷ []) i h

trees_after-append : (ts : List (Plain ℕ)) (ns ms : List Node) → trees_after ts (ns ++ ms) ≡ trees_after (trees_after ts ns) ms
trees_after-append ts [] ms = refl
trees_after-append ts (n ∷ ns) ms = trees_after-append (ts ++ tree_over ts n ∷ []) ns ms

length-trees_after : (ts : List (Plain ℕ)) (ns : List Node) → length (trees_after ts ns) ≡ length ts + length ns
length-trees_after ts [] = omega arith
length-trees_after ts (n ∷ ns) = omega (arith, length-trees_after (ts ++ tree_over ts n ∷ []) ns, length-append ts (tree_over ts n ∷ []))

-- the tree of a node stays when nodes are added behind
pub tree_of-append : (ns ms : List Node) (i : ℕ) → i < length ns → tree_of (ns ++ ms) i ≡ tree_of ns i
tree_of-append ns ms i h =
    let l : i < length (trees_after [] ns) = omega (arith, length-trees_after [] ns) in
    ap (λ ts. get_or ts i (cut 0 none)) (trees_after-append [] ns ms) ∙ kept (trees_after [] ns) ms i l

kids_same : (ts us : List (Plain ℕ)) (n : ℕ) → ((i : ℕ) → i < n → get_or us i (cut 0 none) ≡ get_or ts i (cut 0 none)) → (ks : List Kid) → AllByRecursion (λ k. k.node < n) ks
    → kids_over us ks ≡ kids_over ts ks
kids_same ts us n e [] h = refl
kids_same ts us n e (k ∷ ks) h = ap (λ t. kid k.set t (kids_over us ks)) (e k.node h.0) ∙ ap (λ l. kid k.set (get_or ts k.node (cut 0 none)) l) (kids_same ts us n e ks h.1)

node_same : (ts us : List (Plain ℕ)) (n : ℕ) → ((i : ℕ) → i < n → get_or us i (cut 0 none) ≡ get_or ts i (cut 0 none)) → (x : Node) → IsNodeBelow n x → tree_over us x ≡ tree_over ts x
node_same ts us n e (Leaf a) h = refl
node_same ts us n e (Cut f ks) h = ap (λ l. cut f l) (kids_same ts us n e ks h)

node_from : (ts : List (Plain ℕ)) (ns : List Node) → AreOrderedFrom (length ts) ns → (j : ℕ) → j < length ns
    → get_or (trees_after ts ns) (length ts + j) (cut 0 none) ≡ tree_over (trees_after ts ns) (get_or ns j (Leaf 0))
node_from ts [] h j lt = absurd (omega arith)
node_from ts (n ∷ ns) h zero lt =
    let us : List (Plain ℕ) = ts ++ tree_over ts n ∷ [] in
    let l : length us ≡ suc (length ts) = omega (arith, length-append ts (tree_over ts n ∷ [])) in
    let here : length ts + 0 < length us = omega arith in
    let z : length ts + 0 ≡ length ts = omega arith in
    kept us ns (length ts + 0) here ∙ ap (λ k. get_or us k (cut 0 none)) z ∙ at_end ts (tree_over ts n)
    ∙ sym (node_same ts (trees_after us ns) (length ts) (λ i lt'. let m : i < length us = omega arith in kept us ns i m ∙ at_front ts (tree_over ts n ∷ []) i lt') n h.0)
node_from ts (n ∷ ns) h (suc j) lt =
    let us : List (Plain ℕ) = ts ++ tree_over ts n ∷ [] in
    let l : length us ≡ suc (length ts) = omega (arith, length-append ts (tree_over ts n ∷ [])) in
    let e : length ts + suc j ≡ length us + j = omega arith in
    ap (λ k. get_or (trees_after us ns) k (cut 0 none)) e ∙ node_from us ns (subst (λ k. AreOrderedFrom k ns) (sym l) h.1) j (omega arith)

-- the tree of a node is its own cut over the trees of its kids
pub node_tree : (ns : List Node) (at : ℕ) → AreOrderedFrom 0 ns → at < length ns → tree_of ns at ≡ tree_over (trees_after [] ns) (get_or ns at (Leaf 0))
node_tree ns at h lt = let z : at ≡ 0 + at = omega arith in ap (λ k. get_or (trees_after [] ns) k (cut 0 none)) z ∙ node_from [] ns h at lt

-- each node names nodes below it
pub ordered_at : (n : ℕ) (ns : List Node) (j : ℕ) → AreOrderedFrom n ns → j < length ns → IsNodeBelow (n + j) (get_or ns j (Leaf 0))
ordered_at n [] j h lt = absurd (omega arith)
ordered_at n (x ∷ xs) zero h lt = let z : n ≡ n + 0 = omega arith in subst (λ k. IsNodeBelow k x) z h.0
ordered_at n (x ∷ xs) (suc j) h lt = let e : suc n + j ≡ n + suc j = omega arith in
    subst (λ k. IsNodeBelow k (get_or xs j (Leaf 0))) e (ordered_at (suc n) xs j h.1 (omega arith))

-- nodes stay ordered with one more behind that names earlier ones alone
pub ordered-push : (n : ℕ) (ns : List Node) (x : Node) → AreOrderedFrom n ns → IsNodeBelow (n + length ns) x → AreOrderedFrom n (ns ++ x ∷ [])
ordered-push n [] x h b = let z : n + 0 ≡ n = omega arith in (subst (λ k. IsNodeBelow k x) z b, tt)
ordered-push n (y ∷ ns) x h b = let e : n + suc (length ns) ≡ suc n + length ns = omega arith in
    (h.0, ordered-push (suc n) ns x h.1 (subst (λ k. IsNodeBelow k x) e b))

-- Different nodes have different trees.

-- the numbers below n have a tree that no other number has
abbrev TellsBelow : List Node → ℕ → Type 0
TellsBelow ns n = (a b : ℕ) → a < n → a < length ns → b < length ns → tree_of ns a ≡ tree_of ns b → a ≡ b

kid_same : (k j : Kid) → k.set ≡ j.set → k.node ≡ j.node → k ≡ j
kid_same k j p q = let mk : List Iv → ℕ → Kid = λ s n. record { set = s; node = n } in ap (λ s. mk s k.node) p ∙ ap (λ n. mk j.set n) q

kids_told : (ns : List Node) (n m : ℕ) → TellsBelow ns n → n ≤ length ns → m ≤ length ns → (ks js : List Kid) → AllByRecursion (λ k. k.node < n) ks → AllByRecursion (λ k. k.node < m) js
    → kids_over (trees_after [] ns) ks ≡ kids_over (trees_after [] ns) js → ks ≡ js
kids_told ns n m tells ln lm [] [] h g e = refl
kids_told ns n m tells ln lm [] (j ∷ js) h g e = absurd (cc)
kids_told ns n m tells ln lm (k ∷ ks) [] h g e = absurd (cc)
kids_told ns n m tells ln lm (k ∷ ks) (j ∷ js) h g e =
    let s : k.set ≡ j.set = cc in
    let t : tree_of ns k.node ≡ tree_of ns j.node = cc in
    let r : kids_over (trees_after [] ns) ks ≡ kids_over (trees_after [] ns) js = cc in
    let i : k.node ≡ j.node = tells k.node j.node h.0 (omega (arith, h)) (omega (arith, g)) t in
    let one : k ≡ j = kid_same k j s i in
    ap (λ z. z ∷ ks) one ∙ ap (λ zs. j ∷ zs) (kids_told ns n m tells ln lm ks js h.1 g.1 r)

nodes_told : (ns : List Node) (n m : ℕ) → TellsBelow ns n → n ≤ length ns → m ≤ length ns → (x y : Node) → IsNodeBelow n x → IsNodeBelow m y
    → tree_over (trees_after [] ns) x ≡ tree_over (trees_after [] ns) y → x ≡ y
nodes_told ns n m tells ln lm (Leaf a) (Leaf b) h g e = cc
nodes_told ns n m tells ln lm (Leaf a) (Cut f ks) h g e = absurd (cc)
nodes_told ns n m tells ln lm (Cut f ks) (Leaf b) h g e = absurd (cc)
nodes_told ns n m tells ln lm (Cut f ks) (Cut i js) h g e =
    let p : f ≡ i = cc in
    let q : kids_over (trees_after [] ns) ks ≡ kids_over (trees_after [] ns) js = cc in
    let r : ks ≡ js = kids_told ns n m tells ln lm ks js h g q in
    ap (λ z. Cut z ks) p ∙ ap (λ zs. Cut i zs) r

told : (n : ℕ) (ns : List Node) → AreOrderedFrom 0 ns → AreDifferent ns → TellsBelow ns n
told zero ns ordered different a b lt la lb e = absurd (omega arith)
told (suc n) ns ordered different a b lt la lb e =
    let na : IsNodeBelow a (get_or ns a (Leaf 0)) = rw zero-add at (ordered_at 0 ns a ordered la) in
    let nb : IsNodeBelow b (get_or ns b (Leaf 0)) = rw zero-add at (ordered_at 0 ns b ordered lb) in
    let ea = node_tree ns a ordered la in
    let eb = node_tree ns b ordered lb in
    let less : TellsBelow ns a = λ c d below lc ld f. told n ns ordered different c d (omega arith) lc ld f in
    let same : get_or ns a (Leaf 0) ≡ get_or ns b (Leaf 0) =
    nodes_told ns a b less (omega arith) (omega arith) (get_or ns a (Leaf 0)) (get_or ns b (Leaf 0)) na nb (sym ea ∙ e ∙ eb) in
    different a b (get_or ns a (Leaf 0)) (slice_get-get_or ns a (Leaf 0) la) (slice_get-get_or ns b (Leaf 0) lb ∙ ap Some (sym same))

-- in an ordered list of pairwise different nodes, different numbers have different trees
pub tree_of-told : (ns : List Node) → AreOrderedFrom 0 ns → AreDifferent ns → (a b : ℕ) → a < length ns → b < length ns → tree_of ns a ≡ tree_of ns b → a ≡ b
tree_of-told ns ordered different a b la lb e = told (suc a) ns ordered different a b (omega arith) la lb e

-- The nodes after one was stored.

grown_from : (old new : List Node) (x : Node) (b : Bool) → IsArena old → IsNodeBelow (length old) x → new ≡ cond b (old ++ x ∷ []) old → AreDifferent new → IsArena new
grown_from old new x true a below e d =
    let z : length old ≡ 0 + length old = omega arith in
    record { ordered = subst (λ ns. AreOrderedFrom 0 ns) (sym e) (ordered-push 0 old x a.ordered (subst (λ k. IsNodeBelow k x) z below)); different = d }
grown_from old new x false a below e d = record { ordered = subst (λ ns. AreOrderedFrom 0 ns) (sym e) a.ordered; different = d }

-- the trees of a node over the trees of all nodes and over those of the earlier ones alone
over_grown : (old new : List Node) (x : Node) (b : Bool) → IsNodeBelow (length old) x → new ≡ cond b (old ++ x ∷ []) old → tree_over (trees_after [] new) x ≡ tree_over (trees_after [] old) x
over_grown old new x true below e =
    node_same (trees_after [] old) (trees_after [] new) (length old) (λ i lt. ap (λ ns. tree_of ns i) e ∙ tree_of-append old (x ∷ []) i lt) x below
over_grown old new x false below e = ap (λ ns. tree_over (trees_after [] ns) x) e

-- the nodes of before are those inside
inside : (old inner new : List Node) (x : Node) (b : Bool) → inner ≡ old → new ≡ cond b (inner ++ x ∷ []) inner → new ≡ cond b (old ++ x ∷ []) old
inside old inner new x b v e = subst (λ ns. new ≡ cond b (ns ++ x ∷ []) ns) v e

pub grown_arena : (old inner new : List Node) (x : Node) (b : Bool) → inner ≡ old → IsArena old → IsNodeBelow (length old) x → new ≡ cond b (inner ++ x ∷ []) inner → AreDifferent new → IsArena new
grown_arena old inner new x b v a below e d = grown_from old new x b a below (inside old inner new x b v e) d

pub stored_tree : (old inner new : List Node) (x : Node) (b : Bool) (i place : ℕ) → inner ≡ old → IsArena new → IsNodeBelow (length old) x → new ≡ cond b (inner ++ x ∷ []) inner
    → i ≡ place → slice_get new place ≡ Some x → tree_of new i ≡ tree_over (trees_after [] old) x
stored_tree old inner new x b i place v a below e z at =
    ap (λ k. tree_of new k) z ∙ node_tree new place a.ordered (slice_get_within new place x at)
    ∙ ap (λ n. tree_over (trees_after [] new) n) (get_or_from_slice_get new place x (Leaf 0) at) ∙ over_grown old new x b below (inside old inner new x b v e)
