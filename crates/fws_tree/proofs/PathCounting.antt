-- Paths of nodes' trees counted by the counts of earlier ones.
use Rattle.std.proofs.Common.{◌≡◌, ℕ, ◌+◌, ◌-◌, ◌<◌, ◌≤◌, inl, inr, List, [], ◌∷◌, ◌++◌, length, length-append, get_or, refl, sym, ◌∙◌, ap, subst, arith}
use Rattle.std.proofs.lemmas.Bool.{cases_Bool, cond-true, cond-false}
use Rattle.std.proofs.lemmas.Bool.Decides.{nat_tests}
use Rattle.std.proofs.lemmas.Option.{slice_get_past}
use Rattle.std.proofs.lemmas.List.{get_or_push, get_or_append_left}
use Rattle.std.specs.Prelude.{nat_lt, slice_get, slice_set, if◌then◌else◌}
use Rattle.std.specs.List.{AllByRecursion}
use Rattle.fws_iv.specs.declared.iv.Iv.{Iv}
use Rattle.fws_tree.specs.declared.node.Kid.{Kid}
use Rattle.fws_tree.specs.declared.node.Node.{Node}
use Rattle.fws_tree.specs.declared.node.Node.TheVariants.{Leaf, Cut}
use Rattle.fws_tree.specs.Plain.{Plain, leaf, cut, Kids, none, kid}
use Rattle.fws_tree.specs.Nodes.{kids_over, tree_over, trees_after, tree_of, named_leaf, IsNodeBelow, AreOrderedFrom, relabel, relabel_kids}
use Rattle.fws_tree.specs.PathCounts.{path_count, kid_path_count, kid_sum, node_sum, AreCounted}
use Rattle.fws_tree.specs.Shared.{IsShared}
use Rattle.fws_box.specs.Sides.{whole_sides}
use Rattle.fws_tree.specs.Rows.{paths_below, paths_through, paths_of}
use Rattle.fws_tree.proofs.MadeLeaves.{slice_there}
use Rattle.fws_tree.proofs.WayDown.{tree_is, below_read}

-- as many paths as are counted, whatever the sides
abbrev mutual
  pub paths_counted : {L : Type 0} (sides : List (List Iv)) (t : Plain L) → length (paths_below sides t) ≡ path_count t
  paths_counted sides (leaf a) = refl
  paths_counted sides (cut f ks) = kids_counted sides f ks

  pub kids_counted : {L : Type 0} (sides : List (List Iv)) (f : ℕ) (ks : Kids L) → length (paths_through sides f ks) ≡ kid_path_count ks
  kids_counted sides f none = refl
  kids_counted sides f (kid s t ks) =
      let a = length-append (paths_below (slice_set sides f s) t) (paths_through sides f ks) in
      let b = paths_counted (slice_set sides f s) t in
      let c = kids_counted sides f ks in
      omega (arith, a, b, c)

-- the sum over kids that name counted nodes is what their trees have
kids_summed : {L : Type 0} (leaves : List L) (nodes : List Node) (counts : List ℕ) (n : ℕ) (ks : List Kid) → length counts ≡ n → AreCounted leaves nodes counts → AllByRecursion (λ k. k.node < n) ks
    → kid_sum counts ks ≡ kid_path_count (relabel_kids leaves (kids_over (trees_after [] nodes) ks))
kids_summed leaves nodes counts n [] m c below = refl
kids_summed leaves nodes counts n (k ∷ ks) m c below =
    let lt : k.node < length counts = subst (λ z. k.node < z) (sym m) below.0 in
    ap (λ z. z + kid_sum counts ks) (c k.node lt)
    ∙ ap (λ z. path_count (relabel leaves (tree_of nodes k.node)) + z) (kids_summed leaves nodes counts n ks m c below.1)

-- the sum at a place is 1 where it has a leaf
leaf_summed : {L : Type 0} (leaves : List L) (place : ℕ) → (if nat_lt place (length leaves) then 1 else 0) ≡ path_count (named_leaf (slice_get leaves place))
leaf_summed leaves place = elim (cases_Bool (nat_lt place (length leaves))) [
  | inl t ↦
      let lt : place < length leaves = grind (arith, nat_tests) in
      let there = slice_there leaves place lt in
      cond-true (nat_lt place (length leaves)) 1 0 t ∙ ap (λ o. path_count (named_leaf o)) (sym there.1)
  | inr f ↦
      let le : length leaves ≤ place = grind (arith, nat_tests) in
      cond-false (nat_lt place (length leaves)) 1 0 f ∙ ap (λ o. path_count (named_leaf o)) (sym (slice_get_past leaves place le))
]

-- what a node's tree has, by the counts of those that it names
node_summed : {L : Type 0} (leaves : List L) (nodes : List Node) (counts : List ℕ) (n : ℕ) (x : Node) → length counts ≡ n → AreCounted leaves nodes counts → IsNodeBelow n x
    → node_sum (length leaves) counts x ≡ path_count (relabel leaves (tree_over (trees_after [] nodes) x))
node_summed leaves nodes counts n (Leaf place) m c below = leaf_summed leaves place
node_summed leaves nodes counts n (Cut f ks) m c below = kids_summed leaves nodes counts n ks m c below

-- the counts and that of the next node
pub counted-next : {L : Type 0} (leaves : List L) (nodes : List Node) (counts more : List ℕ) (many n k : ℕ) (x : Node) → AreOrderedFrom 0 nodes → k < length nodes → x ≡ get_or nodes k x
    → length counts ≡ k → many ≡ length leaves → AreCounted leaves nodes counts → n ≡ node_sum many counts x → more ≡ counts ++ n ∷ [] → AreCounted leaves nodes more
counted-next leaves nodes counts more many n k x ordered inside is m same c e added =
    let here : n ≡ path_count (relabel leaves (tree_of nodes k)) =
    e ∙ ap (λ z. node_sum z counts x) same
    ∙ node_summed leaves nodes counts k x m c (below_read nodes k x ordered inside is)
    ∙ ap (λ t. path_count (relabel leaves t)) (sym (tree_is nodes k x x ordered inside is refl)) in
    subst (AreCounted leaves nodes) (sym added) (λ j lt. elim (cases_Bool (nat_lt j (length counts))) [
      | inl t ↦ (
          let lj : j < length counts = grind (arith, nat_tests) in
          get_or_append_left counts (n ∷ []) 0 j lj ∙ c j lj)
      | inr f ↦ (
          let long : length (counts ++ n ∷ []) ≡ length counts + 1 = length-append counts (n ∷ []) in
          let ej : length counts ≡ j = grind (arith, nat_tests) in
          let kj : k ≡ j = omega arith in
          get_or_push counts n 0 j ej ∙ here ∙ ap (λ i. path_count (relabel leaves (tree_of nodes i))) kj)
    ])

-- the last count is how many rows the tree has
pub rows_counted : {L : Type 0} (tops : List ℕ) (t : Plain L) (leaves : List L) (nodes : List Node) (counts : List ℕ) (n : ℕ) → IsShared tops t leaves nodes → length counts ≡ length nodes → AreCounted leaves nodes counts
    → n ≡ get_or counts (length nodes - 1) 0 → n ≡ length (paths_of tops t)
rows_counted tops t leaves nodes counts n shared m c e =
    let found = shared.some in
    let lt : length nodes - 1 < length counts = omega arith in
    e ∙ c (length nodes - 1) lt ∙ ap path_count (sym shared.last) ∙ sym (paths_counted (whole_sides tops) t)
