-- The nodes of a reduced tree.
use Rattle.std.proofs.Common.{◌≡◌, ℕ, suc, ◌<◌, Bool, cond, Some, List, [], ◌∷◌, length, get_or, slice_get, sym, ◌∙◌, ap, subst, arith}
use Rattle.std.proofs.lemmas.Bool.{leb-true}
use Rattle.std.proofs.lemmas.Option.{slice_get-get_or, slice_get_within}
use Rattle.std.specs.Prelude.{nat_le, slice_index}
use Rattle.fws_tree.specs.declared.node.Kid.{Kid}
use Rattle.fws_tree.specs.declared.node.Node.{Node}
use Rattle.fws_tree.specs.declared.node.Node.TheVariants.{Leaf, Cut}
use Rattle.fws_tree.specs.Plain.{Plain, leaf, cut, Kids, IsReduced, IsReducedFrom}
use Rattle.fws_tree.specs.Shared.{IsShared, subtree_of}
use Rattle.fws_tree_seen.specs.Cuts.{kids_of, IsCutNode}
use Rattle.fws_tree_seen.proofs.Parted.{cut_parts, each_at, filled, kid_found, many_kids, parted}
use Rattle.fws_tree_seen.proofs.Trees.{cut_tree, kids_before, leaf_tree}

leaf_from : {L : Type 0} → (leaves : List L) (nodes : List Node) (at n : ℕ) → n < length leaves → ((a : L) → slice_get leaves n ≡ Some a → subtree_of leaves nodes at ≡ leaf a)
    → (a : L) × (slice_get leaves n ≡ Some a) × (subtree_of leaves nodes at ≡ leaf a)
leaf_from [] nodes at n lt h = absurd (omega arith)
leaf_from (b ∷ leaves) nodes at n lt h = let there = slice_get-get_or (b ∷ leaves) n b lt in (get_or (b ∷ leaves) n b, there, h (get_or (b ∷ leaves) n b) there)

pub leaf_node : {L : Type 0} → (tops : List ℕ) (t : Plain L) (leaves : List L) (nodes : List Node) (at n : ℕ) → IsShared tops t leaves nodes → slice_get nodes at ≡ Some (Leaf n)
    → (a : L) × (slice_get leaves n ≡ Some a) × (subtree_of leaves nodes at ≡ leaf a)
leaf_node tops t leaves nodes at n shared is = leaf_from leaves nodes at n (shared.named at n is) (λ a there. leaf_tree leaves nodes at n a shared.ordered is there)

pub cut_node : {L : Type 0} → (tops : List ℕ) (t : Plain L) (leaves : List L) (nodes : List Node) (at f : ℕ) (kids : List Kid) → IsShared tops t leaves nodes → slice_get nodes at ≡ Some (Cut f kids)
    → IsCutNode tops leaves nodes at f kids
cut_node {L} tops t leaves nodes at f kids shared is =
    let tree : ℕ → Plain L = λ n. subtree_of leaves nodes n in
    let ks : Kids L = kids_of tree kids in
    let whole : subtree_of leaves nodes at ≡ cut f ks = cut_tree leaves nodes at f kids shared.ordered is in
    let reduced : IsReducedFrom 0 tops (cut f ks) = subst (λ u. IsReduced tops u) whole (shared.reduced at (slice_get_within nodes at (Cut f kids) is)) in
    let r = cut_parts 0 tops f ks reduced in
    let same : r.place ≡ f = (let e = r.field in omega (arith, e)) in
    let domain : ℕ → Bool = λ x. nat_le x (slice_index tops r.place) in
    record {
      tree = whole;
      before = kids_before nodes at f kids shared.ordered is;
      field = (let lt = r.inside in omega (arith, same, lt));
      many = many_kids tree kids r.many;
      filled = λ i kid there. filled tree domain kids i kid r.parts there;
      parted = λ v. parted tree domain kids r.parts v ∙ ap (λ n. cond (nat_le v (slice_index tops n)) 1 0) same;
      within = λ i v kid there h. leb-true v (slice_index tops f) (ap (λ n. nat_le v (slice_index tops n)) (sym same) ∙ (kid_found tree domain kids i kid v r.parts there h).1);
      found = λ i v kid there h. (kid_found tree domain kids i kid v r.parts there h).0;
      rising = λ i g kid others there cuts.
          let below : IsReducedFrom (suc f) r.rest (tree kid.node) = each_at (IsReducedFrom (suc f) r.rest) tree kids i kid r.each there in
          let c = cut_parts (suc f) r.rest g (kids_of tree others) (subst (λ u. IsReducedFrom (suc f) r.rest u) (cut_tree leaves nodes kid.node g others shared.ordered cuts) below) in
          let e = c.field in omega (arith, e);
    }
