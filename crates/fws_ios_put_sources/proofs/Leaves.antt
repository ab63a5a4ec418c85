-- The values of a tree are among its leaves.
use Rattle.std.proofs.Common.{◌≡◌, ℕ, zero, suc, ◌-◌, ◌<◌, Option, Some, None, Bool, true, false, ◌&&◌, not, List, [], ◌∷◌, refl, sym, ◌∙◌, ap, arith, length, get_or}
use Rattle.std.proofs.lemmas.Bool.{and_from, both_ways, not-true, or_left, or_right}
use Rattle.std.proofs.lemmas.Option.{get_or_from_slice_get, slice_get_within}
use Rattle.std.specs.Prelude.{Contains, nat_eq, slice_get, if◌then◌else◌}
use Rattle.std.specs.List.{list_any}
use Rattle.fws_box.specs.Sides.{IsWithin}
use Rattle.fws_ios_put_sources.specs.Parting.{AreApart}
use Rattle.fws_iv.specs.Ivs.{has}
use Rattle.fws_tree.specs.declared.node.Node.{Node}
use Rattle.fws_tree.specs.Nodes.{named_leaf, relabel, relabel_kids, tree_of}
use Rattle.fws_tree.specs.Plain.{Plain, leaf, cut, Kids, none, kid, branch, kid_at, leaf_of, value, value_from}
use Rattle.fws_tree.specs.Shared.{IsShared}

pub some_once : {X : Type 0} (x y : X) → Some x ≡ Some y → x ≡ y
some_once x y e = cc

kids_relabelled : {L : Type 0} (leaves : List L) (ks : Kids ℕ) (x : ℕ) → kid_at (relabel_kids leaves ks) x ≡ relabel leaves (kid_at ks x)
kids_relabelled leaves none x = refl
kids_relabelled leaves (kid s t ks) x = by (has s x) (kids_relabelled leaves ks x)
  where
    by : (b : Bool) → kid_at (relabel_kids leaves ks) x ≡ relabel leaves (kid_at ks x) → (if b then relabel leaves t else kid_at (relabel_kids leaves ks) x) ≡ relabel leaves (if b then t else kid_at ks x)
    by true rest = refl
    by false rest = rest

branch_relabelled : {L : Type 0} (leaves : List L) (f : ℕ) (u : Plain ℕ) (x : ℕ) → branch f (relabel leaves u) x ≡ relabel leaves (branch f u x)
branch_relabelled {L} leaves f (leaf n) x = by (slice_get leaves n)
  where
    empty : (b : Bool) → (if b then kid_at {L = L} none x else cut 0 none) ≡ cut 0 none
    empty true = refl
    empty false = refl

    by : (o : Option L) → branch f (named_leaf o) x ≡ named_leaf o
    by None = empty (nat_eq 0 f)
    by (Some a) = refl
branch_relabelled leaves f (cut g ks) x = by (nat_eq g f)
  where
    by : (b : Bool) → (if b then kid_at (relabel_kids leaves ks) x else cut g (relabel_kids leaves ks)) ≡ relabel leaves (if b then kid_at ks x else cut g ks)
    by true = kids_relabelled leaves ks x
    by false = refl

named : {L : Type 0} (leaves : List L) (f : ℕ) (u : Plain ℕ) (p : List ℕ) (a : L) → value_from f (relabel leaves u) p ≡ Some a → Contains leaves a
named {L} leaves f (leaf n) [] a e = by (slice_get leaves n) refl e
  where
    by : (o : Option L) → slice_get leaves n ≡ o → leaf_of (named_leaf o) ≡ Some a → Contains leaves a
    by None at e = absurd (cc)
    by (Some b) at e = (n, slice_get_within leaves n b at, get_or_from_slice_get leaves n b a at ∙ some_once b a e)
named leaves f (cut g ks) [] a e = absurd (cc)
named leaves f u (x ∷ p) a e = named leaves (suc f) (branch f u x) p a (ap (λ t. value_from (suc f) t p) (sym (branch_relabelled leaves f u x)) ∙ e)

-- a value of a tree is one of its leaves
pub among_leaves : {L : Type 0} (tops : List ℕ) (t : Plain L) (leaves : List L) (nodes : List Node) → IsShared tops t leaves nodes → (p : List ℕ) (a : L) → value t p ≡ Some a
    → Contains leaves a
among_leaves tops t leaves nodes shared p a e = named leaves 0 (tree_of nodes (length nodes - 1)) p a (ap (λ u. value u p) (sym shared.last) ∙ e)

true_among : (leaves : List Bool) (k : ℕ) → k < length leaves → get_or leaves k true ≡ true → list_any (λ leaf. leaf) leaves ≡ true
true_among [] k lt e = absurd (omega arith)
true_among (a ∷ leaves) zero lt e = or_left a (list_any (λ leaf. leaf) leaves) e
true_among (a ∷ leaves) (suc k) lt e = or_right a (list_any (λ leaf. leaf) leaves) (true_among leaves k (omega arith) e)

-- a tree that is true where two are, and has no leaf that is true: no point is in both
pub sets_apart : (first : List ℕ) (t u : Plain Bool) (both : List ℕ × Plain Bool) (leaves : List Bool) (nodes : List Node)
    → ((p : List ℕ) → IsWithin first p → (a : Bool) × (b : Bool) × (value t p ≡ Some a) × (value u p ≡ Some b) × (value both.1 p ≡ Some (a && b)))
    → IsShared both.0 both.1 leaves nodes → not (list_any (λ leaf. leaf) leaves) ≡ true → AreApart first t u
sets_apart first t u both leaves nodes made shared lacks x w p d =
    let here = made x w in
    let is : (here.0 && here.1) ≡ true = and_from here.0 here.1 (some_once here.0 true (sym here.2 ∙ p)) (some_once here.1 true (sym here.3 ∙ d)) in
    let leaf = among_leaves both.0 both.1 leaves nodes shared x true (here.4 ∙ ap Some is) in
    both_ways (list_any (λ a. a) leaves) (not-true (list_any (λ a. a) leaves) lacks) (true_among leaves leaf.0 leaf.1 leaf.2)
