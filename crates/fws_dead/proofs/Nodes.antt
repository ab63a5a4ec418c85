-- The values of a tree below its nodes.
use Rattle.std.proofs.Common.{◌≡◌, ℕ, zero, suc, ◌+◌, ◌<◌, ◌≤◌, Bool, true, false, cond, Some, List, [], ◌∷◌, length, drop, get_or, slice_get, inl, inr, refl, sym, ◌∙◌, ap, subst, arith}
use Rattle.std.proofs.lemmas.Bool.{cases_Bool, cond-true, cond-false, eq-eqb, le-leb}
use Rattle.std.proofs.lemmas.Bool.Decides.{nat_tests}
use Rattle.std.proofs.lemmas.List.Sums.{sum_by-cons}
use Rattle.std.proofs.lemmas.Option.{same_Some, slice_get-get_or, slice_get_within}
use Rattle.std.specs.List.{count_by, AllByRecursion}
use Rattle.std.specs.Prelude.{nat_eq, nat_le, slice_index}
use Rattle.fws_box.specs.Sides.{IsWithin}
use Rattle.fws_iv.specs.Ivs.{has}
use Rattle.fws_tree.specs.declared.node.Kid.{Kid}
use Rattle.fws_tree.specs.declared.node.Node.{Node}
use Rattle.fws_tree.specs.declared.node.Node.TheVariants.{Leaf, Cut}
use Rattle.fws_tree.specs.Plain.{Plain, leaf, cut, Kids, kid_at, branch, value, value_from}
use Rattle.fws_tree.specs.Shared.{IsShared, subtree_of}
use Rattle.fws_tree_seen.specs.Cuts.{kids_of, IsCutNode}
use Rattle.fws_tree_seen.specs.NodeLaws.{LeafNodesAreLeaves, CutNodesPartValues}
use Rattle.fws_dead.proofs.Sides.{within_at, within_length}

-- ---- lists

drop_there : (x : List ℕ) (f : ℕ) → f < length x → drop f x ≡ slice_index x f ∷ drop (suc f) x
drop_there [] f lt = absurd (omega arith)
drop_there (a ∷ x) zero lt = refl
drop_there (a ∷ x) (suc f) lt = drop_there x f (omega arith)

pub kid_all : (P : Kid → Type 0) (kids : List Kid) (i : ℕ) (kid : Kid) → AllByRecursion P kids → slice_get kids i ≡ Some kid → P kid
kid_all P [] i kid h e = absurd (let lt = slice_get_within [] i kid e in omega (arith, lt))
kid_all P (k ∷ kids) zero kid h e = subst P (same_Some k kid e) h.0
kid_all P (k ∷ kids) (suc i) kid h e = kid_all P kids i kid h.1 e

-- what is counted once stands somewhere
pub counted : {X : Type 0} (test : X → Bool) (xs : List X) → count_by test xs ≡ 1 → (i : ℕ) × (x : X) × (slice_get xs i ≡ Some x) × (test x ≡ true)
counted test [] e = absurd (omega (arith, e))
counted test (x ∷ xs) e = elim (cases_Bool (test x)) [
  | inl y ↦ (0, x, refl, y)
  | inr n ↦ (let a = sum_by-cons (λ x. cond (test x) 1 0) x xs ∙ ap (λ b. cond b 1 0 + count_by test xs) n in
      let rest : count_by test xs ≡ 1 = omega (arith, a, e) in
      let found = counted test xs rest in (suc found.0, found.1, found.2, found.3))
]

-- ---- nodes

pub at_node : (nodes : List Node) (P : Type 0) (n : ℕ) → n < length nodes → ((k : ℕ) → slice_get nodes n ≡ Some (Leaf k) → P)
    → ((f : ℕ) (kids : List Kid) → slice_get nodes n ≡ Some (Cut f kids) → P) → P
at_node nodes P n lt a b = by (get_or nodes n (Leaf 0)) (slice_get-get_or nodes n (Leaf 0) lt)
  where
    by : (x : Node) → slice_get nodes n ≡ Some x → P
    by (Leaf k) e = a k e
    by (Cut f kids) e = b f kids e

-- ---- values

pub leaf_value : {L : Type 0} (f : ℕ) (a : L) (p : List ℕ) → value_from f (leaf a) p ≡ Some a
leaf_value f a [] = refl
leaf_value f a (x ∷ p) = leaf_value (suc f) a p

-- a tree that cuts no field before one
abbrev pub CutsLater : {L : Type 0} → ℕ → Plain L → Type 0
CutsLater b (leaf a) = Unit {0}
CutsLater b (cut f ks) = b ≤ f

differ : (g f : ℕ) → f < g → nat_eq g f ≡ false
differ g f lt = grind (arith, nat_tests)

branch_kept : {L : Type 0} (f b : ℕ) (t : Plain L) (x : ℕ) → f < b → CutsLater b t → branch f t x ≡ t
branch_kept f b (leaf a) x lt h = refl
branch_kept f b (cut g ks) x lt h = cond-false (nat_eq g f) (kid_at ks x) (cut g ks) (differ g f (omega (arith, lt, h)))

skipped : {L : Type 0} (k h : ℕ) (t : Plain L) (y : List ℕ) → CutsLater (h + k) t → value_from h t y ≡ value_from (h + k) t (drop k y)
skipped zero h t y c = let e : h ≡ h + 0 = omega arith in ap (λ n. value_from n t y) e
skipped (suc k) h t [] c = refl
skipped (suc k) h t (x ∷ y) c =
    let e : suc h + k ≡ h + suc k = omega arith in
    let lt : h < h + suc k = omega arith in
    ap (λ u. value_from (suc h) u y) (branch_kept h (h + suc k) t x lt c) ∙ skipped k (suc h) t y (subst (λ n. CutsLater n t) (sym e) c)
    ∙ ap (λ n. value_from n t (drop k y)) e

-- the value at a cut is that of the kid
cut_value : {L : Type 0} (g : ℕ) (ks : Kids L) (y : List ℕ) (u : Plain L) → g < length y → kid_at ks (slice_index y g) ≡ u → CutsLater (suc g) u → value (cut g ks) y ≡ value u y
cut_value g ks y u lt is later =
    let z : 0 + g ≡ g = omega arith in
    let low : 0 + g ≤ g = omega arith in
    skipped g 0 (cut g ks) y low ∙ ap (λ n. value_from n (cut g ks) (drop g y)) z ∙ ap (λ l. value_from g (cut g ks) l) (drop_there y g lt)
    ∙ ap (λ v. value_from (suc g) v (drop (suc g) y)) (cond-true (nat_eq g g) (kid_at ks (slice_index y g)) (cut g ks) (eq-eqb g g refl) ∙ is)
    ∙ (let e : 0 + suc g ≡ suc g = omega arith in
    sym (skipped (suc g) 0 u y (subst (λ n. CutsLater n u) (sym e) later) ∙ ap (λ n. value_from n u (drop (suc g) y)) e))

-- what is known of nodes
pub record NodeLaws (L : Type 0) : Type 1 where
  pub leaf : LeafNodesAreLeaves L
  pub cut : CutNodesPartValues L

-- a kid cuts later fields
kid_cuts : {L : Type 0} (laws : NodeLaws L) (tops : List ℕ) (t : Plain L) (leaves : List L) (nodes : List Node) (n f : ℕ) (kids : List Kid) (i : ℕ) (kid : Kid)
    → IsShared tops t leaves nodes → n < length nodes → IsCutNode tops leaves nodes n f kids → slice_get kids i ≡ Some kid → CutsLater (suc f) (subtree_of leaves nodes kid.node)
kid_cuts laws tops t leaves nodes n f kids i kid shared lt node there =
    let before : kid.node < n = kid_all (λ k. k.node < n) kids i kid node.before there in
    at_node nodes (CutsLater (suc f) (subtree_of leaves nodes kid.node)) kid.node (omega arith)
    (λ k e. let l = laws.leaf tops t leaves nodes kid.node k shared e in subst (λ u. CutsLater (suc f) u) (sym l.2) tt)
    (λ g others e. let below = laws.cut tops t leaves nodes kid.node g others shared e in subst (λ u. CutsLater (suc f) u) (sym below.tree) (node.rising i g kid others there e))

-- the value at a node is that of the kid whose set has the point's value
pub node_value : {L : Type 0} (laws : NodeLaws L) (tops : List ℕ) (t : Plain L) (leaves : List L) (nodes : List Node) (n f : ℕ) (kids : List Kid) (i : ℕ) (kid : Kid) (y : List ℕ)
    → IsShared tops t leaves nodes → n < length nodes → IsCutNode tops leaves nodes n f kids → slice_get kids i ≡ Some kid → has kid.set (slice_index y f) ≡ true → IsWithin tops y
    → value (subtree_of leaves nodes n) y ≡ value (subtree_of leaves nodes kid.node) y
node_value {L} laws tops t leaves nodes n f kids i kid y shared lt node there has-it within =
    let ks : Kids L = kids_of (λ k. subtree_of leaves nodes k) kids in
    let inside : f < length y = (let a = node.field in let b = within_length tops y within in omega (arith, a, b)) in
    ap (λ u. value u y) node.tree
    ∙ cut_value f ks y (subtree_of leaves nodes kid.node) inside (node.found i (slice_index y f) kid there has-it)
    (kid_cuts laws tops t leaves nodes n f kids i kid shared lt node there)

-- some kid's set has the point's value
pub kid_with : {L : Type 0} (tops : List ℕ) (leaves : List L) (nodes : List Node) (n f : ℕ) (kids : List Kid) (y : List ℕ) → IsCutNode tops leaves nodes n f kids → IsWithin tops y
    → (i : ℕ) × (kid : Kid) × (slice_get kids i ≡ Some kid) × (has kid.set (slice_index y f) ≡ true)
kid_with tops leaves nodes n f kids y node within =
    counted (λ kid. has kid.set (slice_index y f)) kids
    (node.parted (slice_index y f) ∙ cond-true (nat_le (slice_index y f) (slice_index tops f)) 1 0 (le-leb (slice_index y f) (slice_index tops f) (within_at tops y f within)))
