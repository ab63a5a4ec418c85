-- The points at which nodes of a tree have their values.
use Rattle.std.proofs.Common.{◌≡◌, ℕ, zero, suc, ◌+◌, ◌<◌, ◌≤◌, Bool, true, false, Some, List, [], ◌∷◌, length, drop, get_or, slice_get, refl, sym, ◌∙◌, ap, subst, arith}
use Rattle.std.proofs.lemmas.Bool.{cond-true, cond-false, eq-eqb}
use Rattle.std.proofs.lemmas.Bool.Decides.{nat_tests}
use Rattle.std.proofs.lemmas.Option.{same_Some, slice_get-get_or, slice_get_within}
use Rattle.std.specs.List.{AllByRecursion}
use Rattle.std.specs.Prelude.{nat_eq, slice_index, slice_set}
use Rattle.fws_box.specs.Sides.{IsWithin}
use Rattle.fws_iv.specs.Ivs.{has}
use Rattle.fws_tree.specs.declared.node.Kid.{Kid}
use Rattle.fws_tree.specs.declared.node.Node.{Node}
use Rattle.fws_tree.specs.declared.node.Node.TheVariants.{Leaf, Cut}
use Rattle.fws_tree.specs.Plain.{Plain, leaf, cut, Kids, kid_at, branch, value, value_from}
use Rattle.fws_tree.specs.Shared.{IsShared, subtree_of}
use Rattle.fws_tree_seen.specs.Cuts.{kids_of, IsCutNode}
use Rattle.fws_ios_put_lists.specs.Blocks.{below, CutsFrom, Scene}
use Rattle.fws_ios_put_lists.proofs.Laws.{NodeLaws}

-- ---- lists

pub set_there : (x : List ℕ) (f v : ℕ) → f < length x → slice_index (slice_set x f v) f ≡ v
set_there [] f v lt = absurd (omega (arith, lt))
set_there (a ∷ x) zero v lt = refl
set_there (a ∷ x) (suc f) v lt = set_there x f v (omega (arith, lt))

pub set_other : (x : List ℕ) (f v g : ℕ) → (g ≡ f → ⊥) → slice_index (slice_set x f v) g ≡ slice_index x g
set_other [] f v g ne = refl
set_other (a ∷ x) zero v zero ne = absurd (ne refl)
set_other (a ∷ x) zero v (suc g) ne = refl
set_other (a ∷ x) (suc f) v zero ne = refl
set_other (a ∷ x) (suc f) v (suc g) ne = set_other x f v g (λ e. ne (ap suc e))

pub set_within : (tops x : List ℕ) (f v : ℕ) → IsWithin tops x → v ≤ slice_index tops f → IsWithin tops (slice_set x f v)
set_within [] [] f v within le = within
set_within [] (a ∷ x) f v within le = absurd within
set_within (top ∷ tops) [] f v within le = absurd within
set_within (top ∷ tops) (a ∷ x) zero v within le = (le, within.1)
set_within (top ∷ tops) (a ∷ x) (suc f) v within le = (within.0, set_within tops x f v within.1 le)

-- what stands behind a changed field
set_dropped : (x : List ℕ) (f v : ℕ) → drop (suc f) (slice_set x f v) ≡ drop (suc f) x
set_dropped [] f v = refl
set_dropped (a ∷ x) zero v = refl
set_dropped (a ∷ x) (suc f) v = set_dropped x f v

pub within_length : (tops x : List ℕ) → IsWithin tops x → length tops ≡ length x
within_length [] [] a = refl
within_length [] (x ∷ p) a = absurd a
within_length (top ∷ tops) [] a = absurd a
within_length (top ∷ tops) (x ∷ p) a = ap suc (within_length tops p a.1)

-- a field of a point lies up to its top
pub within_top : (tops x : List ℕ) (f : ℕ) → IsWithin tops x → f < length tops → slice_index x f ≤ slice_index tops f
within_top [] x f within lt = absurd (omega (arith, lt))
within_top (top ∷ tops) [] f within lt = absurd within
within_top (top ∷ tops) (a ∷ x) zero within lt = within.0
within_top (top ∷ tops) (a ∷ x) (suc f) within lt = within_top tops x f within.1 (omega (arith, lt))

drop_there : (x : List ℕ) (f : ℕ) → f < length x → drop f x ≡ slice_index x f ∷ drop (suc f) x
drop_there [] f lt = absurd (omega (arith, lt))
drop_there (a ∷ x) zero lt = refl
drop_there (a ∷ x) (suc f) lt = drop_there x f (omega (arith, lt))

pub kid_all : (P : Kid → Type 0) (kids : List Kid) (i : ℕ) (kid : Kid) → AllByRecursion P kids → slice_get kids i ≡ Some kid → P kid
kid_all P [] i kid h e = absurd (let lt = slice_get_within [] i kid e in omega (arith, lt))
kid_all P (k ∷ kids) zero kid h e = subst P (same_Some k kid e) h.0
kid_all P (k ∷ kids) (suc i) kid h e = kid_all P kids i kid h.1 e

-- ---- nodes

at_node : (nodes : List Node) (P : Type 0) (n : ℕ) → n < length nodes → ((k : ℕ) → slice_get nodes n ≡ Some (Leaf k) → P)
    → ((f : ℕ) (kids : List Kid) → slice_get nodes n ≡ Some (Cut f kids) → P) → P
at_node nodes P n lt a b = by (get_or nodes n (Leaf 0)) (slice_get-get_or nodes n (Leaf 0) lt)
  where
    by : (x : Node) → slice_get nodes n ≡ Some x → P
    by (Leaf k) e = a k e
    by (Cut f kids) e = b f kids e

-- ---- values

-- a tree that cuts no field before one
abbrev CutsLater : ℕ → Plain Bool → Type 0
CutsLater b (leaf a) = Unit {0}
CutsLater b (cut f ks) = b ≤ f

differ : (g f : ℕ) → f < g → nat_eq g f ≡ false
differ g f lt = grind (arith, nat_tests)

branch_kept : (f b : ℕ) (t : Plain Bool) (x : ℕ) → f < b → CutsLater b t → branch f t x ≡ t
branch_kept f b (leaf a) x lt h = refl
branch_kept f b (cut g ks) x lt h = cond-false (nat_eq g f) (kid_at ks x) (cut g ks) (differ g f (omega (arith, lt, h)))

skipped : (k h : ℕ) (t : Plain Bool) (y : List ℕ) → CutsLater (h + k) t → value_from h t y ≡ value_from (h + k) t (drop k y)
skipped zero h t y c = let e : h ≡ h + 0 = omega arith in ap (λ n. value_from n t y) e
skipped (suc k) h t [] c = refl
skipped (suc k) h t (x ∷ y) c =
    let e : suc h + k ≡ h + suc k = omega arith in
    let lt : h < h + suc k = omega arith in
    ap (λ u. value_from (suc h) u y) (branch_kept h (h + suc k) t x lt c) ∙ skipped k (suc h) t y (subst (λ n. CutsLater n t) (sym e) c)
    ∙ ap (λ n. value_from n t (drop k y)) e

-- the value of a tree of later fields is that from the first of them on
value_later : (b : ℕ) (t : Plain Bool) (y : List ℕ) → CutsLater b t → value t y ≡ value_from b t (drop b y)
value_later b t y later =
    let e : b ≡ 0 + b = omega arith in
    skipped b 0 t y (subst (λ n. CutsLater n t) e later) ∙ ap (λ n. value_from n t (drop b y)) (sym e)

-- the value at a cut is that of the kid
cut_value : (g : ℕ) (ks : Kids Bool) (y : List ℕ) (u : Plain Bool) → g < length y → kid_at ks (slice_index y g) ≡ u → CutsLater (suc g) u → value (cut g ks) y ≡ value u y
cut_value g ks y u lt is later =
    let low : g ≤ g = omega arith in
    value_later g (cut g ks) y low ∙ ap (λ l. value_from g (cut g ks) l) (drop_there y g lt)
    ∙ ap (λ v. value_from (suc g) v (drop (suc g) y)) (cond-true (nat_eq g g) (kid_at ks (slice_index y g)) (cut g ks) (eq-eqb g g refl) ∙ is)
    ∙ sym (value_later (suc g) u y later)

node_cuts : (laws : NodeLaws) (s : Scene) (n b : ℕ) → IsShared s.tops s.tree s.leaves s.nodes → n < length s.nodes → CutsFrom s n b → CutsLater b (below s n)
node_cuts laws s n b shared lt h = at_node s.nodes (CutsLater b (below s n)) n lt
    (λ k e. let l = laws.leaf s.tops s.tree s.leaves s.nodes n k shared e in subst (λ u. CutsLater b u) (sym l.2) tt)
    (λ f kids e. let node = laws.cut s.tops s.tree s.leaves s.nodes n f kids shared e in subst (λ u. CutsLater b u) (sym node.tree) (h f kids e))

-- a kid of a node cuts later fields
pub kid_cuts : (s : Scene) (n f : ℕ) (kids : List Kid) (i : ℕ) (kid : Kid) → IsCutNode s.tops s.leaves s.nodes n f kids → slice_get kids i ≡ Some kid → CutsFrom s kid.node (suc f)
kid_cuts s n f kids i kid node there = λ g others e. node.rising i g kid others there e

pub kid_before : (s : Scene) (n f : ℕ) (kids : List Kid) (i : ℕ) (kid : Kid) → IsCutNode s.tops s.leaves s.nodes n f kids → slice_get kids i ≡ Some kid → kid.node < n
kid_before s n f kids i kid node there = kid_all (λ k. k.node < n) kids i kid node.before there

kid_later : (laws : NodeLaws) (s : Scene) (n f : ℕ) (kids : List Kid) (i : ℕ) (kid : Kid) → IsShared s.tops s.tree s.leaves s.nodes → n < length s.nodes
    → IsCutNode s.tops s.leaves s.nodes n f kids → slice_get kids i ≡ Some kid → CutsLater (suc f) (below s kid.node)
kid_later laws s n f kids i kid shared lt node there =
    let before : kid.node < n = kid_before s n f kids i kid node there in
    node_cuts laws s kid.node (suc f) shared (omega (arith, before, lt)) (kid_cuts s n f kids i kid node there)

-- the value of a node is that of the kid whose set has the field
pub node_value : (laws : NodeLaws) (s : Scene) (n f : ℕ) (kids : List Kid) (i : ℕ) (kid : Kid) (v : ℕ) (y : List ℕ) → IsShared s.tops s.tree s.leaves s.nodes → n < length s.nodes
    → IsCutNode s.tops s.leaves s.nodes n f kids → slice_get kids i ≡ Some kid → has kid.set v ≡ true → IsWithin s.tops y → slice_index y f ≡ v → value (below s n) y ≡ value (below s kid.node) y
node_value laws s n f kids i kid v y shared lt node there has-it within at =
    let ks : Kids Bool = kids_of (λ k. subtree_of s.leaves s.nodes k) kids in
    let inside : f < length y = (let a = node.field in let b = within_length s.tops y within in omega (arith, a, b)) in
    ap (λ u. value u y) node.tree
    ∙ cut_value f ks y (below s kid.node) inside (ap (λ k. kid_at ks k) at ∙ node.found i v kid there has-it)
    (kid_later laws s n f kids i kid shared lt node there)

-- a kid's value doesn't change with the field that is cut above it
pub kid_value_set : (laws : NodeLaws) (s : Scene) (n f : ℕ) (kids : List Kid) (i : ℕ) (kid : Kid) (v : ℕ) (y : List ℕ) → IsShared s.tops s.tree s.leaves s.nodes → n < length s.nodes
    → IsCutNode s.tops s.leaves s.nodes n f kids → slice_get kids i ≡ Some kid → value (below s kid.node) (slice_set y f v) ≡ value (below s kid.node) y
kid_value_set laws s n f kids i kid v y shared lt node there =
    let later : CutsLater (suc f) (below s kid.node) = kid_later laws s n f kids i kid shared lt node there in
    value_later (suc f) (below s kid.node) (slice_set y f v) later ∙ ap (λ l. value_from (suc f) (below s kid.node) l) (set_dropped y f v)
    ∙ sym (value_later (suc f) (below s kid.node) y later)

-- ---- leaves

leaf_from : (f : ℕ) (a : Bool) (p : List ℕ) → value_from f (leaf a) p ≡ Some a
leaf_from f a [] = refl
leaf_from f a (x ∷ p) = leaf_from (suc f) a p

-- a leaf has its value everywhere
pub leaf_value : (t : Plain Bool) (a : Bool) (p : List ℕ) → t ≡ leaf a → value t p ≡ Some a
leaf_value t a p is = ap (λ u. value u p) is ∙ leaf_from 0 a p
