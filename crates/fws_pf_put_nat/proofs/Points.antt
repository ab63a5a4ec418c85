-- The points at which nodes of a tree have their values.
use Rattle.std.proofs.Common.{◌≡◌, ℕ, zero, suc, ◌+◌, ◌<◌, ◌≤◌, true, false, Some, List, [], ◌∷◌, length, drop, get_or, slice_get, inl, inr, refl, sym, ◌∙◌, ap, subst, arith}
use Rattle.std.proofs.lemmas.Bool.{cond-true, cond-false, eq-eqb}
use Rattle.std.proofs.lemmas.Bool.Decides.{nat_tests}
use Rattle.std.proofs.lemmas.Option.{same_Some, slice_get-get_or, slice_get_within}
use Rattle.std.specs.List.{AllByRecursion}
use Rattle.std.specs.Prelude.{nat_eq, slice_index, slice_set}
use Rattle.fws_box.specs.Sides.{IsWithin}
use Rattle.fws_iv.specs.Ivs.{has}
use Rattle.fws_net.specs.declared.outcome.Outcome.{Outcome}
use Rattle.fws_tree.specs.declared.node.Kid.{Kid}
use Rattle.fws_tree.specs.declared.node.Node.{Node}
use Rattle.fws_tree.specs.declared.node.Node.TheVariants.{Leaf, Cut}
use Rattle.fws_tree.specs.Plain.{Plain, leaf, cut, Kids, kid_at, branch, value, value_from}
use Rattle.fws_tree.specs.Shared.{IsShared, subtree_of}
use Rattle.fws_tree_seen.specs.Cuts.{kids_of, IsCutNode}
use Rattle.fws_pf_put_nat.specs.Scenes.{below, CutsFrom, Scene}
use Rattle.fws_pf_put_nat.specs.Ends.{HasLeaf, HasKidLeaf}
use Rattle.fws_pf_put_nat.proofs.Laws.{NodeLaws}

-- ---- lists

pub set_there : (x : List ℕ) (f v : ℕ) → f < length x → slice_index (slice_set x f v) f ≡ v
set_there [] f v lt = absurd (omega (arith, lt))
set_there (a ∷ x) zero v lt = refl
set_there (a ∷ x) (suc f) v lt = set_there x f v (omega (arith, lt))

pub set_other : (x : List ℕ) (f v g : ℕ) → (g ≡ f → ⊥) → slice_index (slice_set x f v) g ≡ slice_index x g
set_other [] f v g ne = refl
set_other (a ∷ x) zero v zero ne = absurd (ne refl)
set_other (a ∷ x) zero v (suc g) ne = refl
set_other (a ∷ x) (suc f) v zero ne = refl
set_other (a ∷ x) (suc f) v (suc g) ne = set_other x f v g (λ e. ne (ap suc e))

pub set_within : (tops x : List ℕ) (f v : ℕ) → IsWithin tops x → v ≤ slice_index tops f → IsWithin tops (slice_set x f v)
set_within [] [] f v within le = within
set_within [] (a ∷ x) f v within le = absurd within
set_within (top ∷ tops) [] f v within le = absurd within
set_within (top ∷ tops) (a ∷ x) zero v within le = (le, within.1)
set_within (top ∷ tops) (a ∷ x) (suc f) v within le = (within.0, set_within tops x f v within.1 le)

pub within_length : (tops x : List ℕ) → IsWithin tops x → length tops ≡ length x
within_length [] [] a = refl
within_length [] (x ∷ p) a = absurd a
within_length (top ∷ tops) [] a = absurd a
within_length (top ∷ tops) (x ∷ p) a = ap suc (within_length tops p a.1)

drop_there : (x : List ℕ) (f : ℕ) → f < length x → drop f x ≡ slice_index x f ∷ drop (suc f) x
drop_there [] f lt = absurd (omega (arith, lt))
drop_there (a ∷ x) zero lt = refl
drop_there (a ∷ x) (suc f) lt = drop_there x f (omega (arith, lt))

pub kid_all : (P : Kid → Type 0) (kids : List Kid) (i : ℕ) (kid : Kid) → AllByRecursion P kids → slice_get kids i ≡ Some kid → P kid
kid_all P [] i kid h e = absurd (let lt = slice_get_within [] i kid e in omega (arith, lt))
kid_all P (k ∷ kids) zero kid h e = subst P (same_Some k kid e) h.0
kid_all P (k ∷ kids) (suc i) kid h e = kid_all P kids i kid h.1 e

-- ---- nodes

pub at_node : (nodes : List Node) (P : Type 0) (n : ℕ) → n < length nodes → ((k : ℕ) → slice_get nodes n ≡ Some (Leaf k) → P)
    → ((f : ℕ) (kids : List Kid) → slice_get nodes n ≡ Some (Cut f kids) → P) → P
at_node nodes P n lt a b = by (get_or nodes n (Leaf 0)) (slice_get-get_or nodes n (Leaf 0) lt)
  where
    by : (x : Node) → slice_get nodes n ≡ Some x → P
    by (Leaf k) e = a k e
    by (Cut f kids) e = b f kids e

-- ---- values

-- a tree that cuts no field before one
abbrev pub CutsLater : ℕ → Plain Outcome → Type 0
CutsLater b (leaf a) = Unit {0}
CutsLater b (cut f ks) = b ≤ f

differ : (g f : ℕ) → f < g → nat_eq g f ≡ false
differ g f lt = grind (arith, nat_tests)

pub branch_kept : (f b : ℕ) (t : Plain Outcome) (x : ℕ) → f < b → CutsLater b t → branch f t x ≡ t
branch_kept f b (leaf a) x lt h = refl
branch_kept f b (cut g ks) x lt h = cond-false (nat_eq g f) (kid_at ks x) (cut g ks) (differ g f (omega (arith, lt, h)))

skipped : (k h : ℕ) (t : Plain Outcome) (y : List ℕ) → CutsLater (h + k) t → value_from h t y ≡ value_from (h + k) t (drop k y)
skipped zero h t y c = let e : h ≡ h + 0 = omega arith in ap (λ n. value_from n t y) e
skipped (suc k) h t [] c = refl
skipped (suc k) h t (x ∷ y) c =
    let e : suc h + k ≡ h + suc k = omega arith in
    let lt : h < h + suc k = omega arith in
    ap (λ u. value_from (suc h) u y) (branch_kept h (h + suc k) t x lt c) ∙ skipped k (suc h) t y (subst (λ n. CutsLater n t) (sym e) c)
    ∙ ap (λ n. value_from n t (drop k y)) e

-- the value at a cut is that of the kid
cut_value : (g : ℕ) (ks : Kids Outcome) (y : List ℕ) (u : Plain Outcome) → g < length y → kid_at ks (slice_index y g) ≡ u → CutsLater (suc g) u → value (cut g ks) y ≡ value u y
cut_value g ks y u lt is later =
    let z : 0 + g ≡ g = omega arith in
    let low : 0 + g ≤ g = omega arith in
    skipped g 0 (cut g ks) y low ∙ ap (λ n. value_from n (cut g ks) (drop g y)) z ∙ ap (λ l. value_from g (cut g ks) l) (drop_there y g lt)
    ∙ ap (λ v. value_from (suc g) v (drop (suc g) y)) (cond-true (nat_eq g g) (kid_at ks (slice_index y g)) (cut g ks) (eq-eqb g g refl) ∙ is)
    ∙ (let e : 0 + suc g ≡ suc g = omega arith in
    sym (skipped (suc g) 0 u y (subst (λ n. CutsLater n u) (sym e) later) ∙ ap (λ n. value_from n u (drop (suc g) y)) e))

pub node_cuts : (laws : NodeLaws) (s : Scene) (n b : ℕ) → IsShared s.tops s.tree s.leaves s.nodes → n < length s.nodes → CutsFrom s n b → CutsLater b (below s n)
node_cuts laws s n b shared lt h = at_node s.nodes (CutsLater b (below s n)) n lt
    (λ k e. let l = laws.leaf s.tops s.tree s.leaves s.nodes n k shared e in subst (λ u. CutsLater b u) (sym l.2) tt)
    (λ f kids e. let node = laws.cut s.tops s.tree s.leaves s.nodes n f kids shared e in subst (λ u. CutsLater b u) (sym node.tree) (h f kids e))

-- a kid of a node cuts later fields
pub kid_cuts : (s : Scene) (n f : ℕ) (kids : List Kid) (i : ℕ) (kid : Kid) → IsCutNode s.tops s.leaves s.nodes n f kids → slice_get kids i ≡ Some kid → CutsFrom s kid.node (suc f)
kid_cuts s n f kids i kid node there = λ g others e. node.rising i g kid others there e

pub kid_before : (s : Scene) (n f : ℕ) (kids : List Kid) (i : ℕ) (kid : Kid) → IsCutNode s.tops s.leaves s.nodes n f kids → slice_get kids i ≡ Some kid → kid.node < n
kid_before s n f kids i kid node there = kid_all (λ k. k.node < n) kids i kid node.before there

pub node_value : (laws : NodeLaws) (s : Scene) (n f : ℕ) (kids : List Kid) (i : ℕ) (kid : Kid) (v : ℕ) (y : List ℕ) → IsShared s.tops s.tree s.leaves s.nodes → n < length s.nodes
    → IsCutNode s.tops s.leaves s.nodes n f kids → slice_get kids i ≡ Some kid → has kid.set v ≡ true → IsWithin s.tops y → slice_index y f ≡ v → value (below s n) y ≡ value (below s kid.node) y
node_value laws s n f kids i kid v y shared lt node there has-it within at =
    let ks : Kids Outcome = kids_of (λ k. subtree_of s.leaves s.nodes k) kids in
    let before : kid.node < n = kid_before s n f kids i kid node there in
    let inside : f < length y = (let a = node.field in let b = within_length s.tops y within in omega (arith, a, b)) in
    ap (λ u. value u y) node.tree
    ∙ cut_value f ks y (below s kid.node) inside (ap (λ k. kid_at ks k) at ∙ node.found i v kid there has-it)
    (node_cuts laws s kid.node (suc f) shared (omega (arith, before, lt)) (kid_cuts s n f kids i kid node there))

-- ---- points of leaves

-- a kid has the leaf
pub record IsLeafKid (s : Scene) (kids : List Kid) (w : Outcome) : Type 0 where
  pub place : ℕ
  pub kid : Kid
  pub there : slice_get kids place ≡ Some kid
  pub leaf : HasLeaf (below s kid.node) w

leaf_kid : (s : Scene) (kids : List Kid) (w : Outcome) → HasKidLeaf (kids_of (λ k. subtree_of s.leaves s.nodes k) kids) w → IsLeafKid s kids w
leaf_kid s [] w h = absurd h
leaf_kid s (k ∷ kids) w (inl h) = record { place = 0; kid = k; there = refl; leaf = h }
leaf_kid s (k ∷ kids) w (inr h) = let r = leaf_kid s kids w h in record { place = suc r.place; kid = r.kid; there = r.there; leaf = r.leaf }

-- a point of a leaf below a node that is another point where the node cuts no field so far
pub record IsLeafPoint (s : Scene) (n : ℕ) (x : List ℕ) (w : Outcome) : Type 0 where
  pub point : List ℕ
  pub within : IsWithin s.tops point
  pub agrees : (g : ℕ) → CutsFrom s n (suc g) → slice_index point g ≡ slice_index x g
  pub value : value (below s n) point ≡ Some w

leaf_value : (f : ℕ) (a : Outcome) (p : List ℕ) → value_from f (leaf a) p ≡ Some a
leaf_value f a [] = refl
leaf_value f a (x ∷ p) = leaf_value (suc f) a p

leaf_point_by : (laws : NodeLaws) (s : Scene) → IsShared s.tops s.tree s.leaves s.nodes → (fuel n : ℕ) → n < fuel → n < length s.nodes → (x : List ℕ) → IsWithin s.tops x
    → (w : Outcome) → HasLeaf (below s n) w → IsLeafPoint s n x w
leaf_point_by laws s shared zero n less lt x within w h = absurd (omega (arith, less))
leaf_point_by laws s shared (suc fuel) n less lt x within w h = at_node s.nodes (IsLeafPoint s n x w) n lt
    (λ k e. let l = laws.leaf s.tops s.tree s.leaves s.nodes n k shared e in
    let is : l.0 ≡ w = subst (λ u. HasLeaf u w) l.2 h in record {
      point = x;
      within = within;
      agrees = λ g c. refl;
      value = ap (λ u. value u x) l.2 ∙ leaf_value 0 l.0 x ∙ ap Some is;
    })
    (λ f kids e. let node = laws.cut s.tops s.tree s.leaves s.nodes n f kids shared e in
    let r = leaf_kid s kids w (subst (λ u. HasLeaf u w) node.tree h) in
    let v = node.filled r.place r.kid r.there in
    let x' : List ℕ = slice_set x f v.0 in
    let before : r.kid.node < n = kid_before s n f kids r.place r.kid node r.there in
    let inside : f < length x = (let a = node.field in let b = within_length s.tops x within in omega (arith, a, b)) in
    let y = leaf_point_by laws s shared fuel r.kid.node (omega (arith, before, less)) (omega (arith, before, lt)) x' (set_within s.tops x f v.0 within (node.within r.place v.0 r.kid r.there v.1)) w r.leaf in
    let cuts : CutsFrom s r.kid.node (suc f) = kid_cuts s n f kids r.place r.kid node r.there in
    record {
      point = y.point;
      within = y.within;
      agrees = λ g c.
          let low : suc g ≤ f = c f kids e in
          y.agrees g (λ h others e'. let a = cuts h others e' in omega (arith, a, low)) ∙ set_other x f v.0 g (λ same. omega (arith, same, low));
      value = node_value laws s n f kids r.place r.kid v.0 y.point shared lt node r.there v.1 y.within (y.agrees f cuts ∙ set_there x f v.0 inside) ∙ y.value;
    })

pub leaf_point : (laws : NodeLaws) (s : Scene) → IsShared s.tops s.tree s.leaves s.nodes → (n : ℕ) → n < length s.nodes → (x : List ℕ) → IsWithin s.tops x
    → (w : Outcome) → HasLeaf (below s n) w → IsLeafPoint s n x w
leaf_point laws s shared n lt x within w h = let less : n < suc n = omega arith in leaf_point_by laws s shared (suc n) n less lt x within w h
