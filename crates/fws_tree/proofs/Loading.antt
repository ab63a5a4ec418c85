-- Nodes as cells.
use Rattle.std.proofs.Common.{◌≡◌, ℕ, zero, suc, ◌+◌, ◌-◌, ◌<◌, ◌≤◌, Bool, true, false, cond, nat_le, nat_eq, nat_lt, Option, Some, None, option_and_then, slice_get, List, [], ◌∷◌, ◌++◌, inl, inr, length, get_or, drop, take, refl, sym, ◌∙◌, ap, subst, arith, length-append}
use Rattle.std.proofs.lemmas.Bool.{cases_Bool, cond-true, cond-false, le-leb, eqb-true, MatchBool-at_true, MatchBool-at_false}
use Rattle.std.proofs.lemmas.Bool.Decides.{nat_tests}
use Rattle.std.proofs.lemmas.List.{drop_more, drop_all, take-append-drop, get_or_push, get_or_default, get_or_append_left}
use Rattle.std.proofs.lemmas.List.Elements.{All-push}
use Rattle.std.proofs.lemmas.Option.{slice_get_within}
use Rattle.std.specs.List.{AllByRecursion}
use Rattle.fws_iv.specs.Ivs.{has}
use Rattle.fws_box.specs.Sides.{IsWithin}
use Rattle.fws_tree.specs.Building.{Extends}
use Rattle.fws_tree.specs.declared.node.Kid.{Kid}
use Rattle.fws_tree.specs.declared.node.Node.{Node}
use Rattle.fws_tree.specs.declared.store.Cell.{Cell}
use Rattle.fws_tree.specs.declared.store.Step.{Step}
use Rattle.fws_tree.specs.declared.together.Both.{Both}
use Rattle.fws_tree.specs.Held.{child_at, held_at, pick, over_leaf}
use Rattle.fws_tree.specs.Loaded.{read, read_kids, kid_number, named_cell, AreLoaded, IsLoaded, HoldsNode}
use Rattle.fws_tree.specs.Merged.{left_at, right_at}
use Rattle.fws_tree.specs.Nodes.{kids_over, tree_of, trees_after, named_leaf, relabel, relabel_kids}
use Rattle.fws_tree.specs.Plain.{Plain, leaf, cut, Kids, none, kid, kid_at, value_from, value, IsReducedFrom, IsReduced}
use Rattle.fws_tree.specs.Shared.{IsShared, subtree_of}
use Rattle.fws_tree.proofs.Cells.{held-extends, length-extends}
use Rattle.fws_tree.proofs.Reduced.{kid_in, cond_false, has_value_from}
use Rattle.fws_tree.proofs.Steps.{pick_child, pick-push}

-- ---- steps

over_cond : (t : Bool) (l r k s : ℕ) → cond t (over_leaf l r) (over_leaf k s) ≡ over_leaf (cond t l k) (cond t r s)
over_cond true l r k s = refl
over_cond false l r k s = refl

-- a step more of two lists of steps joined
pub joined-next : (bs : List Both) (i : ℕ) (d : Both) (ss ts : List Step) (n al bl x : ℕ) → i < length bs → ((v : ℕ → ℕ) (z x : ℕ) → pick v ts z x ≡ pick v (ss ++ record { hi = (get_or bs i d).hi; node = n } ∷ []) z x)
    → n ≡ over_leaf (get_or bs i d).left (get_or bs i d).right → pick (λ n. n) ss (over_leaf (left_at (drop i bs) al x) (right_at (drop i bs) bl x)) x ≡ over_leaf (left_at bs al x) (right_at bs bl x)
    → pick (λ n. n) ts (over_leaf (left_at (drop (i + 1) bs) al x) (right_at (drop (i + 1) bs) bl x)) x ≡ over_leaf (left_at bs al x) (right_at bs bl x)
joined-next bs i d ss ts n al bl x lt same is inv =
    let b : Both = get_or bs i d in
    let rest : List Both = drop (i + 1) bs in
    let z : ℕ = over_leaf (left_at rest al x) (right_at rest bl x) in
    let id : ℕ → ℕ = λ n. n in
    let here : cond (nat_le x b.hi) n z ≡ over_leaf (left_at (drop i bs) al x) (right_at (drop i bs) bl x) =
    ap (λ m. cond (nat_le x b.hi) m z) is ∙ over_cond (nat_le x b.hi) b.left b.right (left_at rest al x) (right_at rest bl x)
    ∙ ap (λ cs. over_leaf (left_at cs al x) (right_at cs bl x)) (sym (drop_more bs i d lt)) in
    same id z x ∙ pick-push id ss (record { hi = b.hi; node = n }) z x ∙ ap (λ m. pick id ss m x) here ∙ inv

pub joined-all : (bs met : List Both) (i : ℕ) (ss xs ys : List Step) (last al bl x : ℕ) → length bs ≤ i → bs ≡ met → last ≡ over_leaf al bl
    → pick (λ n. n) ss (over_leaf (left_at (drop i bs) al x) (right_at (drop i bs) bl x)) x ≡ over_leaf (left_at bs al x) (right_at bs bl x)
    → left_at met al x ≡ child_at xs al x → right_at met bl x ≡ child_at ys bl x → child_at ss last x ≡ over_leaf (child_at xs al x) (child_at ys bl x)
joined-all bs met i ss xs ys last al bl x le e is inv l r =
    let id : ℕ → ℕ = λ n. n in
    pick_child id ss last x ∙ ap (λ m. pick id ss m x) is ∙ ap (λ cs. pick id ss (over_leaf (left_at cs al x) (right_at cs bl x)) x) (sym (drop_all i bs le)) ∙ inv
    ∙ ap (λ cs. over_leaf (left_at cs al x) (right_at cs bl x)) e ∙ ap (λ m. over_leaf m (right_at met bl x)) l ∙ ap (λ m. over_leaf (child_at xs al x) m) r

over_row : (b : Bool) (k n m o : ℕ) → m ≡ over_leaf n o → cond b (k + 1) m ≡ over_leaf (cond b (k + 1) n) o
over_row true k n m o e = let ne : nat_eq (k + 1) 0 ≡ false = grind (arith, nat_tests) in sym (cond-false (nat_eq (k + 1) 0) o (k + 1) ne)
over_row false k n m o e = e

number-append : (ks js : List Kid) (x : ℕ) → kid_number (ks ++ js) x ≡ over_leaf (kid_number ks x) (kid_number js x)
number-append [] js x = refl
number-append (k ∷ ks) js x = over_row (has k.set x) k.node _ _ _ (number-append ks js x)

pub number_halves : (kids front back : List Kid) (m x : ℕ) → front ≡ take m kids → back ≡ drop m kids → over_leaf (kid_number front x) (kid_number back x) ≡ kid_number kids x
number_halves kids front back m x e f = sym (number-append front back x) ∙ ap (λ ks. kid_number ks x) (ap (λ ks. ks ++ back) e ∙ ap (λ ks. take m kids ++ ks) f ∙ take-append-drop m kids)

named_cond : (t : Bool) (at : List ℕ) (rest n m : ℕ) → cond t (named_cell at rest n) (named_cell at rest m) ≡ named_cell at rest (cond t n m)
named_cond true at rest n m = refl
named_cond false at rest n m = refl

-- a step more with a cell in place of a number
pub named-next : (cs : List Step) (i : ℕ) (d : Step) (ss ts : List Step) (at : List ℕ) (rest n last x : ℕ) → i < length cs → ((v : ℕ → ℕ) (z x : ℕ) → pick v ts z x ≡ pick v (ss ++ record { hi = (get_or cs i d).hi; node = n } ∷ []) z x)
    → n ≡ named_cell at rest (get_or cs i d).node → pick (λ n. n) ss (named_cell at rest (child_at (drop i cs) last x)) x ≡ named_cell at rest (child_at cs last x)
    → pick (λ n. n) ts (named_cell at rest (child_at (drop (i + 1) cs) last x)) x ≡ named_cell at rest (child_at cs last x)
named-next cs i d ss ts at rest n last x lt same is inv =
    let s : Step = get_or cs i d in
    let z : ℕ = named_cell at rest (child_at (drop (i + 1) cs) last x) in
    let id : ℕ → ℕ = λ n. n in
    let here : cond (nat_le x s.hi) n z ≡ named_cell at rest (child_at (drop i cs) last x) =
    ap (λ m. cond (nat_le x s.hi) m z) is ∙ named_cond (nat_le x s.hi) at rest s.node (child_at (drop (i + 1) cs) last x)
    ∙ ap (λ ts. named_cell at rest (child_at ts last x)) (sym (drop_more cs i d lt)) in
    same id z x ∙ pick-push id ss (record { hi = s.hi; node = n }) z x ∙ ap (λ m. pick id ss m x) here ∙ inv

pub named-all : (cs all : List Step) (i : ℕ) (ss : List Step) (at : List ℕ) (rest n last x : ℕ) → length cs ≤ i → cs ≡ all → n ≡ named_cell at rest last
    → pick (λ n. n) ss (named_cell at rest (child_at (drop i cs) last x)) x ≡ named_cell at rest (child_at cs last x) → child_at ss n x ≡ named_cell at rest (child_at all last x)
named-all cs all i ss at rest n last x le e is inv =
    let id : ℕ → ℕ = λ n. n in
    pick_child id ss n x ∙ ap (λ m. pick id ss m x) is ∙ ap (λ ts. pick id ss (named_cell at rest (child_at ts last x)) x) (sym (drop_all i cs le)) ∙ inv ∙ ap (λ ts. named_cell at rest (child_at ts last x)) e

-- ---- reading a tree

pub read_kid : {L : Type 0} (ks : Kids L) (x : ℕ) (p : List ℕ) → read_kids ks x p ≡ read (kid_at ks x) p
read_kid none x p = refl
read_kid (kid s t ks) x p = elim (cases_Bool (has s x)) [ inl y ↦ rw y refl | inr n ↦ rw n (read_kid ks x p) ]

pub drop_parts : (p : List ℕ) (f x : ℕ) (q : List ℕ) → drop f p ≡ x ∷ q → (get_or p f 0 ≡ x) × (drop (suc f) p ≡ q)
drop_parts [] zero x q e = absurd (cc)
drop_parts [] (suc f) x q e = absurd (cc)
drop_parts (y ∷ p) zero x q e = (let a : y ≡ x = cc in a, let b : p ≡ q = cc in b)
drop_parts (y ∷ p) (suc f) x q e = drop_parts p f x q e

-- a reduced tree is read as it is walked
read_value : {L : Type 0} (tops : List ℕ) (f : ℕ) (t : Plain L) (p q : List ℕ) → IsReducedFrom f tops t → IsWithin tops q → drop f p ≡ q → read t p ≡ value_from f t q
read_value [] f (leaf a) p [] r w e = refl
read_value [] f (leaf a) p (x ∷ q) r w e = absurd w
read_value [] f (cut g ks) p q r w e = absurd r
read_value (top ∷ tops) f t p [] r w e = absurd w
read_value (top ∷ tops) f (leaf a) p (x ∷ q) r w e = read_value tops (suc f) (leaf a) p q tt w.1 (drop_parts p f x q e).1
read_value (top ∷ tops) f (cut g ks) p (x ∷ q) r w e = elim (cases_Bool (nat_eq g f)) [
  | inl y ↦ (
      let m = MatchBool-at_true _ _ y r in
      let d = drop_parts p f x q e in
      let same : get_or p g 0 ≡ x = ap (λ h. get_or p h 0) (eqb-true g f y) ∙ d.0 in
      read_kid ks (get_or p g 0) p ∙ ap (λ z. read (kid_at ks z) p) same
      ∙ read_value tops (suc f) (kid_at ks x) p q (kid_in (IsReducedFrom (suc f) tops) (λ k. nat_le k top) ks m.1 m.2 x (le-leb x top w.0)) w.1 d.1
      ∙ sym (ap (λ u. value_from (suc f) u q) (cond-true (nat_eq g f) (kid_at ks x) (cut g ks) y)))
  | inr z ↦ read_value tops (suc f) (cut g ks) p q (MatchBool-at_false _ _ z r) w.1 (drop_parts p f x q e).1 ∙ sym (ap (λ u. value_from (suc f) u q) (cond_false (nat_eq g f) (kid_at ks x) (cut g ks) z))
]

pub read_is_value : {L : Type 0} (tops : List ℕ) (t : Plain L) (p : List ℕ) → IsReduced tops t → IsWithin tops p → read t p ≡ value t p
read_is_value tops t p r w = read_value tops 0 t p p r w refl

read-named : {L : Type 0} (o : Option L) (p : List ℕ) → read (named_leaf o) p ≡ o
read-named (Some a) p = refl
read-named None p = refl

mutual
  pub read-relabel : {L : Type 0} (leaves : List L) (t : Plain ℕ) (p : List ℕ) → read (relabel leaves t) p ≡ option_and_then (slice_get leaves) (read t p)
  read-relabel leaves (leaf n) p = read-named (slice_get leaves n) p
  read-relabel leaves (cut f ks) p = read_kids-relabel leaves ks (get_or p f 0) p

  read_kids-relabel : {L : Type 0} (leaves : List L) (ks : Kids ℕ) (x : ℕ) (p : List ℕ) → read_kids (relabel_kids leaves ks) x p ≡ option_and_then (slice_get leaves) (read_kids ks x p)
  read_kids-relabel leaves none x p = refl
  read_kids-relabel leaves (kid s t ks) x p = elim (cases_Bool (has s x)) [ inl y ↦ rw y (read-relabel leaves t p) | inr n ↦ rw n (read_kids-relabel leaves ks x p) ]

-- the kid that is read, by its number
read_number : (ts : List (Plain ℕ)) (ks : List Kid) (m x : ℕ) (p : List ℕ) (n : ℕ) → AllByRecursion (λ k. k.node < m) ks → read_kids (kids_over ts ks) x p ≡ Some n
    → (j : ℕ) × (kid_number ks x ≡ j + 1) × (j < m) × (read (get_or ts j (cut 0 none)) p ≡ Some n)
read_number ts [] m x p n below e = absurd (cc)
read_number ts (k ∷ ks) m x p n below e = elim (cases_Bool (has k.set x)) [
  | inl y ↦ (k.node, cond-true (has k.set x) (k.node + 1) (kid_number ks x) y, below.0, rw y at e)
  | inr f ↦ (
      let z = read_number ts ks m x p n below.1 (rw f at e) in
      (z.0, cond-false (has k.set x) (k.node + 1) (kid_number ks x) f ∙ z.1, z.2, z.3))
]

pub named_at : (at : List ℕ) (rest j : ℕ) → j < length at → named_cell at rest (j + 1) ≡ get_or at j 0
named_at at rest j lt =
    let ne : nat_eq (j + 1) 0 ≡ false = grind (arith, nat_tests) in
    let e : j + 1 - 1 ≡ j = omega arith in
    cond-false (nat_eq (j + 1) 0) rest (get_or at (j + 1 - 1) rest) ne ∙ ap (λ k. get_or at k rest) e ∙ get_or_default at j rest 0 lt

-- ---- the cells so far

pub within_top : (tops p : List ℕ) (f : ℕ) → IsWithin tops p → get_or p f 0 ≤ get_or tops f 0
within_top [] [] f w = omega arith
within_top [] (x ∷ p) f w = absurd w
within_top (top ∷ tops) [] f w = absurd w
within_top (top ∷ tops) (x ∷ p) zero w = w.0
within_top (top ∷ tops) (x ∷ p) (suc f) w = within_top tops p f w.1

pub loaded-next : (tops : List ℕ) (nodes : List Node) (values : List ℕ) (old new : List Cell) (at more : List ℕ) (k cell : ℕ) → Extends old new → length at ≡ k → AreLoaded tops nodes values old at → cell < length new
    → HoldsNode tops nodes values new k cell → more ≡ at ++ cell ∷ [] → AreLoaded tops nodes values new more
loaded-next tops nodes values old new at more k cell e many loaded inside here is =
    let l = length-extends old new e in
    subst (AreLoaded tops nodes values new) (sym is) (record {
      below = All-push (λ c. c < length new) at cell (λ j d lt. let b = loaded.below j d lt in omega arith) inside;
      held = λ j lt p w n r. elim (cases_Bool (nat_lt j (length at))) [
        | inl t ↦ (
            let lj : j < length at = grind (arith, nat_tests) in
            ap (λ c. held_at new c p) (get_or_append_left at (cell ∷ []) 0 j lj) ∙ held-extends old new (get_or at j 0) p e (loaded.below j 0 lj) ∙ loaded.held j lj p w n r)
        | inr f ↦ (
            let long : length (at ++ cell ∷ []) ≡ length at + 1 = length-append at (cell ∷ []) in
            let ej : length at ≡ j = grind (arith, nat_tests) in
            let jk : j ≡ k = omega arith in
            ap (λ c. held_at new c p) (get_or_push at cell 0 j ej) ∙ here p w n (ap (λ i. read (tree_of nodes i) p) (sym jk) ∙ r))
      ];
    })

pub holds_leaf : (tops : List ℕ) (nodes : List Node) (values : List ℕ) (cells : List Cell) (k cell place v : ℕ) → tree_of nodes k ≡ leaf place → v ≡ get_or values place 0 → ((p : List ℕ) → held_at cells cell p ≡ v) → HoldsNode tops nodes values cells k cell
holds_leaf tops nodes values cells k cell place v t is held p w n r =
    let s : Some place ≡ Some n = sym (ap (λ u. read u p) t) ∙ r in
    let e : place ≡ n = cc in
    held p ∙ is ∙ ap (λ i. get_or values i 0) e

pub holds_cut : (tops : List ℕ) (nodes : List Node) (values : List ℕ) (old new : List Cell) (at slice : List ℕ) (kids all : List Kid) (k cell f top rest : ℕ) → tree_of nodes k ≡ cut f (kids_over (trees_after [] nodes) all) → AllByRecursion (λ j. j.node < k) all → kids ≡ all → slice ≡ at
    → length at ≡ k → AreLoaded tops nodes values old at → top ≡ get_or tops f 0
    → ((p : List ℕ) → get_or p f 0 ≤ top → held_at new cell p ≡ held_at old (named_cell slice rest (kid_number kids (get_or p f 0))) p) → HoldsNode tops nodes values new k cell
holds_cut tops nodes values old new at slice kids all k cell f top rest t below ek es many loaded et held p w n r =
    let x : ℕ = get_or p f 0 in
    let z = read_number (trees_after [] nodes) all k x p n below (sym (ap (λ u. read u p) t) ∙ r) in
    let lt = z.2 in
    let lj : z.0 < length at = omega arith in
    held p (subst (λ m. x ≤ m) (sym et) (within_top tops p f w))
    ∙ ap (λ c. held_at old c p) (ap (λ ks. named_cell slice rest (kid_number ks x)) ek ∙ ap (λ xs. named_cell xs rest (kid_number all x)) es ∙ ap (λ m. named_cell at rest m) z.1 ∙ named_at at rest z.0 lj)
    ∙ loaded.held z.0 lj p w n z.3

-- ---- the cell of a tree

pub tree_loaded : {L : Type 0} (tops : List ℕ) (leaves : List L) (nodes : List Node) (values : List ℕ) (cells : List Cell) (at : List ℕ) (r : ℕ) → IsShared tops (subtree_of leaves nodes (length nodes - 1)) leaves nodes
    → AreLoaded tops nodes values cells at → length at ≡ length nodes → r ≡ get_or at (length nodes - 1) 0 → IsLoaded tops leaves nodes values cells r
tree_loaded tops leaves nodes values cells at r s loaded many is p w =
    let some = s.some in
    let root : ℕ = length nodes - 1 in
    let reduced = s.reduced root (omega arith) in
    let a = has_value_from tops 0 (subtree_of leaves nodes root) reduced p w in
    let z = of_place leaves (read (tree_of nodes root) p) a.0 (sym (read-relabel leaves (tree_of nodes root) p) ∙ read_is_value tops (subtree_of leaves nodes root) p reduced w ∙ a.1) in
    (z.0, a.1 ∙ sym z.2, slice_get_within leaves z.0 a.0 z.2, ap (λ c. held_at cells c p) is ∙ loaded.held root (omega arith) p w z.0 z.1)
  where
    of_place : {L : Type 0} (leaves : List L) (o : Option ℕ) (a : L) → option_and_then (slice_get leaves) o ≡ Some a → (n : ℕ) × (o ≡ Some n) × (slice_get leaves n ≡ Some a)
    of_place leaves None a e = absurd (cc)
    of_place leaves (Some n) a e = (n, refl, e)
