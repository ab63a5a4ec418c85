-- Labels that occur at points with some values.
use Rattle.std.proofs.Common.{◌≡◌, ◌≢◌, Bool, true, false, cond, ℕ, zero, suc, ◌+◌, ◌<◌, ◌≤◌, Option, Some, None, List, [], ◌∷◌, ◌++◌, length, get_or, slice_get, map, take, nat_le, nat_eq, inl, inr, refl, sym, ◌∙◌, ap, subst, arith, All, IfSome, bit_and}
use Rattle.std.proofs.lemmas.Bool.{cases_Bool, cond-true, cond-false, le-leb, lt-leb, eqb-true, eq-eqb}
use Rattle.std.proofs.lemmas.List.{take_all, take_more, take-append-le, map_push}
use Rattle.std.proofs.lemmas.Option.{slice_get_within, get_or_from_slice_get}
use Rattle.std.specs.HashSet.{HashSet, contains, Updates}
use Rattle.fws_box.specs.Sides.{IsWithin}
use Rattle.fws_tree.specs.declared.store.Cell.{Cell}
use Rattle.fws_tree.specs.declared.store.Cell.TheVariants.{Leaf, Cut}
use Rattle.fws_tree.specs.declared.store.Step.{Step}
use Rattle.fws_tree.specs.declared.touch.Touch.{Touch}
use Rattle.fws_tree.specs.Building.{Extends}
use Rattle.fws_tree.specs.Held.{child_at, field_of, held_at}
use Rattle.fws_tree.specs.Parts.{own_steps}
use Rattle.fws_tree.specs.Rising.{Rise}
use Rattle.fws_tree.specs.Bits.{bits_in}
use Rattle.fws_tree.specs.Recoloured.{IsRecoloured}
use Rattle.fws_tree.specs.Touched.{is_called, IsTold, IsAmong, IsMet}
use Rattle.fws_tree.proofs.Cells.{held-extends}

-- ---- the steps of a cell

-- the step that reaches a value behind steps that don't leads to its cell
pub child_there : (ss : List Step) (last x i : ℕ) (d : Step) → i < length ss → ((k : ℕ) → k < i → (get_or ss k d).hi < x) → x ≤ (get_or ss i d).hi → (get_or ss i d).node ≡ child_at ss last x
child_there [] last x i d lt below reaches = absurd (omega arith)
child_there (s ∷ ss) last x zero d lt below reaches = sym (cond-true (nat_le x s.hi) s.node (child_at ss last x) (le-leb x s.hi reaches))
child_there (s ∷ ss) last x (suc i) d lt below reaches =
    let past : s.hi < x = below 0 (omega arith) in
    child_there ss last x i d (omega arith) (λ k l. below (suc k) (omega arith)) reaches ∙ sym (cond-false (nat_le x s.hi) s.node (child_at ss last x) (lt-leb x s.hi past))

-- where no step reaches the value, the last cell is left
pub child_past : (ss : List Step) (last x : ℕ) (d : Step) → ((k : ℕ) → k < length ss → (get_or ss k d).hi < x) → last ≡ child_at ss last x
child_past [] last x d below = refl
child_past (s ∷ ss) last x d below =
    let past : s.hi < x = below 0 (omega arith) in
    child_past ss last x d (λ k l. below (suc k) (omega arith)) ∙ sym (cond-false (nat_le x s.hi) s.node (child_at ss last x) (lt-leb x s.hi past))

none_rise : Rise []
none_rise i j d le lt = absurd (omega arith)

both_rise : (b : Bool) (ss : List Step) → Rise ss → Rise (cond b ss [])
both_rise true ss h = h
both_rise false ss h = none_rise

-- a cell that cuts a field has no steps at another one
cell_rises : (o : Option Cell) (field other : ℕ) → ((c : Cell) → o ≡ Some c → field_of c ≡ Some field) → Rise (own_steps field o) → Rise (own_steps other o)
cell_rises None field other cuts h = none_rise
cell_rises (Some (Leaf n)) field other cuts h = none_rise
cell_rises (Some (Cut g ss last)) field other cuts h =
    let e : Some g ≡ Some field = cuts (Cut g ss last) refl in
    let same : g ≡ field = cc in
    both_rise (nat_eq g other) ss (subst (λ b. Rise (cond b ss [])) (eq-eqb g field same) h)

-- a cell whose steps rise is noted
pub rising-more : {S : Type 0} (cells : List Cell) (rising more : HashSet ℕ S) (at field : ℕ) (ss : List Step) → ((c : Cell) → slice_get cells at ≡ Some c → field_of c ≡ Some field) → ss ≡ own_steps field (slice_get cells at)
    → ((k : ℕ) → contains nat_eq rising k ≡ true → (other : ℕ) → Rise (own_steps other (slice_get cells k))) → Updates nat_eq rising more at true → Rise ss
    → (k : ℕ) → contains nat_eq more k ≡ true → (other : ℕ) → Rise (own_steps other (slice_get cells k))
rising-more cells rising more at field ss cuts own h u here k is other = elim (cases_Bool (nat_eq at k)) [
  | inl t ↦ subst (λ n. Rise (own_steps other (slice_get cells n))) (eqb-true at k t) (cell_rises (slice_get cells at) field other cuts (subst Rise own here))
  | inr f ↦ h k (sym (cond-false (nat_eq at k) true (contains nat_eq rising k) f) ∙ sym (u.0 k) ∙ is) other
]

-- ---- points and stores

pub within_from : (tops p : List ℕ) → length tops ≡ length p → ((k : ℕ) → k < length p → get_or p k 0 ≤ get_or tops k 0) → IsWithin tops p
within_from [] [] e h = tt
within_from [] (x ∷ p) e h = absurd (omega arith)
within_from (t ∷ ts) [] e h = absurd (omega arith)
within_from (t ∷ ts) (x ∷ p) e h = (h 0 (omega arith), within_from ts p (omega arith) (λ k lt. h (suc k) (omega arith)))

-- what came behind is taken away again
pub back : {X : Type 0} (n : ℕ) (old new : List X) → n ≡ length old → Extends old new → take n new ≡ old
back n old new e x =
    let le : n ≤ length old = omega arith in
    let all : length old ≤ n = omega arith in
    ap (λ xs. take n xs) x.1 ∙ take-append-le n old x.0 le ∙ take_all n old all

-- ---- labels that were met

among_front : (xs ys : List ℕ) (k x : ℕ) → slice_get xs k ≡ Some x → slice_get (xs ++ ys) k ≡ Some x
among_front [] ys k x e = absurd (cc)
among_front (y ∷ xs) ys zero x e = e
among_front (y ∷ xs) ys (suc k) x e = among_front xs ys k x e

pub among-extends : (xs ys : List ℕ) (x : ℕ) → Extends xs ys → IsAmong xs x → IsAmong ys x
among-extends xs ys x e a = (a.0, ap (λ zs. slice_get zs a.0) e.1 ∙ among_front xs e.0 a.0 x a.1)

-- a label at a place of the list is that of the touch there
told_at : (ts : List Touch) (k label : ℕ) → slice_get (map (λ t. t.label) ts) k ≡ Some label → IsTold label ts
told_at [] k label e = absurd (cc)
told_at (t ∷ ts) zero label e = let same : t.label ≡ label = cc in (0, t, refl, same)
told_at (t ∷ ts) (suc k) label e = let r = told_at ts k label e in (suc r.0, r.1, r.2, r.3)

pub told_among : (labels : List ℕ) (ts : List Touch) (label : ℕ) → map (λ t. t.label) ts ≡ labels → IsAmong labels label → IsTold label ts
told_among labels ts label e a = told_at ts a.0 label (ap (λ ls. slice_get ls a.0) e ∙ a.1)

-- one more touch
pub labels-more : (labels : List ℕ) (old new : List Touch) (o : Option Touch) (t : Touch) (i : ℕ) → map (λ u. u.label) old ≡ take i labels → o ≡ Some t → IfSome o (λ u. slice_get labels i ≡ Some u.label) → new ≡ old ++ t ∷ []
    → map (λ u. u.label) new ≡ take (i + 1) labels
labels-more labels old new o t i so_far is at e =
    let here : slice_get labels i ≡ Some t.label = subst (λ q. IfSome q (λ u. slice_get labels i ≡ Some u.label)) is at in
    ap (λ ts. map (λ u. u.label) ts) e ∙ map_push (λ u. u.label) old t ∙ ap (λ ls. ls ++ t.label ∷ []) so_far
    ∙ ap (λ l. take i labels ++ l ∷ []) (sym (get_or_from_slice_get labels i t.label 0 here)) ∙ sym (take_more labels i 0 (slice_get_within labels i t.label here))

-- what is met in a store that has grown was there before
pub met-before : {S : Type 0} (tops : List ℕ) (old new : List Cell) (root marked : ℕ) (called : HashSet ℕ S) (t : Touch) → Extends old new → root < length old → marked < length old → IsMet tops new root marked called t → IsMet tops old root marked called t
met-before tops old new root marked called t e lr lm m = (
  m.0,
  ap (λ n. contains nat_eq called n) (sym (held-extends old new root t.point e lr)) ∙ m.1,
  sym (held-extends old new marked t.point e lm) ∙ m.2,
  m.3,
)

-- ---- what is told and found, from the cells to the marks

pub told_marks : {S : Type 0} (tops called : List ℕ) (old mid : List Cell) (root marked : ℕ) (label : List ℕ → ℕ) (set : HashSet ℕ S) (ts : List Touch) → Extends old mid → root < length old
    → ((n : ℕ) → contains nat_eq set n ≡ is_called called n) → ((p : List ℕ) → IsWithin tops p → held_at mid marked p ≡ label p)
    → ((p : List ℕ) → contains nat_eq set (held_at mid root p) ≡ true → held_at mid marked p ≢ 0 → IsTold (held_at mid marked p) ts)
    → (p : List ℕ) → IsWithin tops p → is_called called (held_at old root p) ≡ true → label p ≢ 0 → IsTold (label p) ts
told_marks tops called old mid root marked label set ts e lt same at told p w is some =
    subst (λ l. IsTold l ts) (at p w) (told p (same (held_at mid root p) ∙ ap (is_called called) (held-extends old mid root p e lt) ∙ is) (λ z. some (sym (at p w) ∙ z)))

pub found_marks : {S : Type 0} (tops called : List ℕ) (old mid : List Cell) (root marked : ℕ) (label : List ℕ → ℕ) (set : HashSet ℕ S) (ts : List Touch) → Extends old mid → root < length old
    → ((n : ℕ) → contains nat_eq set n ≡ is_called called n) → ((p : List ℕ) → IsWithin tops p → held_at mid marked p ≡ label p)
    → All (λ t. IsMet tops mid root marked set t) ts
    → All (λ t. IsWithin tops t.point × (is_called called (held_at old root t.point) ≡ true) × (label t.point ≡ t.label) × (t.label ≢ 0)) ts
found_marks tops called old mid root marked label set ts e lt same at all k d l =
    let t : Touch = get_or ts k d in
    let m : IsMet tops mid root marked set t = all k d l in (
      m.0,
      ap (is_called called) (sym (held-extends old mid root t.point e lt)) ∙ sym (same (held_at mid root t.point)) ∙ m.1,
      sym (at t.point m.0) ∙ m.2,
      m.3,
    )

-- each label that a recolouring met is told of
pub told_asked : {S : Type 0} (values : List ℕ) (wanted : ℕ) (old new : List Cell) (root marked painted : ℕ) (called : HashSet ℕ S) (now : HashSet ℕ S) (labels : List ℕ) (ts : List Touch) → called ≡ now
    → ((n : ℕ) → contains nat_eq called n ≡ true → bit_and (bits_in values n) wanted ≢ 0)
    → ((p : List ℕ) → IsRecoloured (λ x l z. contains nat_eq now x ≡ true → IsAmong labels l) values wanted (held_at old root p) (held_at old marked p) (held_at new painted p))
    → map (λ t. t.label) ts ≡ labels
    → (p : List ℕ) → contains nat_eq called (held_at old root p) ≡ true → held_at old marked p ≢ 0 → IsTold (held_at old marked p) ts
told_asked values wanted old new root marked painted called now labels ts same bits painting e p is some =
    told_among labels ts (held_at old marked p) e ((painting p).2 some (bits (held_at old root p) is) (subst (λ c. contains nat_eq c (held_at old root p) ≡ true) same is))

pub all_before : {S : Type 0} (tops : List ℕ) (old new : List Cell) (root marked : ℕ) (called : HashSet ℕ S) (ts : List Touch) → Extends old new → root < length old → marked < length old
    → All (λ t. IsMet tops new root marked called t) ts → All (λ t. IsMet tops old root marked called t) ts
all_before tops old new root marked called ts e lr lm all k d l = met-before tops old new root marked called (get_or ts k d) e lr lm (all k d l)
