-- The cell of a mark, and of marks.
use Rattle.std.proofs.Common.{◌≡◌, Bool, true, false, ◌&&◌, ◌||◌, not, cond, ℕ, zero, suc, ◌+◌, ◌-◌, ◌<◌, ◌≤◌, List, [], ◌∷◌, ◌++◌, length, get_or, drop, take, nat_le, nat_lt, nat_eq, inl, inr, refl, sym, ◌∙◌, ap, arith}
use Rattle.std.proofs.lemmas.Bool.{cases_Bool, cond-true, cond-false, leb-true}
use Rattle.std.proofs.lemmas.Bool.Decides.{nat_tests}
use Rattle.std.proofs.lemmas.List.{drop_more, drop_all, take-append-drop}
use Rattle.fws_iv.specs.declared.iv.Iv.{Iv}
use Rattle.fws_iv.specs.Ivs.{has, IsRegular, IsRegularFrom}
use Rattle.fws_tree.specs.declared.mark.Mark.{Mark}
use Rattle.fws_tree.specs.declared.row.Row.{Row}
use Rattle.fws_tree.specs.declared.store.Step.{Step}
use Rattle.fws_tree.specs.declared.store.Cell.{Cell}
use Rattle.fws_tree.specs.Held.{child_at, held_at, pick, over_leaf}
use Rattle.fws_tree.specs.Marks.{sides_of, mark_at}
use Rattle.fws_tree.specs.Building.{Extends}
use Rattle.fws_tree.specs.Merged.{IsMerged}
use Rattle.std.proofs.Common.{Some, slice_get, map}
use Rattle.fws_tree.specs.Building.{AreNumbersOf}
use Rattle.std.specs.List.{range_with_len}
use Rattle.std.proofs.lemmas.Option.{slice_get_within}
use Rattle.fws_tree.proofs.Counted.{place_behind}
use Rattle.fws_box.specs.Sides.{IsWithin, sides_have}
use Rattle.fws_tree.specs.Rows.{first_leaf}
use Rattle.fws_tree.proofs.Cells.{held-extends}
use Rattle.fws_tree.proofs.Ranges.{front_decides, regular_from}
use Rattle.fws_tree.proofs.Steps.{pick_child, pick-push}

-- an interval off the front of a set
pub part_last : (l : ℕ) (i : Iv) (is : List Iv) (x on off : ℕ) → IsRegularFrom l (i ∷ is) → x ≤ i.hi → cond (nat_lt x i.lo) off on ≡ cond (has (i ∷ is) x) on off
part_last l i is x on off r le = flip (nat_lt x i.lo) (nat_le i.lo x) (grind (arith, nat_tests)) ∙ ap (λ b. cond b on off) (front_decides l i is x r le)
  where
    flip : (a b : Bool) → a ≡ not b → cond a off on ≡ cond b on off
    flip a true e = rw e refl
    flip a false e = rw e refl

pub part_step : (l : ℕ) (i : Iv) (is : List Iv) (x on off : ℕ) → IsRegularFrom l (i ∷ is) → cond (nat_lt x i.lo) off (cond (nat_le x i.hi) on (cond (has is x) on off)) ≡ cond (has (i ∷ is) x) on off
part_step l i is x on off r = elim (cases_Bool (nat_le x i.hi)) [
  | inl t ↦ ap (λ z. cond (nat_lt x i.lo) off z) (cond-true (nat_le x i.hi) on (cond (has is x) on off) t) ∙ part_last l i is x on off r (leb-true x i.hi t)
  | inr f ↦ (
      let lo : nat_lt x i.lo ≡ false = (let m = r.1 in grind (arith, nat_tests)) in
      let past : has (i ∷ is) x ≡ has is x = without (nat_le i.lo x) (nat_le x i.hi) (has is x) f in
      cond-false (nat_lt x i.lo) off _ lo ∙ cond-false (nat_le x i.hi) on _ f ∙ ap (λ b. cond b on off) (sym past))
]
  where
    without : (a b c : Bool) → b ≡ false → ((a && b) || c) ≡ c
    without true true c e = absurd (cc)
    without true false c e = refl
    without false b c e = refl

-- the steps of the intervals so far, and what is left of them
abbrev pub AreCut : List Iv → ℕ → ℕ → ℕ → List Step → List Iv → Type 0
AreCut side top on off ss left = (x : ℕ) → x ≤ top → pick (λ n. n) ss (cond (has left x) on off) x ≡ cond (has side x) on off

pub cut-more : (side : List Iv) (top on off i : ℕ) (d : Iv) (ss mid ts : List Step) → IsRegular side → i < length side → AreCut side top on off ss (drop i side)
    → ((v : ℕ → ℕ) (z x : ℕ) → pick v mid z x ≡ pick v ss (cond (nat_lt x (get_or side i d).lo) (v off) z) x)
    → ((v : ℕ → ℕ) (z x : ℕ) → pick v ts z x ≡ pick v (mid ++ record { hi = (get_or side i d).hi; node = on } ∷ []) z x)
    → AreCut side top on off ts (drop (i + 1) side)
cut-more side top on off i d ss mid ts r lt cut before here x le =
    let p : Iv = get_or side i d in
    let id : ℕ → ℕ = λ n. n in
    let z : ℕ = cond (has (drop (i + 1) side) x) on off in
    here id z x ∙ pick-push id mid (record { hi = p.hi; node = on }) z x ∙ before id (cond (nat_le x p.hi) on z) x
    ∙ ap (λ u. pick id ss u x) (part_step 0 p (drop (i + 1) side) x on off (regular_from 0 side i d lt r) ∙ ap (λ js. cond (has js x) on off) (sym (drop_more side i d lt)))
    ∙ cut x le

pub cut-last : (side : List Iv) (top on off i : ℕ) (d : Iv) (ss mid : List Step) → IsRegular side → i < length side → AreCut side top on off ss (drop i side) → top ≤ (get_or side i d).hi
    → ((v : ℕ → ℕ) (z x : ℕ) → pick v mid z x ≡ pick v ss (cond (nat_lt x (get_or side i d).lo) (v off) z) x)
    → (x : ℕ) → x ≤ top → child_at mid on x ≡ cond (has side x) on off
cut-last side top on off i d ss mid r lt cut past before x le =
    let p : Iv = get_or side i d in
    let id : ℕ → ℕ = λ n. n in
    pick_child id mid on x ∙ before id on x
    ∙ ap (λ u. pick id ss u x) (part_last 0 p (drop (i + 1) side) x on off (regular_from 0 side i d lt r) (omega arith) ∙ ap (λ js. cond (has js x) on off) (sym (drop_more side i d lt)))
    ∙ cut x le

pub cut-past : (side : List Iv) (top on off i : ℕ) (d : Iv) (ss : List Step) → IsRegular side → i < length side → AreCut side top on off ss (drop i side) → top < (get_or side i d).lo
    → (x : ℕ) → x ≤ top → child_at ss off x ≡ cond (has side x) on off
cut-past side top on off i d ss r lt cut past x le =
    let p : Iv = get_or side i d in
    let id : ℕ → ℕ = λ n. n in
    let whole : IsRegularFrom 0 (p ∷ drop (i + 1) side) = regular_from 0 side i d lt r in
    let order : p.lo ≤ p.hi = whole.1 in
    let early : nat_lt x p.lo ≡ true = grind (arith, nat_tests) in
    pick_child id ss off x
    ∙ ap (λ u. pick id ss u x) (sym (cond-true (nat_lt x p.lo) off on early) ∙ part_last 0 p (drop (i + 1) side) x on off whole (omega arith) ∙ ap (λ js. cond (has js x) on off) (sym (drop_more side i d lt)))
    ∙ cut x le

pub cut-all : (side : List Iv) (top on off i : ℕ) (ss : List Step) → AreCut side top on off ss (drop i side) → length side ≤ i → (x : ℕ) → x ≤ top → child_at ss off x ≡ cond (has side x) on off
cut-all side top on off i ss cut le x w =
    pick_child (λ n. n) ss off x ∙ ap (λ js. pick (λ n. n) ss (cond (has js x) on off) x) (sym (drop_all i side le)) ∙ cut x w

-- points

pub within-length : (tops p : List ℕ) → IsWithin tops p → length p ≡ length tops
within-length [] [] w = refl
within-length [] (x ∷ p) w = absurd w
within-length (t ∷ ts) [] w = absurd w
within-length (t ∷ ts) (x ∷ p) w = let l = within-length ts p w.1 in omega arith

pub within_at : (tops p : List ℕ) (f : ℕ) → IsWithin tops p → f < length tops → get_or p f 0 ≤ get_or tops f 0
within_at [] p f w lt = absurd (omega arith)
within_at (t ∷ ts) [] f w lt = absurd w
within_at (t ∷ ts) (x ∷ p) zero w lt = w.0
within_at (t ∷ ts) (x ∷ p) (suc f) w lt = within_at ts p f w.1 (omega arith)

-- a mark's cell

both_cond : (a b : Bool) (n : ℕ) → cond a (cond b n 0) 0 ≡ cond (a && b) n 0
both_cond true b n = refl
both_cond false b n = refl

sides_step : (sides : List (List Iv)) (p : List ℕ) (f : ℕ) (d : List Iv) → f < length sides → f < length p → sides_have (drop f sides) (drop f p) ≡ (has (get_or sides f d) (get_or p f 0) && sides_have (drop (f + 1) sides) (drop (f + 1) p))
sides_step sides p f d ls lp = ap (λ ss. sides_have ss (drop f p)) (drop_more sides f d ls) ∙ ap (λ q. sides_have (get_or sides f d ∷ drop (f + 1) sides) q) (drop_more p f 0 lp)

held_cond : (cs : List Cell) (b : Bool) (m n : ℕ) (p : List ℕ) → held_at cs (cond b m n) p ≡ cond b (held_at cs m p) (held_at cs n p)
held_cond cs true m n p = refl
held_cond cs false m n p = refl

pub mark_held : (cs mid new : List Cell) (tops p : List ℕ) (sides : List (List Iv)) (d : List Iv) (f top on off last r leaf : ℕ) (ss : List Step) → IsWithin tops p → length tops ≡ 12 → length sides ≡ 12 → f < 12
    → top ≡ get_or tops f 0 → Extends cs mid → on < length cs
    → held_at cs on p ≡ cond (sides_have (drop (f + 1) sides) (drop (f + 1) p)) leaf 0 → held_at mid off p ≡ 0
    → ((x : ℕ) → x ≤ top → child_at ss last x ≡ cond (has (get_or sides f d) x) on off) → held_at new r p ≡ held_at mid (child_at ss last (get_or p f 0)) p
    → held_at new r p ≡ cond (sides_have (drop f sides) (drop f p)) leaf 0
mark_held cs mid new tops p sides d f top on off last r leaf ss w lt ls lf t e lo held none same cut =
    let side : List Iv = get_or sides f d in
    let x : ℕ = get_or p f 0 in
    let lp = within-length tops p w in
    let le = within_at tops p f w (omega arith) in
    let rest : Bool = sides_have (drop (f + 1) sides) (drop (f + 1) p) in
    cut ∙ ap (λ n. held_at mid n p) (same x (omega arith)) ∙ held_cond mid (has side x) on off p
    ∙ ap (λ n. cond (has side x) n (held_at mid off p)) (held-extends cs mid on p e lo ∙ held) ∙ ap (λ n. cond (has side x) (cond rest leaf 0) n) none
    ∙ both_cond (has side x) rest leaf ∙ ap (λ b. cond b leaf 0) (sym (sides_step sides p f d (omega arith) (omega arith)))

-- marks in two parts

over_mark : (b : Bool) (k n m o : ℕ) → 1 ≤ k → m ≡ over_leaf n o → cond b k m ≡ over_leaf (cond b k n) o
over_mark true k n m o le e = let ne : nat_eq k 0 ≡ false = grind (arith, nat_tests) in sym (cond-false (nat_eq k 0) o k ne)
over_mark false k n m o le e = e

-- marks over a rest
pub mark_at-over : (ms : List Mark) (rest : ℕ) (p : List ℕ) → mark_at ms rest p ≡ over_leaf (mark_at ms 0 p) rest
mark_at-over [] rest p = refl
mark_at-over (m ∷ ms) rest p = over_mark (sides_have (sides_of m) p) m.label (mark_at ms 0 p) (mark_at ms rest p) rest m.labelled (mark_at-over ms rest p)

mark_at-append : (xs ys : List Mark) (rest : ℕ) (p : List ℕ) → mark_at (xs ++ ys) rest p ≡ mark_at xs (mark_at ys rest p) p
mark_at-append [] ys rest p = refl
mark_at-append (m ∷ xs) ys rest p = ap (λ z. cond (sides_have (sides_of m) p) m.label z) (mark_at-append xs ys rest p)

pub before : (v : ℕ → ℕ) (ss ts : List Step) (lo node z x : ℕ) → 0 < lo → pick v ts z x ≡ pick v (ss ++ record { hi = lo - 1; node = node } ∷ []) z x → pick v ts z x ≡ pick v ss (cond (nat_lt x lo) (v node) z) x
before v ss ts lo node z x lt e =
    let t : nat_le x (lo - 1) ≡ nat_lt x lo = grind (arith, nat_tests) in
    e ∙ pick-push v ss (record { hi = lo - 1; node = node }) z x ∙ ap (λ b. pick v ss (cond b (v node) z) x) t

pub halves_held : (one two new : List Cell) (a b r n : ℕ) (p : List ℕ) (marks xs ys : List Mark) → Extends one two → a < length one → IsMerged (λ x y z. z ≡ over_leaf x y) two new a b r
    → held_at one a p ≡ mark_at xs 0 p → held_at two b p ≡ mark_at ys 0 p → xs ≡ take n marks → ys ≡ drop n marks → held_at new r p ≡ mark_at marks 0 p
halves_held one two new a b r n p marks xs ys e la merged ha hb x y =
    let all : xs ++ ys ≡ marks = ap (λ z. z ++ ys) x ∙ ap (λ z. take n marks ++ z) y ∙ take-append-drop n marks in
    merged p ∙ ap (λ z. over_leaf z (held_at two b p)) (held-extends one two a p e la ∙ ha) ∙ ap (λ z. over_leaf (mark_at xs 0 p) z) hb
    ∙ sym (mark_at-over xs (mark_at ys 0 p) p) ∙ sym (mark_at-append xs ys 0 p) ∙ ap (λ zs. mark_at zs 0 p) all

-- marks over a rest, as cells
pub marked_held : (one two new : List Cell) (a b r rest : ℕ) (p : List ℕ) (marks : List Mark) → Extends one two → a < length one → IsMerged (λ x y z. z ≡ over_leaf x y) two new a b r
    → held_at one a p ≡ mark_at marks 0 p → held_at two b p ≡ rest → held_at new r p ≡ mark_at marks rest p
marked_held one two new a b r rest p marks e la merged ha hb =
    merged p ∙ ap (λ z. over_leaf z (held_at two b p)) (held-extends one two a p e la ∙ ha) ∙ ap (λ z. over_leaf (mark_at marks 0 p) z) hb ∙ sym (mark_at-over marks rest p)

-- The first row's leaf, by its number.

leaf_cond : {L : Type 0} (leaves : List L) (b : Bool) (n m : ℕ) (x y : L) → slice_get leaves n ≡ Some x → slice_get leaves (m - 1) ≡ Some y → slice_get leaves (cond b (n + 1) m - 1) ≡ Some (cond b x y)
leaf_cond leaves true n m x y here next = let e : n + 1 - 1 ≡ n = omega arith in ap (λ z. slice_get leaves z) e ∙ here
leaf_cond leaves false n m x y here next = next

pub leaf_of_first : {L : Type 0} (leaves : List L) (rows : List (Row L)) (marks : List Mark) (numbers : List ℕ) (k : ℕ) (rest : L) (p : List ℕ) → AreNumbersOf leaves numbers rows → map sides_of marks ≡ map (λ (r : Row L). r.sides) rows
    → map (λ (m : Mark). m.label) marks ≡ map (λ n. n + 1) numbers → slice_get leaves k ≡ Some rest → slice_get leaves (mark_at marks (k + 1) p - 1) ≡ Some (first_leaf rows rest p)
leaf_of_first leaves [] [] numbers k rest p h s l at = let e : k + 1 - 1 ≡ k = omega arith in ap (λ z. slice_get leaves z) e ∙ at
leaf_of_first leaves [] (m ∷ marks) numbers k rest p h s l at = absurd (cc)
leaf_of_first leaves (r ∷ rows) [] numbers k rest p h s l at = absurd (cc)
leaf_of_first leaves (r ∷ rows) (m ∷ marks) [] k rest p h s l at = absurd (cc)
leaf_of_first {L} leaves (r ∷ rows) (m ∷ marks) (n ∷ numbers) k rest p h s l at =
    let here : slice_get leaves n ≡ Some r.leaf = cc in
    let more : AreNumbersOf leaves numbers rows = cc in
    let sides : sides_of m ≡ r.sides = cc in
    let label : m.label ≡ n + 1 = cc in
    let others : map sides_of marks ≡ map (λ (w : Row L). w.sides) rows = cc in
    let labels : map (λ (w : Mark). w.label) marks ≡ map (λ i. i + 1) numbers = cc in
    ap (λ z. slice_get leaves (cond (sides_have z p) m.label (mark_at marks (k + 1) p) - 1)) sides ∙ ap (λ z. slice_get leaves (cond (sides_have r.sides p) z (mark_at marks (k + 1) p) - 1)) label
    ∙ leaf_cond leaves (sides_have r.sides p) n (mark_at marks (k + 1) p) r.leaf (first_leaf rows rest p) here (leaf_of_first leaves rows marks numbers k rest p more others labels at)

-- the leaf at the place of the first row's value
pub leaf_at_place : {L : Type 0} (leaves keys : List L) (rows : List (Row L)) (marks all : List Mark) (numbers numbered places slice : List ℕ) (k held : ℕ) (rest : L) (p : List ℕ) → leaves ≡ keys → AreNumbersOf keys numbers rows → numbered ≡ numbers
    → map sides_of marks ≡ map (λ (r : Row L). r.sides) rows → map (λ (m : Mark). m.label) marks ≡ map (λ n. n + 1) numbered → all ≡ marks → slice_get keys k ≡ Some rest
    → slice ≡ places → places ≡ k ∷ range_with_len 0 (length leaves) → held ≡ mark_at all 0 p → slice_get leaves (get_or slice held 0) ≡ Some (first_leaf rows rest p)
leaf_at_place leaves keys rows marks all numbers numbered places slice k held rest p e h same sides labels given at f is here =
    let z : ℕ = mark_at marks 0 p in
    let place : mark_at marks (k + 1) p - 1 ≡ over_leaf z (k + 1) - 1 = ap (λ n. n - 1) (mark_at-over marks (k + 1) p) in
    let there : slice_get leaves (over_leaf z (k + 1) - 1) ≡ Some (first_leaf rows rest p) = ap (λ xs. slice_get xs (over_leaf z (k + 1) - 1)) e ∙ ap (λ n. slice_get keys n) (sym place)
    ∙ leaf_of_first keys rows marks numbers k rest p h sides (labels ∙ ap (λ ns. map (λ n. n + 1) ns) same) at in
    let lt = slice_get_within leaves (over_leaf z (k + 1) - 1) (first_leaf rows rest p) there in
    ap (slice_get leaves) (ap (λ ps. get_or ps held 0) (f ∙ is) ∙ ap (λ n. get_or (k ∷ range_with_len 0 (length leaves)) n 0) (here ∙ ap (λ ms. mark_at ms 0 p) given) ∙ place_behind z k (length leaves) lt) ∙ there
