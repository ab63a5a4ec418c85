-- One value in place of others.
use Rattle.std.proofs.Common.{◌≡◌, ◌<◌, ℕ, Bool, true, false, not, cond, nat_eq, List, Some, slice_get, refl, sym, ◌∙◌, ap}
use mathlib.Core.Bool.{beq}
use Rattle.std.proofs.lemmas.Bool.{false≢true}
use Rattle.fws_tree.specs.Changed.{replaced, changed_value}
use Rattle.fws_tree.specs.declared.replace.Replace.{Replace}
use Rattle.fws_tree.specs.declared.store.Cell.{Cell}
use Rattle.fws_tree.specs.declared.store.Cell.TheVariants.{Leaf}
use Rattle.fws_tree.specs.Held.{AreOrderedFrom, held_at}
use Rattle.fws_tree.proofs.Cells.{held_cell}

replaced_label : (marked h : Bool) (v x : ℕ) → replaced marked v x (cond h 1 0) ≡ changed_value marked h v x
replaced_label true true v x = refl
replaced_label true false v x = refl
replaced_label false true v x = refl
replaced_label false false v x = refl

-- what stands where a mark is 1 within sides
pub replaced_value : (s t : Replace) (h : Bool) (x y k : ℕ) → s ≡ t → y ≡ cond h 1 0 → k ≡ replaced t.marked t.value x y → k ≡ changed_value s.marked h s.value x
replaced_value s t h x y k later label e =
    e ∙ ap (λ r. replaced r.marked r.value x y) (sym later) ∙ ap (replaced s.marked s.value x) label ∙ replaced_label s.marked h s.value x

-- the leaf at the place that stands there
pub changed_there : {L : Type 0} (made : List L) (marked h : Bool) (v k : ℕ) → slice_get made (changed_value marked h v k) ≡ changed_value marked h (slice_get made v) (slice_get made k)
changed_there made true true v k = refl
changed_there made true false v k = refl
changed_there made false true v k = refl
changed_there made false false v k = refl

pub changed_below : (marked h : Bool) (v k n : ℕ) → v < n → k < n → changed_value marked h v k < n
changed_below true true v k n a b = a
changed_below true false v k n a b = b
changed_below false true v k n a b = b
changed_below false false v k n a b = a

-- ---- where the mark is a leaf

stays : (marked : Bool) (v x y : ℕ) → not (beq (not (nat_eq y 0)) marked) ≡ true → x ≡ replaced marked v x y
stays true v x y h = by (nat_eq y 0) h
  where
    by : (b : Bool) → not (beq (not b) true) ≡ true → x ≡ cond b x v
    by true h = refl
    by false h = absurd (false≢true h)
stays false v x y h = by (nat_eq y 0) h
  where
    by : (b : Bool) → not (beq (not b) false) ≡ true → x ≡ cond b v x
    by true h = absurd (false≢true h)
    by false h = refl

goes : (marked : Bool) (v x y : ℕ) → not (beq (not (nat_eq y 0)) marked) ≡ false → v ≡ replaced marked v x y
goes true v x y h = by (nat_eq y 0) h
  where
    by : (b : Bool) → not (beq (not b) true) ≡ false → v ≡ cond b x v
    by true h = absurd (false≢true (sym h))
    by false h = refl
goes false v x y h = by (nat_eq y 0) h
  where
    by : (b : Bool) → not (beq (not b) false) ≡ false → v ≡ cond b v x
    by true h = refl
    by false h = absurd (false≢true (sym h))

pub mark_stays : (cs : List Cell) (a b n v : ℕ) (marked : Bool) (c : Cell) (p : List ℕ) → AreOrderedFrom 0 cs → slice_get cs b ≡ Some c → c ≡ Leaf n → not (beq (not (nat_eq n 0)) marked) ≡ true
    → held_at cs a p ≡ replaced marked v (held_at cs a p) (held_at cs b p)
mark_stays cs a b n v marked c p h is e t = stays marked v (held_at cs a p) n t ∙ ap (replaced marked v (held_at cs a p)) (sym (held_cell cs b (Leaf n) p h (is ∙ ap Some e)))

pub mark_goes : (cs new : List Cell) (a b n v r : ℕ) (marked : Bool) (c : Cell) (p : List ℕ) → AreOrderedFrom 0 cs → slice_get cs b ≡ Some c → c ≡ Leaf n → not (beq (not (nat_eq n 0)) marked) ≡ false → held_at new r p ≡ v
    → held_at new r p ≡ replaced marked v (held_at cs a p) (held_at cs b p)
mark_goes cs new a b n v r marked c p h is e t at = at ∙ goes marked v (held_at cs a p) n t ∙ ap (replaced marked v (held_at cs a p)) (sym (held_cell cs b (Leaf n) p h (is ∙ ap Some e)))
