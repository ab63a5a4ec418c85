-- Sides of rows and their points.
use Rattle.std.proofs.Common.{◌≡◌, ℕ, zero, suc, ◌+◌, ◌<◌, ◌≤◌, below_more, true, List, [], ◌∷◌, length, refl, sym, ◌∙◌, ap, subst, arith}
use Rattle.std.proofs.lemmas.Bool.{and_parts, and_from}
use Rattle.std.specs.Prelude.{slice_index, slice_index_or, slice_set}
use Rattle.fws_box.specs.Sides.{IsWithin, sides_have, whole_sides}
use Rattle.fws_iv.specs.declared.iv.Iv.{Iv}
use Rattle.fws_iv.specs.Ivs.{has}
use Rattle.fws_net.specs.declared.packet.State.{State}
use Rattle.fws_net.specs.declared.packet.State.TheVariants.{Fresh, Est}
use Rattle.fws_dead.specs.Points.{bounds, AreTops}
use Rattle.fws_dead.specs.Rows.{IsRow}
use Rattle.fws_dead.proofs.Sets.{up_to, has_up_to}

-- ---- lists

pub set_there : {A : Type 0} (x : List A) (f : ℕ) (v d : A) → f < length x → slice_index_or (slice_set x f v) f d ≡ v
set_there [] f v d lt = absurd (omega arith)
set_there (a ∷ x) zero v d lt = refl
set_there (a ∷ x) (suc f) v d lt = set_there x f v d (omega arith)

pub set_other : {A : Type 0} (x : List A) (f : ℕ) (v d : A) (g : ℕ) → (g ≡ f → ⊥) → slice_index_or (slice_set x f v) g d ≡ slice_index_or x g d
set_other [] f v d g ne = refl
set_other (a ∷ x) zero v d zero ne = absurd (ne refl)
set_other (a ∷ x) zero v d (suc g) ne = refl
set_other (a ∷ x) (suc f) v d zero ne = refl
set_other (a ∷ x) (suc f) v d (suc g) ne = set_other x f v d g (λ e. ne (ap suc e))

pub set_length : {A : Type 0} (x : List A) (f : ℕ) (v : A) → length (slice_set x f v) ≡ length x
set_length [] f v = refl
set_length (a ∷ x) zero v = refl
set_length (a ∷ x) (suc f) v = ap suc (set_length x f v)

-- ---- points within tops

pub set_within : (tops x : List ℕ) (f v : ℕ) → IsWithin tops x → v ≤ slice_index tops f → IsWithin tops (slice_set x f v)
set_within [] [] f v within le = within
set_within [] (a ∷ x) f v within le = absurd within
set_within (top ∷ tops) [] f v within le = absurd within
set_within (top ∷ tops) (a ∷ x) zero v within le = (le, within.1)
set_within (top ∷ tops) (a ∷ x) (suc f) v within le = (within.0, set_within tops x f v within.1 le)

pub within_length : (tops x : List ℕ) → IsWithin tops x → length tops ≡ length x
within_length [] [] a = refl
within_length [] (x ∷ p) a = absurd a
within_length (top ∷ tops) [] a = absurd a
within_length (top ∷ tops) (x ∷ p) a = ap suc (within_length tops p a.1)

pub within_at : (tops x : List ℕ) (f : ℕ) → IsWithin tops x → slice_index x f ≤ slice_index tops f
within_at [] [] f a = omega arith
within_at [] (x ∷ p) f a = absurd a
within_at (top ∷ tops) [] f a = absurd a
within_at (top ∷ tops) (x ∷ p) zero a = a.0
within_at (top ∷ tops) (x ∷ p) (suc f) a = within_at tops p f a.1

-- lower tops
low_within : (tops p : List ℕ) (f : ℕ) → IsWithin (slice_set tops f 0) p → IsWithin tops p
low_within [] p f w = w
low_within (top ∷ tops) [] zero w = absurd w
low_within (top ∷ tops) [] (suc f) w = absurd w
low_within (top ∷ tops) (x ∷ p) zero w = ((let z : x ≤ 0 = w.0 in omega arith), w.1)
low_within (top ∷ tops) (x ∷ p) (suc f) w = (w.0, low_within tops p f w.1)

low_at : (tops : List ℕ) (f k : ℕ) → slice_index (slice_set tops f 0) k ≤ slice_index tops k
low_at [] f k = omega arith
low_at (top ∷ tops) zero zero = omega arith
low_at (top ∷ tops) zero (suc k) = omega arith
low_at (top ∷ tops) (suc f) zero = omega arith
low_at (top ∷ tops) (suc f) (suc k) = low_at tops f k

pub bounds_within : (state : State) (tops p : List ℕ) → IsWithin (bounds state tops) p → IsWithin tops p
bounds_within Fresh tops p w =
    let a : List ℕ = slice_set tops 8 0 in
    let b : List ℕ = slice_set a 9 0 in
    let c : List ℕ = slice_set b 10 0 in
    low_within tops p 8 (low_within a p 9 (low_within b p 10 (low_within c p 11 w)))
bounds_within Est tops p w = w

bounds_at : (state : State) (tops : List ℕ) (k : ℕ) → slice_index (bounds state tops) k ≤ slice_index tops k
bounds_at Fresh tops k =
    let a : List ℕ = slice_set tops 8 0 in
    let b : List ℕ = slice_set a 9 0 in
    let c : List ℕ = slice_set b 10 0 in
    let p = low_at tops 8 k in
    let q = low_at a 9 k in
    let r = low_at b 10 k in
    let s = low_at c 11 k in
    omega (arith, p, q, r, s)
bounds_at Est tops k = omega arith

bounds_length : (state : State) (tops : List ℕ) → length (bounds state tops) ≡ length tops
bounds_length Fresh tops =
    let a : List ℕ = slice_set tops 8 0 in
    let b : List ℕ = slice_set a 9 0 in
    let c : List ℕ = slice_set b 10 0 in
    set_length c 11 0 ∙ set_length b 10 0 ∙ set_length a 9 0 ∙ set_length tops 8 0
bounds_length Est tops = refl

-- ---- points of sides

pub side_has : (sides : List (List Iv)) (p : List ℕ) (k : ℕ) → sides_have sides p ≡ true → k < length sides → has (slice_index_or sides k []) (slice_index p k) ≡ true
side_has [] p k e lt = absurd (omega arith)
side_has (s ∷ sides) [] k e lt = absurd (cc)
side_has (s ∷ sides) (x ∷ p) zero e lt = (and_parts (has s x) (sides_have sides p) e).0
side_has (s ∷ sides) (x ∷ p) (suc k) e lt = side_has sides p k (and_parts (has s x) (sides_have sides p) e).1 (omega arith)

-- with another member of one side
pub had_with : (sides : List (List Iv)) (p : List ℕ) (k x : ℕ) → sides_have sides p ≡ true → has (slice_index_or sides k []) x ≡ true → sides_have sides (slice_set p k x) ≡ true
had_with [] p k x e h = refl
had_with (s ∷ sides) [] k x e h = absurd (cc)
had_with (s ∷ sides) (y ∷ p) zero x e h = and_from (has s x) (sides_have sides p) h (and_parts (has s y) (sides_have sides p) e).1
had_with (s ∷ sides) (y ∷ p) (suc k) x e h =
    let parts = and_parts (has s y) (sides_have sides p) e in
    and_from (has s y) (sides_have sides (slice_set p k x)) parts.0 (had_with sides p k x parts.1 h)

-- with a side that has the value of the point
pub had_narrowed : (sides : List (List Iv)) (f : ℕ) (set : List Iv) (p : List ℕ) → sides_have sides p ≡ true → has set (slice_index p f) ≡ true → sides_have (slice_set sides f set) p ≡ true
had_narrowed [] f set p e h = refl
had_narrowed (s ∷ sides) f set [] e h = absurd (cc)
had_narrowed (s ∷ sides) zero set (x ∷ p) e h = and_from (has set x) (sides_have sides p) h (and_parts (has s x) (sides_have sides p) e).1
had_narrowed (s ∷ sides) (suc f) set (x ∷ p) e h =
    let parts = and_parts (has s x) (sides_have sides p) e in
    and_from (has s x) (sides_have (slice_set sides f set) p) parts.0 (had_narrowed sides f set p parts.1 h)

-- with the whole ranges
pub whole_have : (tops p : List ℕ) → IsWithin tops p → sides_have (whole_sides tops) p ≡ true
whole_have [] [] w = refl
whole_have [] (x ∷ p) w = absurd w
whole_have (top ∷ tops) [] w = absurd w
whole_have (top ∷ tops) (x ∷ p) w = and_from _ _ (has_up_to top x w.0) (whole_have tops p w.1)

pub whole_within : (tops p : List ℕ) → length tops ≡ length p → sides_have (whole_sides tops) p ≡ true → IsWithin tops p
whole_within [] [] n e = tt
whole_within [] (x ∷ p) n e = absurd (omega arith)
whole_within (top ∷ tops) [] n e = absurd (omega arith)
whole_within (top ∷ tops) (x ∷ p) n e =
    let parts = and_parts _ _ e in (up_to top x parts.0, whole_within tops p (omega arith) parts.1)

whole_length : (tops : List ℕ) → length (whole_sides tops) ≡ length tops
whole_length [] = refl
whole_length (top ∷ tops) = ap suc (whole_length tops)

whole_at : (tops : List ℕ) (k v : ℕ) → has (slice_index_or (whole_sides tops) k []) v ≡ true → v ≤ slice_index tops k
whole_at [] k v h = absurd (cc)
whole_at (top ∷ tops) zero v h = up_to top v h
whole_at (top ∷ tops) (suc k) v h = whole_at tops k v h

-- ---- rows

-- the whole ranges are a row
pub whole_row : (state : State) (tops : List ℕ) → AreTops tops → IsRow tops (whole_sides (bounds state tops))
whole_row state tops are = record {
  tops_are = are;
  twelve = whole_length (bounds state tops) ∙ bounds_length state tops ∙ ap length are.1;
  within = λ k v h. let a = whole_at (bounds state tops) k v h in let b = bounds_at state tops k in omega (arith, a, b);
}

-- and what is within them lies within the bounds
pub whole_bounds : (state : State) (tops p : List ℕ) → IsWithin tops p → sides_have (whole_sides (bounds state tops)) p ≡ true → IsWithin (bounds state tops) p
whole_bounds state tops p w e = whole_within (bounds state tops) p (bounds_length state tops ∙ within_length tops p w) e

-- sides that have each value of a point have the point
pub had_all : (sides : List (List Iv)) (p : List ℕ) → length sides ≡ length p → ((k : ℕ) → k < length sides → has (slice_index_or sides k []) (slice_index p k) ≡ true) → sides_have sides p ≡ true
had_all [] p n each = refl
had_all (s ∷ sides) [] n each = absurd (omega arith)
had_all (s ∷ sides) (x ∷ p) n each = and_from (has s x) (sides_have sides p) (each 0 (omega arith)) (had_all sides p (omega arith) (λ k lt. each (suc k) (omega arith)))

-- one value more
pub values_more : (sides : List (List Iv)) (point : List ℕ) (n v : ℕ) → length point ≡ 12 → n < 12 → ((k : ℕ) → k < n → has (slice_index_or sides k []) (slice_index point k) ≡ true)
    → has (slice_index_or sides n []) v ≡ true → (k : ℕ) → k < n + 1 → has (slice_index_or sides k []) (slice_index (slice_set point n v) k) ≡ true
values_more sides point n v twelve lt so-far here =
    let P : ℕ → Type 0 = λ k. has (slice_index_or sides k []) (slice_index (slice_set point n v) k) ≡ true in
    below_more P n
    (λ k low. let other : slice_index (slice_set point n v) k ≡ slice_index point k = set_other point n v 0 k (λ e. omega (arith, e, low)) in
    subst (λ x. has (slice_index_or sides k []) x ≡ true) (sym other) (so-far k low))
    (let there : slice_index (slice_set point n v) n ≡ v = set_there point n v 0 (omega (arith, twelve)) in
    subst (λ x. has (slice_index_or sides n []) x ≡ true) (sym there) here)
