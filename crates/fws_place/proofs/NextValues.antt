-- The next value of a side.
use Rattle.std.proofs.Common.{◌≡◌, ℕ, zero, suc, ◌+◌, ◌<◌, ◌≤◌, max, Bool, true, false, ◌&&◌, ◌||◌, List, [], ◌∷◌, refl, ◌∙◌, ap, subst, arith, length, get_or, drop, drop-cons}
use Rattle.std.proofs.lemmas.Bool.{le-leb, and_from, or_left}
use Rattle.std.proofs.lemmas.Bool.Decides.{nat_tests}
use Rattle.std.proofs.lemmas.List.{drop_all}
use Rattle.std.specs.Prelude.{nat_le}
use Rattle.fws_iv.specs.declared.iv.Iv.{Iv}
use Rattle.fws_iv.specs.Ivs.{has, in_part, IsRegular, IsRegularFrom}
use Rattle.fws_place.specs.Gathered.{HasNone, IsNext}

-- a test of two is false where both are
neither : (a b : Bool) → a ≡ false → b ≡ false → (a || b) ≡ false
neither a b p q = rw (p, q) refl

-- where a test before another is false, both are
not_first : (a b : Bool) → a ≡ false → (a && b) ≡ false
not_first a b p = rw p refl

not_le : (x y : ℕ) → y < x → nat_le x y ≡ false
not_le x y lt = grind (arith, nat_tests)

-- no value stands before the first interval
none_below : (k y : ℕ) (s : List Iv) → IsRegularFrom k s → y < k → has s y ≡ false
none_below k y [] r lt = refl
none_below k y (x ∷ s) r lt =
    let le : k ≤ x.lo = r.0 in
    let order : x.lo ≤ x.hi = r.1 in
    neither (in_part x y) (has s y) (not_first (nat_le x.lo y) (nat_le y x.hi) (not_le x.lo y (omega arith))) (none_below (x.hi + 2) y s r.2 (omega arith))

-- intervals from a place on are regular
regular_rest : (k i : ℕ) (s : List Iv) → IsRegularFrom k s → (j : ℕ) × IsRegularFrom j (drop i s)
regular_rest k zero s r = (k, r)
regular_rest k (suc i) [] r = (k, tt)
regular_rest k (suc i) (x ∷ s) r = regular_rest (x.hi + 2) i s r.2

-- the least value from a number on that the first interval reaches
first_of : (x : Iv) (s : List Iv) (j from v : ℕ) → IsRegularFrom j (x ∷ s) → from ≤ x.hi → v ≡ max x.lo from
    → (from ≤ v) × (has (x ∷ s) v ≡ true) × ((y : ℕ) → from ≤ y → y < v → has (x ∷ s) y ≡ false)
first_of x s j from v r reaches e =
    let order : x.lo ≤ x.hi = r.1 in (
      omega arith,
      or_left (in_part x v) (has s v) (and_from (nat_le x.lo v) (nat_le v x.hi) (le-leb x.lo v (omega arith)) (le-leb v x.hi (omega arith))),
      λ y le lt. neither (in_part x y) (has s y) (not_first (nat_le x.lo y) (nat_le y x.hi) (not_le x.lo y (omega arith))) (none_below (x.hi + 2) y s r.2 (omega arith)),
    )

-- among all intervals
next_at : (s : List Iv) (d : Iv) (at from v : ℕ) → IsRegular s → at < length s → from ≤ (get_or s at d).hi
    → ((w : ℕ) → from ≤ w → has s w ≡ has (drop at s) w) → v ≡ max (get_or s at d).lo from
    → (from ≤ v) × (has s v ≡ true) × ((y : ℕ) → from ≤ y → y < v → has s y ≡ false)
next_at s d at from v regular lt reaches members e =
    let rest = regular_rest 0 at s regular in
    let split : drop at s ≡ get_or s at d ∷ drop (suc at) s = drop-cons s at d lt in
    let found = first_of (get_or s at d) (drop (suc at) s) rest.0 from v (subst (IsRegularFrom rest.0) split rest.1) reaches e in (
      found.0,
      members v found.0 ∙ ap (λ l. has l v) split ∙ found.1,
      λ y le below. members y le ∙ ap (λ l. has l y) split ∙ found.2 y le below,
    )

-- it is the next one, unless it is past the top
pub next_is : (s : List Iv) (d : Iv) (at from top v : ℕ) → IsRegular s → at < length s → from ≤ (get_or s at d).hi
    → ((w : ℕ) → from ≤ w → has s w ≡ has (drop at s) w) → v ≡ max (get_or s at d).lo from → v ≤ top → IsNext s from top v
next_is s d at from top v regular lt reaches members e low =
    let found = next_at s d at from v regular lt reaches members e in
    record { begun = found.0; within = low; there = found.1; first = found.2 }

pub none_next : (s : List Iv) (d : Iv) (at from top v : ℕ) → IsRegular s → at < length s → from ≤ (get_or s at d).hi
    → ((w : ℕ) → from ≤ w → has s w ≡ has (drop at s) w) → v ≡ max (get_or s at d).lo from → top < v → HasNone s from top
none_next s d at from top v regular lt reaches members e high x le low =
    let found = next_at s d at from v regular lt reaches members e in
    found.2 x le (omega arith)

-- no interval reaches the number
pub none_reaching : (s : List Iv) (at from top : ℕ) → length s ≤ at → ((w : ℕ) → from ≤ w → has s w ≡ has (drop at s) w) → HasNone s from top
none_reaching s at from top le members x low high = members x low ∙ ap (λ l. has l x) (drop_all at s le)
