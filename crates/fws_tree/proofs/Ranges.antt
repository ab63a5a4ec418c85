-- Regular lists of ranges, and numbers that are or aren't among theirs.
use Rattle.std.proofs.Common.{◌≡◌, ℕ, zero, suc, ◌+◌, ◌<◌, ◌≤◌, Bool, true, false, ◌||◌, List, [], ◌∷◌, ◌++◌, inl, inr, refl, sym, ◌∙◌, subst, arith, get_or, drop, length, nat_le}
use Rattle.std.proofs.lemmas.Bool.{le-leb, leb-true, lt-leb, and_from, and_left, or_left, or_right, or_from, cases_Bool}
use Rattle.std.proofs.lemmas.List.{drop_more}
use Rattle.fws_iv.specs.declared.iv.Iv.{Iv}
use Rattle.fws_iv.specs.Ivs.{in_part, has, IsRegularFrom}

-- no number of a list is below the one that the list begins at
none_below : (l : ℕ) (xs : List Iv) (v : ℕ) → IsRegularFrom l xs → v < l → has xs v ≡ false
none_below l [] v r lt = refl
none_below l (x ∷ xs) v r lt =
    or_from (in_part x v) (has xs v) (and_left (nat_le x.lo v) (nat_le v x.hi) (lt-leb x.lo v (omega (arith, r)))) (none_below (x.hi + 2) xs v r.2 (omega (arith, r)))

in_range : (x : Iv) (v : ℕ) → x.lo ≤ v → v ≤ x.hi → in_part x v ≡ true
in_range x v a b = and_from (nat_le x.lo v) (nat_le v x.hi) (le-leb x.lo v a) (le-leb v x.hi b)

-- of a number that the first range doesn't end before, that range decides
pub front_decides : (l : ℕ) (x : Iv) (xs : List Iv) (v : ℕ) → IsRegularFrom l (x ∷ xs) → v ≤ x.hi → nat_le x.lo v ≡ has (x ∷ xs) v
front_decides l x xs v r le = elim (cases_Bool (nat_le x.lo v)) [
  | inl t ↦ t ∙ sym (or_left (in_part x v) (has xs v) (in_range x v (leb-true x.lo v t) le))
  | inr f ↦ f ∙ sym (or_from (in_part x v) (has xs v) (and_left (nat_le x.lo v) (nat_le v x.hi) f) (none_below (x.hi + 2) xs v r.2 (omega arith)))
]

-- what is left of a regular list from a place on
regular_behind : (l : ℕ) (xs : List Iv) (n : ℕ) → IsRegularFrom l xs → IsRegularFrom l (drop n xs)
regular_behind l [] zero r = tt
regular_behind l [] (suc n) r = tt
regular_behind l (x ∷ xs) zero r = r
regular_behind l (x ∷ xs) (suc n) r = sooner (x.hi + 2) (drop n xs) (omega (arith, r)) (regular_behind (x.hi + 2) xs n r.2)
  where
    sooner : (m : ℕ) (ys : List Iv) → l ≤ m → IsRegularFrom m ys → IsRegularFrom l ys
    sooner m [] le q = tt
    sooner m (y ∷ ys) le q = (omega (arith, q), q.1, q.2)

-- the range at a place, and what is left behind it
pub regular_from : (l : ℕ) (xs : List Iv) (i : ℕ) (d : Iv) → i < length xs → IsRegularFrom l xs → IsRegularFrom l (get_or xs i d ∷ drop (i + 1) xs)
regular_from l xs i d lt r = subst (λ s. IsRegularFrom l s) (drop_more xs i d lt) (regular_behind l xs i r)

-- a range more takes no number away
pub still_has : (s : List Iv) (y : Iv) (v : ℕ) → has s v ≡ true → has (s ++ y ∷ []) v ≡ true
still_has [] y v h = absurd (cc)
still_has (x ∷ s) y v h = elim (cases_Bool (in_part x v)) [
  | inl t ↦ or_left (in_part x v) (has (s ++ y ∷ []) v) t
  | inr f ↦ or_right (in_part x v) (has (s ++ y ∷ []) v) (still_has s y v (rest (in_part x v) (has s v) f h))
]
  where
    rest : (a b : Bool) → a ≡ false → (a || b) ≡ true → b ≡ true
    rest false b f h = h
    rest true b f h = absurd (cc)

-- a range more brings its numbers
pub has_last : (s : List Iv) (y : Iv) (v : ℕ) → y.lo ≤ v → v ≤ y.hi → has (s ++ y ∷ []) v ≡ true
has_last [] y v lo hi = or_left (in_part y v) false (in_range y v lo hi)
has_last (x ∷ s) y v lo hi = or_right (in_part x v) (has (s ++ y ∷ []) v) (has_last s y v lo hi)
