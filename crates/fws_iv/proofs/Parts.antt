-- Regular lists of intervals and their members.
use Rattle.std.proofs.Common.{◌≡◌, ℕ, zero, suc, ◌+◌, ◌-◌, ◌<◌, ◌≤◌, Bool, true, false, ◌||◌, List, [], ◌∷◌, inl, inr, refl, sym, ◌∙◌, ap, subst, arith, get_or, set, take, drop, length, nat_le, max, Some, unwrap_or, ◌++◌}
use Rattle.std.proofs.lemmas.Bool.{le-leb, leb-true, leb-false, lt-leb, or_cases, and_parts, and_from, or_left, or_right, or_from, cases_Bool, and_left, and_right}
use Rattle.std.proofs.lemmas.Bool.Decides.{nat_tests}
use Rattle.std.proofs.lemmas.List.{drop_more, at_drop_more, take-append-drop, take_rest}
use Rattle.std.proofs.lemmas.List.Elements.{All-head}
use Rattle.std.proofs.lemmas.List.Folds.{list_any-append}
use Rattle.fws_iv.specs.declared.iv.Iv.{Iv}
use Rattle.fws_iv.specs.Ivs.{in_part, has, AreRanges, IsRegular, IsRegularFrom, past, last_start, least}

or_false : (a : Bool) → (a || false) ≡ a
or_false true = refl
or_false false = refl

or_swap : (a b c : Bool) → (a || (b || c)) ≡ ((a || b) || c)
or_swap true b c = refl
or_swap false b c = refl

or_end : (a b : Bool) → ((a || b) || false) ≡ ((a || false) || b)
or_end true b = refl
or_end false b = or_false b

pub in_part-from : (x : Iv) (v : ℕ) → x.lo ≤ v → v ≤ x.hi → in_part x v ≡ true
in_part-from x v a b = and_from (nat_le x.lo v) (nat_le v x.hi) (le-leb x.lo v a) (le-leb v x.hi b)

pub in_part-true : (x : Iv) (v : ℕ) → in_part x v ≡ true → (x.lo ≤ v) × (v ≤ x.hi)
in_part-true x v h = let p = and_parts (nat_le x.lo v) (nat_le v x.hi) h in (leb-true x.lo v p.0, leb-true v x.hi p.1)

pub in_part-below : (x : Iv) (v : ℕ) → v < x.lo → in_part x v ≡ false
in_part-below x v h = and_left (nat_le x.lo v) (nat_le v x.hi) (lt-leb x.lo v h)

pub in_part-above : (x : Iv) (v : ℕ) → x.hi < v → in_part x v ≡ false
in_part-above x v h = and_right (nat_le x.lo v) (nat_le v x.hi) (lt-leb v x.hi h)

-- a list that may begin at l may begin sooner
pub sooner : (m l : ℕ) (xs : List Iv) → m ≤ l → IsRegularFrom l xs → IsRegularFrom m xs
sooner m l [] le r = tt
sooner m l (x ∷ xs) le r = (omega (arith, r), r.1, r.2)

-- no member is below the number that the list begins at
pub has-from : (l : ℕ) (xs : List Iv) → IsRegularFrom l xs → (v : ℕ) → has xs v ≡ true → l ≤ v
has-from l [] r v e = absurd (cc)
has-from l (x ∷ xs) r v e = elim (or_cases (in_part x v) (has xs v) e) [
  | inl a ↦ let p = in_part-true x v a in omega (arith, r, p)
  | inr b ↦ let k = has-from (x.hi + 2) xs r.2 v b in omega (arith, r, k)
]

pub has_below : (l : ℕ) (xs : List Iv) → IsRegularFrom l xs → (v : ℕ) → v < l → has xs v ≡ false
has_below l xs r v lt = elim (cases_Bool (has xs v)) [
  | inl t ↦ let k = has-from l xs r v t in absurd (omega arith)
  | inr f ↦ f
]

-- at a number that the first interval does not end before, that interval decides
pub first_decides : (l : ℕ) (x : Iv) (xs : List Iv) (v : ℕ) → IsRegularFrom l (x ∷ xs) → v ≤ x.hi → nat_le x.lo v ≡ has (x ∷ xs) v
first_decides l x xs v r le = elim (cases_Bool (nat_le x.lo v)) [
  | inl t ↦ t ∙ sym (or_left (in_part x v) (has xs v) (in_part-from x v (leb-true x.lo v t) le))
  | inr f ↦ f ∙ sym (or_from (in_part x v) (has xs v) (in_part-below x v (leb-false x.lo v f)) (has_below (x.hi + 2) xs r.2 v (omega arith)))
]

-- what is left of a regular list from an index on
pub regular-drop : (l : ℕ) (xs : List Iv) (n : ℕ) → IsRegularFrom l xs → IsRegularFrom l (drop n xs)
regular-drop l [] zero r = tt
regular-drop l [] (suc n) r = tt
regular-drop l (x ∷ xs) zero r = r
regular-drop l (x ∷ xs) (suc n) r = sooner l (x.hi + 2) (drop n xs) (omega (arith, r)) (regular-drop (x.hi + 2) xs n r.2)

pub regular_at : (l : ℕ) (xs : List Iv) (i : ℕ) (d : Iv) → i < length xs → IsRegularFrom l (drop i xs) → IsRegularFrom l (get_or xs i d ∷ drop (i + 1) xs)
regular_at l xs i d lt r = subst (λ s. IsRegularFrom l s) (drop_more xs i d lt) r

pub has_at : (xs : List Iv) (i : ℕ) (d : Iv) (v : ℕ) → i < length xs → has (drop i xs) v ≡ (in_part (get_or xs i d) v || has (drop (i + 1) xs) v)
has_at xs i d v lt = at_drop_more (λ s. has s v) xs i d lt

-- the ends rise
pub ends_from : (l : ℕ) (xs : List Iv) → IsRegularFrom l xs → (j : ℕ) (d : Iv) → j < length xs → l ≤ (get_or xs j d).hi
ends_from l [] r j d lt = absurd (omega arith)
ends_from l (x ∷ xs) r zero d lt = omega (arith, r)
ends_from l (x ∷ xs) r (suc j) d lt = let k = ends_from (x.hi + 2) xs r.2 j d (omega arith) in omega (arith, r, k)

pub ends_rise : (l : ℕ) (xs : List Iv) → IsRegularFrom l xs → (i j : ℕ) (d : Iv) → i ≤ j → j < length xs → (get_or xs i d).hi ≤ (get_or xs j d).hi
ends_rise l [] r i j d le lt = absurd (omega arith)
ends_rise l (x ∷ xs) r zero zero d le lt = omega arith
ends_rise l (x ∷ xs) r zero (suc j) d le lt = let k = ends_from (x.hi + 2) xs r.2 j d (omega arith) in omega (arith, k)
ends_rise l (x ∷ xs) r (suc i) zero d le lt = absurd (omega arith)
ends_rise l (x ∷ xs) r (suc i) (suc j) d le lt = ends_rise (x.hi + 2) xs r.2 i j d (omega arith) (omega arith)

-- intervals that end before v have no member from v on
pub passed : (xs : List Iv) (n v : ℕ) → ((k : ℕ) (d : Iv) → k < n → (get_or xs k d).hi < v) → (w : ℕ) → v ≤ w → has xs w ≡ has (drop n xs) w
passed [] zero v p w le = refl
passed [] (suc n) v p w le = refl
passed (x ∷ xs) zero v p w le = refl
passed (x ∷ xs) (suc n) v p w le =
    let e : in_part x w ≡ false = let q = p zero x (omega arith) in in_part-above x w (omega (arith, q)) in
    let rest : has xs w ≡ has (drop n xs) w = passed xs n v (λ k d lt. p (suc k) d (omega arith)) w le in
    ap (λ b. b || has xs w) e ∙ rest

-- a further part

pub has-push : (s : List Iv) (x : Iv) (v : ℕ) → has (s ++ x ∷ []) v ≡ (has s v || in_part x v)
has-push [] x v = or_false (in_part x v)
has-push (y ∷ s) x v = ap (λ b. in_part y v || b) (has-push s x v) ∙ or_swap (in_part y v) (has s v) (in_part x v)

pub regular-push : (l : ℕ) (s : List Iv) (x : Iv) → IsRegularFrom l s → past l s ≤ x.lo → x.lo ≤ x.hi → IsRegularFrom l (s ++ x ∷ [])
regular-push l [] x r p o = (p, o, tt)
regular-push l (y ∷ s) x r p o = (r.0, r.1, regular-push (y.hi + 2) s x r.2 p o)

pub past-push : (l : ℕ) (s : List Iv) (x : Iv) → past l (s ++ x ∷ []) ≡ x.hi + 2
past-push l [] x = refl
past-push l (y ∷ s) x = past-push (y.hi + 2) s x

pub last_start-push : (l : ℕ) (s : List Iv) (x : Iv) → last_start l (s ++ x ∷ []) ≡ x.lo
last_start-push l [] x = refl
last_start-push l (y ∷ s) x = last_start-push y.lo s x

pub least-push : (s : List Iv) (x : Iv) → least (s ++ x ∷ []) ≡ Some (unwrap_or (least s) x.lo)
least-push [] x = refl
least-push (y ∷ s) x = refl

pub past_none : (l : ℕ) (s : List Iv) → length s ≡ 0 → past l s ≡ l
past_none l [] e = refl
past_none l (x ∷ s) e = absurd (omega arith)

-- the last part

pub past_last : (l : ℕ) (s : List Iv) (k : ℕ) (d : Iv) → k + 1 ≡ length s → past l s ≡ (get_or s k d).hi + 2
past_last l [] k d e = absurd (omega arith)
past_last l (x ∷ []) zero d e = refl
past_last l (x ∷ []) (suc k) d e = absurd (omega arith)
past_last l (x ∷ y ∷ s) zero d e = absurd (omega arith)
past_last l (x ∷ y ∷ s) (suc k) d e = past_last (x.hi + 2) (y ∷ s) k d (omega arith)

pub last_start_last : (l : ℕ) (s : List Iv) (k : ℕ) (d : Iv) → k + 1 ≡ length s → last_start l s ≡ (get_or s k d).lo
last_start_last l [] k d e = absurd (omega arith)
last_start_last l (x ∷ []) zero d e = refl
last_start_last l (x ∷ []) (suc k) d e = absurd (omega arith)
last_start_last l (x ∷ y ∷ s) zero d e = absurd (omega arith)
last_start_last l (x ∷ y ∷ s) (suc k) d e = last_start_last x.lo (y ∷ s) k d (omega arith)

-- the last part grows

pub regular-grow : (l : ℕ) (s : List Iv) (k : ℕ) (d y : Iv) → k + 1 ≡ length s → IsRegularFrom l s → y.lo ≡ (get_or s k d).lo → (get_or s k d).hi ≤ y.hi → IsRegularFrom l (set s k y)
regular-grow l [] k d y e r p q = absurd (omega arith)
regular-grow l (x ∷ []) zero d y e r p q = (omega (arith, r), omega (arith, r), tt)
regular-grow l (x ∷ []) (suc k) d y e r p q = absurd (omega arith)
regular-grow l (x ∷ z ∷ s) zero d y e r p q = absurd (omega arith)
regular-grow l (x ∷ z ∷ s) (suc k) d y e r p q = (r.0, r.1, regular-grow (x.hi + 2) (z ∷ s) k d y (omega arith) r.2 p q)

pub last_start-grow : (l : ℕ) (s : List Iv) (k : ℕ) (y : Iv) → k + 1 ≡ length s → last_start l (set s k y) ≡ y.lo
last_start-grow l [] k y e = absurd (omega arith)
last_start-grow l (x ∷ []) zero y e = refl
last_start-grow l (x ∷ []) (suc k) y e = absurd (omega arith)
last_start-grow l (x ∷ z ∷ s) zero y e = absurd (omega arith)
last_start-grow l (x ∷ z ∷ s) (suc k) y e = last_start-grow x.lo (z ∷ s) k y (omega arith)

pub least-grow : (s : List Iv) (k : ℕ) (d y : Iv) (n : ℕ) → k + 1 ≡ length s → y.lo ≡ (get_or s k d).lo → least (set s k y) ≡ Some (unwrap_or (least s) n)
least-grow [] k d y n e p = absurd (omega arith)
least-grow (x ∷ []) zero d y n e p = ap Some p
least-grow (x ∷ []) (suc k) d y n e p = absurd (omega arith)
least-grow (x ∷ z ∷ s) zero d y n e p = absurd (omega arith)
least-grow (x ∷ z ∷ s) (suc k) d y n e p = refl

-- y has what p has and what z has, where z begins within p or right behind it
pub joined : (p y z : Iv) (v : ℕ) → y.lo ≡ p.lo → y.hi ≡ max p.hi z.hi → p.lo ≤ p.hi → z.lo ≤ z.hi → p.lo ≤ z.lo → z.lo ≤ p.hi + 1 → in_part y v ≡ (in_part p v || in_part z v)
joined p y z v lo hi op oz from to = grind (arith, nat_tests)

pub has-grow : (l : ℕ) (s : List Iv) (k : ℕ) (d y z : Iv) (v : ℕ) → k + 1 ≡ length s → IsRegularFrom l s → y.lo ≡ (get_or s k d).lo → y.hi ≡ max (get_or s k d).hi z.hi
    → z.lo ≤ z.hi → (get_or s k d).lo ≤ z.lo → z.lo ≤ (get_or s k d).hi + 1 → has (set s k y) v ≡ (has s v || in_part z v)
has-grow l [] k d y z v e r lo hi o from to = absurd (omega arith)
has-grow l (x ∷ []) zero d y z v e r lo hi o from to =
    ap (λ b. b || false) (joined x y z v lo hi r.1 o from to) ∙ or_end (in_part x v) (in_part z v)
has-grow l (x ∷ []) (suc k) d y z v e r lo hi o from to = absurd (omega arith)
has-grow l (x ∷ w ∷ s) zero d y z v e r lo hi o from to = absurd (omega arith)
has-grow l (x ∷ w ∷ s) (suc k) d y z v e r lo hi o from to =
    ap (λ b. in_part x v || b) (has-grow (x.hi + 2) (w ∷ s) k d y z v (omega arith) r.2 lo hi o from to) ∙ or_swap (in_part x v) (has (w ∷ s) v) (in_part z v)

-- where all members are below n, the last interval begins at n or sooner
pub last_start_below : (l m n : ℕ) (s : List Iv) → IsRegularFrom l s → m ≤ n → ((v : ℕ) → has s v ≡ true → v < n) → last_start m s ≤ n
last_start_below l m n [] r le below = le
last_start_below l m n (x ∷ xs) r le below =
    let first : x.lo < n = below x.lo (or_left (in_part x x.lo) (has xs x.lo) (in_part-from x x.lo (omega arith) r.1)) in
    last_start_below (x.hi + 2) x.lo n xs r.2 (omega arith) (λ v t. below v (or_right (in_part x v) (has xs v) t))

-- right behind an interval there is no member
pub gap_behind : (x : Iv) (xs : List Iv) → IsRegularFrom (x.hi + 2) xs → has (x ∷ xs) (x.hi + 1) ≡ false
gap_behind x xs r = or_from (in_part x (x.hi + 1)) (has xs (x.hi + 1)) (in_part-above x (x.hi + 1) (omega arith)) (has_below (x.hi + 2) xs r (x.hi + 1) (omega arith))

-- a number within the interval at an index is a member
pub has_within : (xs : List Iv) (i : ℕ) (d : Iv) (v : ℕ) → i < length xs → (get_or xs i d).lo ≤ v → v ≤ (get_or xs i d).hi → has (drop i xs) v ≡ true
has_within xs i d v lt from to = has_at xs i d v lt ∙ or_left (in_part (get_or xs i d) v) (has (drop (i + 1) xs) v) (in_part-from (get_or xs i d) v from to)

-- a number below the interval at an index is none of what is left
pub has_before : (l : ℕ) (xs : List Iv) (i : ℕ) (d : Iv) (v : ℕ) → i < length xs → IsRegularFrom l (drop i xs) → v < (get_or xs i d).lo → has (drop i xs) v ≡ false
has_before l xs i d v lt r below =
    let here = regular_at l xs i d lt r in
    has_at xs i d v lt ∙ has_below (get_or xs i d).lo (get_or xs i d ∷ drop (i + 1) xs) (omega arith, here.1, here.2) v below

-- nor is the number right behind it
pub has_behind : (l : ℕ) (xs : List Iv) (i : ℕ) (d : Iv) → i < length xs → IsRegularFrom l (drop i xs) → has (drop i xs) ((get_or xs i d).hi + 1) ≡ false
has_behind l xs i d lt r =
    let here = regular_at l xs i d lt r in
    has_at xs i d ((get_or xs i d).hi + 1) lt ∙ gap_behind (get_or xs i d) (drop (i + 1) xs) here.2

-- one range alone is a regular list
pub regular_alone : (xs : List Iv) → length xs ≤ 1 → AreRanges xs → IsRegular xs
regular_alone [] le r = tt
regular_alone (x ∷ []) le r = (omega arith, All-head (λ y. y.lo ≤ y.hi) x [] r, tt)
regular_alone (x ∷ y ∷ xs) le r = absurd (omega arith)

-- what has the numbers of both halves has all numbers
pub of_halves : (n : ℕ) (xs first second out : List Iv) → ((v : ℕ) → has first v ≡ has (take n xs) v) → ((v : ℕ) → has second v ≡ has (take (length xs - n) (drop n xs)) v)
    → ((v : ℕ) → has out v ≡ (has first v || has second v)) → (v : ℕ) → has out v ≡ has xs v
of_halves n xs first second out a b both v =
    both v ∙ ap (λ t. t || has second v) (a v) ∙ ap (λ t. has (take n xs) v || t) (b v ∙ ap (λ s. has s v) (take_rest xs n))
    ∙ sym (list_any-append (λ x. in_part x v) (take n xs) (drop n xs)) ∙ ap (λ s. has s v) (take-append-drop n xs)
