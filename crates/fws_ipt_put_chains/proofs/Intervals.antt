-- Parts of regular lists of intervals.
use Rattle.std.proofs.Common.{◌≡◌, ℕ, zero, suc, ◌+◌, ◌<◌, ◌≤◌, Bool, true, false, ◌&&◌, ◌||◌, List, [], ◌∷◌, ◌++◌, length, get_or, take, drop, inl, inr, refl, sym, ◌∙◌, ap, subst, arith, add-one}
use Rattle.std.proofs.lemmas.Bool.{and_from, or_left, or_right, or_cases, le-leb, cond_both}
use Rattle.std.proofs.lemmas.List.Elements.{All-nil, All-cons}
use Rattle.std.proofs.lemmas.List.{length-take-le}
use Rattle.std.proofs.lemmas.List.Folds.{list_any-append, list_all-append}
use Rattle.std.proofs.Math.Seq.{take-add}
use Rattle.std.specs.List.{list_any, list_all}
use Rattle.std.specs.Prelude.{nat_le, nat_eq, All}
use Rattle.fws_iv.specs.declared.iv.Iv.{Iv}
use Rattle.fws_iv.specs.Ivs.{has, in_part, IsRegular, IsRegularFrom}
use Rattle.fws_ipt_print.specs.Printable.{all_places, are_ports, ascend_from, places_of}

pub orderly : (from : ℕ) (s : List Iv) → IsRegularFrom from s → All (λ iv. iv.lo ≤ iv.hi) s
orderly from [] h = All-nil (λ iv. iv.lo ≤ iv.hi)
orderly from (x ∷ s) h = All-cons (λ iv. iv.lo ≤ iv.hi) x s h.1 (orderly (x.hi + 2) s h.2)

regular_from : (a b : ℕ) (s : List Iv) → b ≤ a → IsRegularFrom a s → IsRegularFrom b s
regular_from a b [] le h = tt
regular_from a b (x ∷ s) le h = (omega (arith, h.0), h.1, h.2)

regular_take : (from n : ℕ) (s : List Iv) → IsRegularFrom from s → IsRegularFrom from (take n s)
regular_take from zero s h = tt
regular_take from (suc n) [] h = tt
regular_take from (suc n) (x ∷ s) h = (h.0, h.1, regular_take (x.hi + 2) n s h.2)

regular_drop : (from n : ℕ) (s : List Iv) → IsRegularFrom from s → IsRegularFrom 0 (drop n s)
regular_drop from zero s h = regular_from from 0 s (omega arith) h
regular_drop from (suc n) [] h = tt
regular_drop from (suc n) (x ∷ s) h = regular_drop (x.hi + 2) n s h.2

-- what stands between two places is regular
pub regular_part : (k n : ℕ) (s : List Iv) → IsRegular s → IsRegular (take n (drop k s))
regular_part k n s h = regular_take 0 n (drop k s) (regular_drop 0 k s h)

has_take : (n : ℕ) (s : List Iv) (v : ℕ) → has (take n s) v ≡ true → has s v ≡ true
has_take zero s v h = absurd (cc)
has_take (suc n) [] v h = h
has_take (suc n) (x ∷ s) v h = elim (or_cases (in_part x v) (has (take n s) v) h) [
  | inl a ↦ or_left (in_part x v) (has s v) a
  | inr b ↦ or_right (in_part x v) (has s v) (has_take n s v b)
]

has_drop : (n : ℕ) (s : List Iv) (v : ℕ) → has (drop n s) v ≡ true → has s v ≡ true
has_drop zero s v h = h
has_drop (suc n) [] v h = h
has_drop (suc n) (x ∷ s) v h = or_right (in_part x v) (has s v) (has_drop n s v h)

pub has_part : (k n : ℕ) (s : List Iv) (v : ℕ) → has (take n (drop k s)) v ≡ true → has s v ≡ true
has_part k n s v h = has_drop k s v (has_take n (drop k s) v h)

-- the greatest number of an interval is a member
pub hi_member : (x : Iv) (s : List Iv) → x.lo ≤ x.hi → has (x ∷ s) x.hi ≡ true
hi_member x s le = or_left (in_part x x.hi) (has s x.hi) (and_from (nat_le x.lo x.hi) (nat_le x.hi x.hi) (le-leb x.lo x.hi le) (le-leb x.hi x.hi (omega arith)))

ascending : (from : ℕ) (s : List Iv) → IsRegularFrom from s → ((v : ℕ) → has s v ≡ true → v ≤ 65535) → ascend_from from s ≡ true
ascending from [] h below = refl
ascending from (x ∷ s) h below =
    and_from (nat_le from x.lo && nat_le x.lo x.hi && nat_le x.hi 65535) (ascend_from (x.hi + 2) s)
    (and_from (nat_le from x.lo && nat_le x.lo x.hi) (nat_le x.hi 65535)
    (and_from (nat_le from x.lo) (nat_le x.lo x.hi) (le-leb from x.lo h.0) (le-leb x.lo x.hi h.1)) (le-leb x.hi 65535 (below x.hi (hi_member x s h.1))))
    (ascending (x.hi + 2) s h.2 (λ v e. below v (or_right (in_part x v) (has s v) e)))

-- ranges that fit are a list of ports
pub ports_fit : (s : List Iv) → 0 < length s → IsRegular s → ((v : ℕ) → has s v ≡ true → v ≤ 65535) → all_places s ≤ 15 → are_ports s ≡ true
ports_fit [] some h below few = absurd (omega arith)
ports_fit (x ∷ s) some h below few =
    and_from (ascend_from 0 (x ∷ s)) (nat_le (all_places (x ∷ s)) 15) (ascending 0 (x ∷ s) h below) (le-leb (all_places (x ∷ s)) 15 few)

places_more : (s : List Iv) (i : ℕ) (d : Iv) → i < length s → all_places (take (suc i) s) ≡ all_places (take i s) + places_of (get_or s i d)
places_more [] i d lt = absurd (omega arith)
places_more (x ∷ s) zero d lt = let a : places_of x + 0 ≡ 0 + places_of x = omega arith in a
places_more (x ∷ s) (suc i) d lt =
    let r = places_more s i d (omega arith) in
    ap (λ n. places_of x + n) r ∙ (let a : places_of x + (all_places (take i s) + places_of (get_or s i d)) ≡ places_of x + all_places (take i s) + places_of (get_or s i d) = omega arith in a)

pub places_next : (s : List Iv) (i : ℕ) (d : Iv) → i < length s → all_places (take (i + 1) s) ≡ all_places (take i s) + places_of (get_or s i d)
places_next s i d lt = rw (add-one i) (places_more s i d lt)

pub few_places : (x : Iv) → places_of x ≤ 2
few_places x = cond_both (nat_eq x.lo x.hi) 1 2 (λ n. n ≤ 2) (λ e. omega arith) (λ e. omega arith)

pub has_more : (k n : ℕ) (s : List Iv) (v : ℕ) → has (take (k + n) s) v ≡ (has (take k s) v || has (take n (drop k s)) v)
has_more k n s v = ap (λ l. has l v) (take-add k n s) ∙ list_any-append (λ x. in_part x v) (take k s) (take n (drop k s))

or_false : (b : Bool) → (b || false) ≡ b
or_false true = refl
or_false false = refl

-- one list more has the members of the ranges that it holds
pub lists_more : (lists new : List (List Iv)) (g : List Iv) (k n m : ℕ) (parts : List Iv) (x : ℕ) → new ≡ lists ++ g ∷ [] → list_any (λ s. has s x) lists ≡ has (take k parts) x
    → g ≡ take m (drop k parts) → m ≡ n → list_any (λ s. has s x) new ≡ has (take (k + n) parts) x
lists_more lists new g k n m parts x is so e same =
    ap (λ l. list_any (λ s. has s x) l) is ∙ list_any-append (λ s. has s x) lists (g ∷ [])
    ∙ ap (λ b. b || (has g x || false)) so ∙ ap (λ b. has (take k parts) x || b) (or_false (has g x) ∙ ap (λ l. has l x) (e ∙ ap (λ j. take j (drop k parts)) same))
    ∙ sym (has_more k n parts x)

pub lists_short : (lists new : List (List Iv)) (g : List Iv) → new ≡ lists ++ g ∷ [] → list_all are_ports lists ≡ true → are_ports g ≡ true → list_all are_ports new ≡ true
lists_short lists new g is a b =
    ap (λ l. list_all are_ports l) is ∙ list_all-append are_ports lists (g ∷ [])
    ∙ and_from (list_all are_ports lists) (list_all are_ports (g ∷ [])) a (and_from (are_ports g) true b refl)

-- ranges that stand between two places are a list of ports
pub part_fits : (g : List Iv) (k n m : ℕ) (parts : List Iv) → IsRegular parts → ((v : ℕ) → has parts v ≡ true → v ≤ 65535) → 0 < n → n ≤ length (drop k parts) → all_places (take n (drop k parts)) ≤ 15
    → g ≡ take m (drop k parts) → m ≡ n → are_ports g ≡ true
part_fits g k n m parts regular below some within few e same =
    let is : g ≡ take n (drop k parts) = e ∙ ap (λ j. take j (drop k parts)) same in
    let long : length (take n (drop k parts)) ≡ n = length-take-le n (drop k parts) within in
    subst (λ l. are_ports l ≡ true) (sym is)
    (ports_fit (take n (drop k parts)) (omega arith) (regular_part k n parts regular) (λ v h. below v (has_part k n parts v h)) few)
