-- Groups that together have a set's members.
use Rattle.std.proofs.Common.{◌≡◌, ◌≢◌, ℕ, zero, suc, ◌+◌, ◌<◌, ◌≤◌, Bool, true, false, ◌&&◌, ◌||◌, not, List, [], ◌∷◌, ◌++◌, length, length-drop, take, drop, inl, inr, refl, sym, ◌∙◌, ap, subst, arith}
use Rattle.std.proofs.lemmas.Bool.{and_from, or_left, or_right, or_cases, le-leb}
use Rattle.std.proofs.lemmas.List.{length-take-le}
use Rattle.std.proofs.lemmas.List.Folds.{list_any-append, list_all-append}
use Rattle.std.proofs.Math.Nat.{le-min, min-le_left, min-le_right}
use Rattle.std.proofs.Math.Seq.{take-add}
use Rattle.std.specs.List.{list_all, list_any}
use Rattle.std.specs.Prelude.{nat_le, min}
use Rattle.fws_iv.specs.declared.iv.Iv.{Iv}
use Rattle.fws_iv.specs.Ivs.{has, in_part, IsRegular, IsRegularFrom}
use Rattle.fws_print.specs.Sets.{are_ranges, ascend_from}
use Rattle.fws_ipfw_put_rules.specs.Groups.{are_ports, AddsGroup}

regular_from : (a b : ℕ) (s : List Iv) → b ≤ a → IsRegularFrom a s → IsRegularFrom b s
regular_from a b [] le h = tt
regular_from a b (x ∷ s) le h = (omega (arith, h.0), h.1, h.2)

regular_take : (from n : ℕ) (s : List Iv) → IsRegularFrom from s → IsRegularFrom from (take n s)
regular_take from zero s h = tt
regular_take from (suc n) [] h = tt
regular_take from (suc n) (x ∷ s) h = (h.0, h.1, regular_take (x.hi + 2) n s h.2)

regular_drop : (from n : ℕ) (s : List Iv) → IsRegularFrom from s → IsRegularFrom 0 (drop n s)
regular_drop from zero s h = regular_from from 0 s (omega arith) h
regular_drop from (suc n) [] h = tt
regular_drop from (suc n) (x ∷ s) h = regular_drop (x.hi + 2) n s h.2

-- what stands between two places is regular
pub regular_part : (k n : ℕ) (s : List Iv) → IsRegular s → IsRegular (take n (drop k s))
regular_part k n s h = regular_take 0 n (drop k s) (regular_drop 0 k s h)

has_take : (n : ℕ) (s : List Iv) (v : ℕ) → has (take n s) v ≡ true → has s v ≡ true
has_take zero s v h = absurd (cc)
has_take (suc n) [] v h = h
has_take (suc n) (x ∷ s) v h = elim (or_cases (in_part x v) (has (take n s) v) h) [
  | inl a ↦ or_left (in_part x v) (has s v) a
  | inr b ↦ or_right (in_part x v) (has s v) (has_take n s v b)
]

has_drop : (n : ℕ) (s : List Iv) (v : ℕ) → has (drop n s) v ≡ true → has s v ≡ true
has_drop zero s v h = h
has_drop (suc n) [] v h = h
has_drop (suc n) (x ∷ s) v h = or_right (in_part x v) (has s v) (has_drop n s v h)

pub has_part : (k n : ℕ) (s : List Iv) (v : ℕ) → has (take n (drop k s)) v ≡ true → has s v ≡ true
has_part k n s v h = has_drop k s v (has_take n (drop k s) v h)

-- the greatest number of an interval is a member
pub hi_member : (x : Iv) (s : List Iv) → x.lo ≤ x.hi → has (x ∷ s) x.hi ≡ true
hi_member x s le = or_left (in_part x x.hi) (has s x.hi) (and_from (nat_le x.lo x.hi) (nat_le x.hi x.hi) (le-leb x.lo x.hi le) (le-leb x.hi x.hi (omega arith)))

-- regular sets ascend
pub ascending : (most from : ℕ) (s : List Iv) → IsRegularFrom from s → ((v : ℕ) → has s v ≡ true → v ≤ most) → ascend_from most from s ≡ true
ascending most from [] h below = refl
ascending most from (x ∷ s) h below =
    and_from (nat_le from x.lo && nat_le x.lo x.hi && nat_le x.hi most) (ascend_from most (x.hi + 2) s)
    (and_from (nat_le from x.lo && nat_le x.lo x.hi) (nat_le x.hi most)
    (and_from (nat_le from x.lo) (nat_le x.lo x.hi) (le-leb from x.lo h.0) (le-leb x.lo x.hi h.1)) (le-leb x.hi most (below x.hi (hi_member x s h.1))))
    (ascending most (x.hi + 2) s h.2 (λ v e. below v (or_right (in_part x v) (has s v) e)))

-- a regular set with a member is ranges
pub ranges_of : (most : ℕ) (s : List Iv) → 0 < length s → IsRegular s → ((v : ℕ) → has s v ≡ true → v ≤ most) → are_ranges most s ≡ true
ranges_of most [] some h below = absurd (omega arith)
ranges_of most (x ∷ s) some h below = ascending most 0 (x ∷ s) h below

or_false : (b : Bool) → (b || false) ≡ b
or_false true = refl
or_false false = refl

-- a group more
pub group_added : (old new : List (List Iv)) (set : List Iv) → 0 < length set → IsRegular set → new ≡ old ++ set ∷ [] → AddsGroup old new set
group_added old new set some regular is = record {
  same = λ x. ap (λ l. list_any (λ s. has s x) l) is ∙ list_any-append (λ s. has s x) old (set ∷ []) ∙ ap (λ b. list_any (λ s. has s x) old || b) (or_false (has set x));
  ranges = λ most below each. ap (λ l. list_all (are_ranges most) l) is ∙ list_all-append (are_ranges most) old (set ∷ [])
      ∙ and_from (list_all (are_ranges most) old) (list_all (are_ranges most) (set ∷ [])) each (and_from (are_ranges most set) true (ranges_of most set some regular below) refl);
}

-- no group more for no member
pub none_added : (old : List (List Iv)) (set : List Iv) → set ≡ [] → AddsGroup old old set
none_added old set is = record {
  same = λ x. sym (or_false (list_any (λ s. has s x) old)) ∙ ap (λ l. list_any (λ s. has s x) old || has l x) (sym is);
  ranges = λ most below each. each;
}

-- ---- addresses

-- what the head has is taken from the rest to the groups
pub moved : (a n h r d s : Bool) → (a || r) ≡ s → (h ≡ true → r ≡ true) → n ≡ (a || h) → d ≡ (r && not h) → (n || d) ≡ s
moved a n h r d s e f g k = ap (λ x. x || d) g ∙ ap (λ x. (a || h) || x) k ∙ taken a h r f ∙ e
  where
    taken : (a h r : Bool) → (h ≡ true → r ≡ true) → ((a || h) || (r && not h)) ≡ (a || r)
    taken true h r f = refl
    taken false true r f = sym (f refl)
    taken false false true f = refl
    taken false false false f = refl

-- ---- ports

pub has_more : (k n : ℕ) (s : List Iv) (v : ℕ) → has (take (k + n) s) v ≡ (has (take k s) v || has (take n (drop k s)) v)
has_more k n s v = ap (λ l. has l v) (take-add k n s) ∙ list_any-append (λ x. in_part x v) (take k s) (take n (drop k s))

-- one list more has the members of the ranges that it holds
pub lists_more : (lists new : List (List Iv)) (g : List Iv) (k n m : ℕ) (parts : List Iv) (x : ℕ) → new ≡ lists ++ g ∷ [] → list_any (λ s. has s x) lists ≡ has (take k parts) x
    → g ≡ take m (drop k parts) → m ≡ n → list_any (λ s. has s x) new ≡ has (take (k + n) parts) x
lists_more lists new g k n m parts x is so e same =
    ap (λ l. list_any (λ s. has s x) l) is ∙ list_any-append (λ s. has s x) lists (g ∷ [])
    ∙ ap (λ b. b || (has g x || false)) so ∙ ap (λ b. has (take k parts) x || b) (or_false (has g x) ∙ ap (λ l. has l x) (e ∙ ap (λ j. take j (drop k parts)) same))
    ∙ sym (has_more k n parts x)

pub lists_each : (lists new : List (List Iv)) (g : List Iv) → new ≡ lists ++ g ∷ [] → list_all are_ports lists ≡ true → are_ports g ≡ true → list_all are_ports new ≡ true
lists_each lists new g is a b =
    ap (λ l. list_all are_ports l) is ∙ list_all-append are_ports lists (g ∷ [])
    ∙ and_from (list_all are_ports lists) (list_all are_ports (g ∷ [])) a (and_from (are_ports g) true b refl)

-- some ranges between two places are a group of ports, if they aren't too many
pub part_fits : (g : List Iv) (k n m : ℕ) (parts : List Iv) → IsRegular parts → ((v : ℕ) → has parts v ≡ true → v ≤ 65535) → 0 < n → n ≤ 30 → k + n ≤ length parts
    → g ≡ take m (drop k parts) → m ≡ n → are_ports g ≡ true
part_fits g k n m parts regular below some few within e same =
    let is : g ≡ take n (drop k parts) = e ∙ ap (λ j. take j (drop k parts)) same in
    let left = length-drop k parts in
    let long : length (take n (drop k parts)) ≡ n = length-take-le n (drop k parts) (omega arith) in
    subst (λ l. are_ports l ≡ true) (sym is)
    (and_from (are_ranges 65535 (take n (drop k parts))) (nat_le (length (take n (drop k parts))) 30)
    (ranges_of 65535 (take n (drop k parts)) (omega arith) (regular_part k n parts regular) (λ v h. below v (has_part k n parts v h)))
    (le-leb (length (take n (drop k parts))) 30 (omega arith)))

-- the lesser of two numbers
pub lesser : (a b n : ℕ) → n ≡ min a b → 0 < a → 0 < b → (0 < n) × (n ≤ a) × (n ≤ b)
lesser a b n e some filled =
    let least : 1 ≤ min a b = le-min some filled in
    let left = min-le_left a b in
    let right = min-le_right a b in (omega (arith, e, least), omega (arith, e, left), omega (arith, e, right))

-- a set that isn't empty has a range
pub some_of : (s : List Iv) → s ≢ [] → 0 < length s
some_of [] e = absurd (e refl)
some_of (x ∷ s) e = omega arith
