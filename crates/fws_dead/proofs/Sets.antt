-- Members of sets of intervals.
use Rattle.std.proofs.Common.{◌≡◌, ℕ, zero, suc, ◌+◌, ◌<◌, ◌≤◌, true, false, Option, Some, None, MatchOption, is_some, List, [], ◌∷◌, inl, inr, length, take, get_or, sym, subst, arith, ◌⊎◌, add-one}
use Rattle.std.proofs.lemmas.Bool.{and_parts, and_from, or_cases, or_left, or_right, le-leb, leb-true}
use Rattle.std.proofs.lemmas.List.{take_all}
use Rattle.std.specs.Prelude.{nat_le}
use Rattle.fws_iv.specs.declared.iv.Iv.{Iv}
use Rattle.fws_iv.specs.Ivs.{has, in_part, IsRegularFrom}

pub in_from : (i : Iv) (x : ℕ) → i.lo ≤ x → x ≤ i.hi → in_part i x ≡ true
in_from i x a b = and_from (nat_le i.lo x) (nat_le x i.hi) (le-leb i.lo x a) (le-leb x i.hi b)

pub in_low : (i : Iv) (x : ℕ) → in_part i x ≡ true → i.lo ≤ x
in_low i x e = leb-true i.lo x (and_parts (nat_le i.lo x) (nat_le x i.hi) e).0

pub in_high : (i : Iv) (x : ℕ) → in_part i x ≡ true → x ≤ i.hi
in_high i x e = leb-true x i.hi (and_parts (nat_le i.lo x) (nat_le x i.hi) e).1

-- the one interval up to a top
pub up_to : (top x : ℕ) → has (record { lo = 0; hi = top } ∷ []) x ≡ true → x ≤ top
up_to top x e = elim (or_cases (in_part (record { lo = 0; hi = top }) x) false e) [
  | inl h ↦ in_high (record { lo = 0; hi = top }) x h
  | inr n ↦ absurd (cc)
]

pub has_up_to : (top x : ℕ) → x ≤ top → has (record { lo = 0; hi = top } ∷ []) x ≡ true
has_up_to top x le = or_left _ _ (in_from (record { lo = 0; hi = top }) x (omega arith) le)

-- no interval of regular ones is empty
pub some_members : (from : ℕ) (s : List Iv) (i : ℕ) (d : Iv) → IsRegularFrom from s → i < length s → (get_or s i d).lo ≤ (get_or s i d).hi
some_members from [] i d r lt = absurd (omega arith)
some_members from (x ∷ s) zero d r lt = r.1
some_members from (x ∷ s) (suc i) d r lt = some_members (x.hi + 2) s i d r.2 (omega arith)

-- what an interval has, the set has
pub has_from : (s : List Iv) (i x : ℕ) (d : Iv) → i < length s → in_part (get_or s i d) x ≡ true → has s x ≡ true
has_from [] i x d lt e = absurd (omega arith)
has_from (y ∷ s) zero x d lt e = or_left _ _ e
has_from (y ∷ s) (suc i) x d lt e = or_right _ _ (has_from s i x d (omega arith) e)

-- what one interval more has
pub has_more : (s : List Iv) (i x : ℕ) (d : Iv) → i < length s → has (take (suc i) s) x ≡ true → (has (take i s) x ≡ true) ⊎ (in_part (get_or s i d) x ≡ true)
has_more [] i x d lt e = absurd (omega arith)
has_more (y ∷ s) zero x d lt e = elim (or_cases (in_part y x) (has (take 0 s) x) e) [ inl h ↦ inr h | inr n ↦ absurd (cc) ]
has_more (y ∷ s) (suc i) x d lt e = elim (or_cases (in_part y x) (has (take (suc i) s) x) e) [
  | inl h ↦ inl (or_left _ _ h)
  | inr h ↦ elim (has_more s i x d (omega arith) h) [ inl k ↦ inl (or_right _ _ k) | inr k ↦ inr k ]
]

-- the least member of a regular set
pub first_has : (s : List Iv) (d : Iv) → IsRegularFrom 0 s → 0 < length s → has s (get_or s 0 d).lo ≡ true
first_has [] d r lt = absurd (omega arith)
first_has (x ∷ s) d r lt = or_left _ _ (in_from x x.lo (omega arith) r.1)

-- what is found in one interval is found in the set
pub found_in : (s : List Iv) (i : ℕ) (d : Iv) (f g : ℕ → ℕ) (found : Option ℕ) → i < length s → is_some found ≡ true
    → MatchOption found ((x : ℕ) → (get_or s i d).lo ≤ x → x ≤ (get_or s i d).hi → f x ≡ g x) (λ x. ((get_or s i d).lo ≤ x) × (x ≤ (get_or s i d).hi) × (f x ≡ g x → ⊥))
    → MatchOption found ((x : ℕ) → has s x ≡ true → f x ≡ g x) (λ x. (has s x ≡ true) × (f x ≡ g x → ⊥))
found_in s i d f g None lt some h = absurd (cc)
found_in s i d f g (Some x) lt some h = (has_from s i x d lt (in_from (get_or s i d) x h.0 h.1), h.2)

-- where none is found in one interval more
pub none_in : (s : List Iv) (i : ℕ) (d : Iv) (f g : ℕ → ℕ) (found : Option ℕ) → i < length s → is_some found ≡ false
    → MatchOption found ((x : ℕ) → (get_or s i d).lo ≤ x → x ≤ (get_or s i d).hi → f x ≡ g x) (λ x. ((get_or s i d).lo ≤ x) × (x ≤ (get_or s i d).hi) × (f x ≡ g x → ⊥))
    → ((x : ℕ) → has (take i s) x ≡ true → f x ≡ g x) → (x : ℕ) → has (take (i + 1) s) x ≡ true → f x ≡ g x
none_in s i d f g (Some y) lt none h so-far x e = absurd (cc)
none_in s i d f g None lt none h so-far x e = elim (has_more s i x d lt (subst (λ n. has (take n s) x ≡ true) (add-one i) e)) [
  | inl k ↦ so-far x k
  | inr k ↦ h x (in_low (get_or s i d) x k) (in_high (get_or s i d) x k)
]

-- all of them
pub whole_taken : (s : List Iv) (n x : ℕ) → length s ≤ n → has s x ≡ true → has (take n s) x ≡ true
whole_taken s n x le h = subst (λ l. has l x ≡ true) (sym (take_all n s le)) h

pub none_taken : (s : List Iv) (f g : ℕ → ℕ) (x : ℕ) → has (take 0 s) x ≡ true → f x ≡ g x
none_taken [] f g x h = absurd (cc)
none_taken (i ∷ s) f g x h = absurd (cc)
