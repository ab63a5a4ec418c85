-- What one step of a walk over two lists does to the members.
use Rattle.std.proofs.Common.{◌≡◌, ◌≤◌, ◌<◌, ◌+◌, ℕ, Bool, true, false, ◌&&◌, ◌||◌, not, nat_le, nat_lt, min, max, length, get_or, drop, List, ◌∷◌, ◌⊎◌, inl, inr, refl, arith}
use Rattle.std.proofs.lemmas.Bool.{cases_lt}
use Rattle.std.proofs.lemmas.Bool.Decides.{nat_tests}
use Rattle.fws_iv.specs.declared.iv.Iv.{Iv}
use Rattle.fws_iv.specs.Ivs.{in_part, IsRegularFrom}
use Rattle.fws_iv.proofs.Parts.{sooner, regular_at}

and_false : (a : Bool) → (a && false) ≡ false
and_false true = refl
and_false false = refl

-- a part p moves from the first list to what is made
pub took_first : (made p rest other all grown left : Bool) → (made || (left || other)) ≡ all → left ≡ (p || rest) → grown ≡ (made || p) → (grown || (rest || other)) ≡ all
took_first true p rest other all grown left h e k = cc
took_first false true rest other all grown left h e k = cc
took_first false false rest other all grown left h e k = cc

-- the same from the second
pub took_second : (made p rest other all grown left : Bool) → (made || (other || left)) ≡ all → left ≡ (p || rest) → grown ≡ (made || p) → (grown || (other || rest)) ≡ all
took_second true p rest other all grown left h e k = cc
took_second false true rest true all grown left h e k = cc
took_second false true rest false all grown left h e k = cc
took_second false false rest other all grown left h e k = cc

-- what two parts share
pub met : (x y : Iv) (v lo hi : ℕ) → lo ≡ max x.lo y.lo → hi ≡ min x.hi y.hi → (nat_le lo v && nat_lt v (hi + 1)) ≡ (in_part x v && in_part y v)
met x y v lo hi e k = grind (arith, nat_tests)

-- what p and q share is made, and p, which nothing behind q meets, is done
pub met_first : (made p rest q other all grown left right m : Bool) → (made || (left && right)) ≡ all → left ≡ (p || rest) → right ≡ (q || other) → (p ≡ true → other ≡ false)
    → grown ≡ (made || m) → m ≡ (p && q) → (grown || (rest && right)) ≡ all
met_first true p rest q other all grown left right m h e k apart a b = cc
met_first false true rest true other all grown left right m h e k apart a b = cc
met_first false true rest false other all grown left right m h e k apart a b = let none : other ≡ false = apart refl in grind (arith, and_false rest)
met_first false false rest q other all grown left right m h e k apart a b = cc

-- the same where q is done
pub met_second : (made p rest q other all grown left right m : Bool) → (made || (left && right)) ≡ all → left ≡ (p || rest) → right ≡ (q || other) → (q ≡ true → rest ≡ false)
    → grown ≡ (made || m) → m ≡ (p && q) → (grown || (left && other)) ≡ all
met_second true p rest q other all grown left right m h e k apart a b = cc
met_second false true rest true other all grown left right m h e k apart a b = cc
met_second false true rest false other all grown left right m h e k apart a b = cc
met_second false false rest true other all grown left right m h e k apart a b = let none : rest ≡ false = apart refl in cc
met_second false false rest false other all grown left right m h e k apart a b = cc

-- what was made ends before what is left of one list: the one whose part is done, or the other
pub met_after : (old new end lo : ℕ) (x : Iv) (xs other : List Iv) → end ≡ x.hi + 1 → (lo < end → new ≡ end + 1) → (end ≤ lo → new ≡ old) → x.lo ≤ x.hi → IsRegularFrom (x.hi + 2) xs
    → (IsRegularFrom old (x ∷ xs) ⊎ IsRegularFrom old other) → IsRegularFrom new xs ⊎ IsRegularFrom new other
met_after old new end lo x xs other e some none o rest after = elim (cases_lt lo end) [
  | inl lt ↦ let k = some lt in inl (sooner new (x.hi + 2) xs (omega arith) rest)
  | inr ge ↦ let k = none ge in elim after [
    | inl r ↦ inl (sooner new (x.hi + 2) xs (omega (arith, r)) rest)
    | inr r ↦ inr (sooner new old other (omega arith) r)
  ]
]

-- a cut y that ends within x: the numbers of x before it are made, those up to its end are done
pub cut_within : (made rest other : Bool) (x y : Iv) (v from lo : ℕ) → lo ≡ max x.lo from → from ≤ y.lo → y.lo ≤ y.hi → y.hi ≤ x.hi
    → (rest ≡ true → x.hi + 2 ≤ v) → (other ≡ true → y.hi + 2 ≤ v)
    → ((made || (nat_le lo v && nat_lt v y.lo)) || ((nat_le (y.hi + 1) v && (in_part x v || rest)) && not other))
    ≡ (made || ((nat_le from v && (in_part x v || rest)) && not (in_part y v || other)))
cut_within true rest other x y v from lo e a b d hr ho = refl
cut_within false true true x y v from lo e a b d hr ho = let far = hr refl in let past = ho refl in grind (arith, nat_tests)
cut_within false true false x y v from lo e a b d hr ho = let far = hr refl in grind (arith, nat_tests)
cut_within false false true x y v from lo e a b d hr ho = let past = ho refl in grind (arith, nat_tests)
cut_within false false false x y v from lo e a b d hr ho = grind (arith, nat_tests)

-- a cut y that ends past x: the numbers of x before it are made, and x is done
pub cut_over : (made rest other : Bool) (x y : Iv) (v from lo : ℕ) → lo ≡ max x.lo from → from ≤ y.lo → y.lo ≤ x.hi → x.hi < y.hi
    → (rest ≡ true → x.hi + 2 ≤ v) → (other ≡ true → y.hi + 2 ≤ v)
    → ((made || (nat_le lo v && nat_lt v y.lo)) || ((nat_le from v && rest) && not (in_part y v || other)))
    ≡ (made || ((nat_le from v && (in_part x v || rest)) && not (in_part y v || other)))
cut_over true rest other x y v from lo e a b d hr ho = refl
cut_over false true true x y v from lo e a b d hr ho = let far = hr refl in let past = ho refl in grind (arith, nat_tests)
cut_over false true false x y v from lo e a b d hr ho = let far = hr refl in grind (arith, nat_tests)
cut_over false false true x y v from lo e a b d hr ho = let past = ho refl in grind (arith, nat_tests)
cut_over false false false x y v from lo e a b d hr ho = grind (arith, nat_tests)

-- no cut begins within x: all that is left of it is made
pub uncut : (made rest other : Bool) (x : Iv) (v from lo : ℕ) → lo ≡ max x.lo from → (rest ≡ true → x.hi + 2 ≤ v) → (other ≡ true → x.hi + 1 ≤ v)
    → ((made || (nat_le lo v && nat_lt v (x.hi + 1))) || ((nat_le from v && rest) && not other))
    ≡ (made || ((nat_le from v && (in_part x v || rest)) && not other))
uncut true rest other x v from lo e hr ho = refl
uncut false true true x v from lo e hr ho = let far = hr refl in let past = ho refl in grind (arith, nat_tests)
uncut false true false x v from lo e hr ho = let far = hr refl in grind (arith, nat_tests)
uncut false false true x v from lo e hr ho = let past = ho refl in grind (arith, nat_tests)
uncut false false false x v from lo e hr ho = grind (arith, nat_tests)

-- what was made ends before what is left of the first list, or before the numbers that are done
pub cut_after : (old new end lo from : ℕ) (x : Iv) (xs : List Iv) → end ≤ x.hi + 1 → (lo < end → new ≡ end + 1) → (end ≤ lo → new ≡ old) → x.lo ≤ x.hi → IsRegularFrom (x.hi + 2) xs
    → (IsRegularFrom old (x ∷ xs) ⊎ (old ≤ from)) → IsRegularFrom new xs ⊎ (new ≤ from)
cut_after old new end lo from x xs e some none o rest after = elim (cases_lt lo end) [
  | inl lt ↦ let k = some lt in inl (sooner new (x.hi + 2) xs (omega arith) rest)
  | inr ge ↦ let k = none ge in elim after [
    | inl r ↦ inl (sooner new (x.hi + 2) xs (omega (arith, r)) rest)
    | inr r ↦ inr (omega arith)
  ]
]

pub swapped : {P Q : Type 0} → P ⊎ Q → Q ⊎ P
swapped h = elim h [ inl p ↦ inr p | inr q ↦ inl q ]

-- the part at an index stands first in what is left
pub after_at : (l : ℕ) (xs : List Iv) (i : ℕ) (d : Iv) (Q : Type 0) → i < length xs → IsRegularFrom l (drop i xs) ⊎ Q → IsRegularFrom l (get_or xs i d ∷ drop (i + 1) xs) ⊎ Q
after_at l xs i d Q lt h = elim h [ inl r ↦ inl (regular_at l xs i d lt r) | inr q ↦ inr q ]

-- after a cut the numbers up to its end are done
pub within_after : (old new end lo from to : ℕ) (xs : List Iv) → from ≤ end → end + 1 ≤ to → (lo < end → new ≡ end + 1) → (end ≤ lo → new ≡ old)
    → (IsRegularFrom old xs ⊎ (old ≤ from)) → IsRegularFrom new xs ⊎ (new ≤ to)
within_after old new end lo from to xs f t some none after = elim (cases_lt lo end) [
  | inl lt ↦ let k = some lt in inr (omega arith)
  | inr ge ↦ let k = none ge in elim after [
    | inl r ↦ inl (sooner new old xs (omega arith) r)
    | inr r ↦ inr (omega arith)
  ]
]

-- the three steps, over the lists' own tests: left and right are what is left of the two lists
pub carried_within : (made grown m f g left right p q rest other all : Bool) → (made || ((f && left) && not right)) ≡ all → left ≡ (p || rest) → right ≡ (q || other) → grown ≡ (made || m)
    → ((made || m) || ((g && (p || rest)) && not other)) ≡ (made || ((f && (p || rest)) && not (q || other))) → (grown || ((g && left) && not other)) ≡ all
carried_within made grown m f g left right p q rest other all h e k n step = cc

pub carried_over : (made grown m f left right p q rest other all : Bool) → (made || ((f && left) && not right)) ≡ all → left ≡ (p || rest) → right ≡ (q || other) → grown ≡ (made || m)
    → ((made || m) || ((f && rest) && not (q || other))) ≡ (made || ((f && (p || rest)) && not (q || other))) → (grown || ((f && rest) && not right)) ≡ all
carried_over made grown m f left right p q rest other all h e k n step = cc

pub carried_uncut : (made grown m f left right p rest all : Bool) → (made || ((f && left) && not right)) ≡ all → left ≡ (p || rest) → grown ≡ (made || m)
    → ((made || m) || ((f && rest) && not right)) ≡ (made || ((f && (p || rest)) && not right)) → (grown || ((f && rest) && not right)) ≡ all
carried_uncut made grown m f left right p rest all h e n step = cc
