-- What spelled numbers and addresses have, and prefixes that are spelled and read.
use Rattle.std.proofs.Common.{◌≡◌, ◌≢◌, ℕ, suc, zero, ◌/◌, ◌%◌, ◌^◌, ◌<◌, ◌≤◌, Bool, true, false, cond, ◌||◌, not, nat_eq, Some, List, [], ◌∷◌, ◌++◌, refl, ◌∙◌, arith}
use Rattle.std.proofs.lemmas.Bool.Decides.{nat_tests}
use Rattle.std.proofs.lemmas.List.Folds.{list_all-append}
use Rattle.std.specs.Fmt.{decimal, digits, digits_onto, digit_glyph}
use Rattle.std.specs.List.{list_all}
use Rattle.fws_num.specs.Numbers.{is_digit, dotted, first_bits, prefix_len_of, prefix_of}
use Rattle.fws_num.proofs.Decimals.{dec_of-decimal}
use Rattle.fws_num.proofs.Quads.{quad_of-dotted}
use Rattle.fws_num.proofs.Divided.{all_weaker, splits_back}

-- digits, and at least one
abbrev AreDigits : List ℕ → Type 0
AreDigits ds = (list_all is_digit ds ≡ true) × (ds ≢ [])

digits-cons : (d : ℕ) (ds : List ℕ) → is_digit d ≡ true → list_all is_digit ds ≡ true → AreDigits (d ∷ ds)
digits-cons d ds h k = (rw (h, k) refl, λ e. cc)

glyph-digit : (d : ℕ) → d < 10 → is_digit (digit_glyph false d) ≡ true
glyph-digit d h = grind (arith, nat_tests)

last-or_more : (b : Bool) (ds es : List ℕ) → AreDigits ds → AreDigits es → AreDigits (cond b ds es)
last-or_more true ds es h k = h
last-or_more false ds es h k = k

onto-digits : (k n d : ℕ) (ds : List ℕ) → list_all is_digit (d ∷ ds) ≡ true → AreDigits (digits_onto k 10 false n (d ∷ ds))
onto-digits zero n d ds h = (h, λ e. cc)
onto-digits (suc k) n d ds h =
    let g = digit_glyph false (n % 10) in
    let one = digits-cons g (d ∷ ds) (glyph-digit (n % 10) (omega arith)) h in
    last-or_more (nat_eq (n / 10) 0) (g ∷ d ∷ ds) _ one (onto-digits k (n / 10) g (d ∷ ds) one.0)

pub decimal-are_digits : (n : ℕ) → (list_all is_digit (decimal n) ≡ true) × (decimal n ≢ [])
unfolding digits
decimal-are_digits n =
    let g = digit_glyph false (n % 10) in
    let one = digits-cons g [] (glyph-digit (n % 10) (omega arith)) refl in
    last-or_more (nat_eq (n / 10) 0) (g ∷ []) _ one (onto-digits 63 (n / 10) g [] one.0)

-- a digit or a dot
abbrev is_dotted : ℕ → Bool
is_dotted c = is_digit c || nat_eq c 46

digit-dotted : (c : ℕ) → is_digit c ≡ true → is_dotted c ≡ true
digit-dotted c h = rw h refl

decimal-dotted : (n : ℕ) → list_all is_dotted (decimal n) ≡ true
decimal-dotted n = all_weaker is_digit is_dotted digit-dotted (decimal n) (decimal-are_digits n).0

dotted-more : (xs ys : List ℕ) → list_all is_dotted xs ≡ true → list_all is_dotted ys ≡ true → list_all is_dotted (xs ++ 46 ∷ ys) ≡ true
dotted-more xs ys h k = list_all-append is_dotted xs (46 ∷ ys) ∙ rw (h, k) refl

some-more : (xs ys : List ℕ) → xs ≢ [] → xs ++ ys ≢ []
some-more [] ys h e = h refl
some-more (x ∷ xs) ys h e = cc

pub dotted-are_dotted : (a : ℕ) → (list_all (λ c. is_digit c || nat_eq c 46) (dotted a) ≡ true) × (dotted a ≢ [])
dotted-are_dotted a =
    let p = decimal (a / 2 ^ 24) in
    let q = decimal (a / 2 ^ 16 % 256) in
    let r = decimal (a / 2 ^ 8 % 256) in
    let s = decimal (a % 256) in
    let two = dotted-more p q (decimal-dotted (a / 2 ^ 24)) (decimal-dotted (a / 2 ^ 16 % 256)) in
    let three = dotted-more (p ++ 46 ∷ q) r two (decimal-dotted (a / 2 ^ 8 % 256)) in
    let four = dotted-more ((p ++ 46 ∷ q) ++ 46 ∷ r) s three (decimal-dotted (a % 256)) in
    let some = some-more p (46 ∷ q) (decimal-are_digits (a / 2 ^ 24)).1 in
    (four, some-more ((p ++ 46 ∷ q) ++ 46 ∷ r) (46 ∷ s) (some-more (p ++ 46 ∷ q) (46 ∷ r) some))

dotted-no_slash : (c : ℕ) → is_dotted c ≡ true → not (nat_eq c 47) ≡ true
dotted-no_slash c h = grind (arith, nat_tests, h)

pub prefix_of-spelled : (a n : ℕ) → a < 2 ^ 32 → n ≤ 32 → prefix_of (dotted a ++ 47 ∷ decimal n) ≡ Some (record { addr = first_bits n a; len = n })
unfolding prefix_of prefix_len_of
prefix_of-spelled a n h k =
    let clear = all_weaker is_dotted (λ c. not (nat_eq c 47)) dotted-no_slash (dotted a) (dotted-are_dotted a).0 in
    rw (splits_back 47 (dotted a) (decimal n) clear, quad_of-dotted a h, dec_of-decimal n 32 (omega arith) k) refl
