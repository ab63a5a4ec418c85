-- Numbers that are spelled and read.
use Rattle.std.proofs.Common.{◌≡◌, ◌≢◌, ℕ, suc, zero, ◌^◌, ◌<◌, ◌≤◌, Bool, true, false, cond, ◌&&◌, Option, Some, None, List, [], ◌∷◌, length, get_or, ◌⊎◌, inl, inr, sym, ◌∙◌, ap, refl, arith, rules}
use Rattle.std.proofs.lemmas.Bool.{false≢true, leb-true}
use Rattle.std.proofs.lemmas.Bool.Decides.{nat_tests}
use Rattle.std.proofs.lemmas.Fmt.{decimal_digit, decimal_nonempty, first_decimal, length-decimal-le, digits_decimal, digits_value-decimal, decimal-digits_value}
use Rattle.std.proofs.lemmas.Str.Parse.{IsNumeralModel, numerals_by_fold}
use Rattle.std.specs.Fmt.{decimal}
use Rattle.std.specs.List.{list_all}
use Rattle.fws_num.specs.Numbers.{is_digit, digits_value, digits_value_after, dec_of, has_leading_zero, octet_of}

-- the digits and their value are std's
pub own : IsNumeralModel (λ ds. list_all is_digit ds ≡ true) (digits_value_after 0)
own = numerals_by_fold _ (search (rules, nat_tests)) digits_value_after (search rules)

-- a text that passes each test of a number
pub dec_of-some : (text : List ℕ) (most : ℕ) → list_all is_digit text ≡ true → 1 ≤ length text → length text ≤ 20 → digits_value text ≤ most
    → dec_of text most ≡ Some (digits_value text)
dec_of-some text most a b c d = grind (arith, nat_tests, a)

pub dec_of-decimal : (n most : ℕ) → n < 2 ^ 64 → n ≤ most → dec_of (decimal n) most ≡ Some n
dec_of-decimal n most h k =
    let e : digits_value (decimal n) ≡ n = digits_value-decimal own n h in
    dec_of-some (decimal n) most (digits_decimal own n h) (decimal_nonempty n h) (length-decimal-le 20 n (omega arith) (omega arith) h) (rw e k) ∙ ap Some e

pub both : (a b : Bool) → (a && b) ≡ true → (a ≡ true) × (b ≡ true)
both true b h = (refl, h)
both false b h = absurd (false≢true h)

-- the branch of a choice that gave a number
taken : (b : Bool) (x n : ℕ) → cond b (Some x) None ≡ Some n → (b ≡ true) × (x ≡ n)
taken true x n h = (refl, cc)
taken false x n h = cc

passed_over : (b : Bool) (o : Option ℕ) (n : ℕ) → cond b None o ≡ Some n → (b ≡ false) × (o ≡ Some n)
passed_over true o n h = cc
passed_over false o n h = (refl, h)

-- a number that was read passes each test
pub record IsRead (text : List ℕ) (most n : ℕ) : Type 0 where
  pub digits : list_all is_digit text ≡ true
  pub some : 1 ≤ length text
  pub value : digits_value text ≡ n
  pub small : n ≤ most

pub IsRead-from_dec_of : (text : List ℕ) (most n : ℕ) → dec_of text most ≡ Some n → IsRead text most n
IsRead-from_dec_of text most n h =
    let all = taken _ _ _ h in
    let three = both _ _ all.0 in
    let two = both _ _ three.0 in
    let one = both _ _ two.0 in
    record {
      digits = one.0;
      some = leb-true 1 (length text) one.1;
      value = all.1;
      small = rw (sym all.1) (leb-true (digits_value text) most three.1);
    }

leading-none : (ds : List ℕ) → (get_or ds 0 0 ≢ 48) ⊎ (length ds ≤ 1) → has_leading_zero ds ≡ false
leading-none [] h = refl
leading-none (c ∷ []) h = refl
leading-none (c ∷ d ∷ cs) (inl h) = grind (arith, nat_tests)
leading-none (c ∷ d ∷ cs) (inr h) = absurd (omega arith)

decimal-leading : (n : ℕ) → n < 2 ^ 64 → has_leading_zero (decimal n) ≡ false
decimal-leading zero h = rw (decimal_digit 0 (omega arith)) refl
decimal-leading (suc n) h = leading-none (decimal (suc n)) (inl (λ e. omega (arith, first_decimal (suc n) (omega arith) h)))

alone : (ds : List ℕ) → 1 ≤ length ds → has_leading_zero ds ≡ false → get_or ds 0 0 ≡ 48 → length ds ≡ 1
alone [] k h e = absurd (omega arith)
alone (c ∷ []) k h e = refl
alone (c ∷ d ∷ cs) k h e = grind (arith, nat_tests)

pub decimal-digits : (o : ℕ) → o < 256 → list_all is_digit (decimal o) ≡ true
decimal-digits o h = digits_decimal own o (omega arith)

pub octet_of-decimal : (o : ℕ) → o < 256 → octet_of (decimal o) ≡ Some o
unfolding octet_of
octet_of-decimal o h =
    let e : has_leading_zero (decimal o) ≡ false = decimal-leading o (omega arith) in
    rw e (dec_of-decimal o 255 (omega arith) (omega arith))

pub octet_of-some : (text : List ℕ) (o : ℕ) → octet_of text ≡ Some o → (o < 256) × (text ≡ decimal o) × (list_all is_digit text ≡ true)
unfolding octet_of
octet_of-some text o h =
    let plain = passed_over (has_leading_zero text) (dec_of text 255) o h in
    let read = IsRead-from_dec_of text 255 o plain.1 in
    let small : digits_value text < 2 ^ 64 = omega (arith, read.value, read.small) in
    let e : decimal (digits_value text) ≡ text = decimal-digits_value own text read.digits read.some (alone text read.some plain.0) small in
    (omega (arith, read.small), sym e ∙ ap decimal read.value, read.digits)
