-- The words of a printed text are plain.
use Rattle.std.proofs.Common.{◌≡◌, ◌≢◌, ◌⊎◌, ℕ, zero, suc, ◌+◌, ◌<◌, ◌≤◌, Bool, true, false, ◌||◌, not, nat_eq, nat_le, List, [], ◌∷◌, ◌++◌, length, decimal, refl, ap, sym, ◌∙◌, inl, inr, arith}
use Rattle.std.proofs.lemmas.Bool.{and_from, and_parts, or_cases, cases_Bool, leb-true, eqb-true, eqb-false, le-leb, ne_eqb, not_from_false, false_from_ne_true, true≢false}
use Rattle.std.proofs.lemmas.List.Folds.{list_all-append}
use Rattle.std.specs.List.{list_all, range_with_len}
use Rattle.fws_num.specs.Numbers.{is_digit, dotted, lacks}
use Rattle.fws_num.specs.Words.{is_printed}
use Rattle.fws_num.specs.Written.{is_plain_byte, is_plain}
use Rattle.fws_ipt_print.proofs.Basics.{all_weaker}
use Rattle.fws_ipt_print.proofs.Laws.{Laws}

-- Bytes

plain_byte : (c : ℕ) → 33 ≤ c → c ≤ 126 → (c ≡ 34 → ⊥) → is_plain_byte c ≡ true
plain_byte c low high other =
    and_from (is_printed c) (not (nat_eq c 34)) (and_from (nat_le 33 c) (nat_le c 126) (le-leb 33 c low) (le-leb c 126 high)) (not_from_false (nat_eq c 34) (ne_eqb c 34 other))

-- a byte from 43 to 122
pub middle_byte : (c : ℕ) → 43 ≤ c → c ≤ 122 → is_plain_byte c ≡ true
middle_byte c low high = plain_byte c (omega arith) (omega arith) (λ e. omega arith)

pub digit_plain : (c : ℕ) → is_digit c ≡ true → is_plain_byte c ≡ true
digit_plain c h =
    let parts = and_parts (nat_le 48 c) (nat_le c 57) h in
    let low = leb-true 48 c parts.0 in
    let high = leb-true c 57 parts.1 in
    middle_byte c (omega arith) (omega arith)

-- a digit or a dot
abbrev pub is_dotted_byte : ℕ → Bool
is_dotted_byte c = is_digit c || nat_eq c 46

pub dotted_plain : (c : ℕ) → is_dotted_byte c ≡ true → is_plain_byte c ≡ true
dotted_plain c h =
    elim (or_cases (is_digit c) (nat_eq c 46) h) [ inl e ↦ digit_plain c e | inr e ↦ ap is_plain_byte (eqb-true c 46 e) ]

-- Texts

-- a text has no byte for which a test fails that holds of all its bytes
pub lacks_by : (p : ℕ → Bool) (byte : ℕ) → p byte ≡ false → (text : List ℕ) → list_all p text ≡ true → lacks byte text ≡ true
lacks_by p byte off [] h = refl
lacks_by p byte off (c ∷ text) h =
    let parts = and_parts (p c) (list_all p text) h in
    and_from (not (nat_eq c byte)) (lacks byte text)
    (not_from_false (nat_eq c byte) (false_from_ne_true (nat_eq c byte) (λ e. true≢false (sym parts.0 ∙ ap p (eqb-true c byte e) ∙ off))))
    (lacks_by p byte off text parts.1)

-- a first byte and further ones, all of them plain
pub plain_from : (c : ℕ) (cs : List ℕ) → list_all is_plain_byte (c ∷ cs) ≡ true → is_plain (c ∷ cs) ≡ true
plain_from c cs h = (let some : 1 ≤ length (c ∷ cs) = omega arith in and_from (nat_le 1 (length (c ∷ cs))) (list_all is_plain_byte (c ∷ cs)) (le-leb 1 (length (c ∷ cs)) some) h)

pub plain_some : (text : List ℕ) → text ≢ [] → list_all is_plain_byte text ≡ true → is_plain text ≡ true
plain_some [] some h = absurd (some refl)
plain_some (c ∷ cs) some h = plain_from c cs h

pub plain_append : (a b : List ℕ) → is_plain a ≡ true → list_all is_plain_byte b ≡ true → is_plain (a ++ b) ≡ true
plain_append [] b h k = absurd cc
plain_append (c ∷ cs) b h k =
    let parts = and_parts (nat_le 1 (length (c ∷ cs))) (list_all is_plain_byte (c ∷ cs)) h in
    plain_from c (cs ++ b) (list_all-append is_plain_byte (c ∷ cs) b ∙ and_from (list_all is_plain_byte (c ∷ cs)) (list_all is_plain_byte b) parts.1 k)

pub plain_bytes : (text : List ℕ) → is_plain text ≡ true → list_all is_plain_byte text ≡ true
plain_bytes text h = (and_parts (nat_le 1 (length text)) (list_all is_plain_byte text) h).1

order_cases : (a m : ℕ) → a ≤ m → (a ≡ m) ⊎ (a < m)
order_cases a m low =
    elim (cases_Bool (nat_eq a m)) [
      | inl e ↦ inl (eqb-true a m e)
      | inr e ↦ (let other : a ≢ m = eqb-false a m e in inr (omega arith))
    ]

-- a number below n is among those from 0 on
pub at_number : (p : ℕ → Bool) (a n m : ℕ) → list_all p (range_with_len a n) ≡ true → a ≤ m → m < a + n → p m ≡ true
at_number p a zero m h low high = absurd (omega arith)
at_number p a (suc n) m h low high =
    let parts = and_parts (p a) (list_all p (range_with_len (a + 1) n)) h in
    elim (order_cases a m low) [
      | inl e ↦ ap p (sym e) ∙ parts.0
      | inr lt ↦ at_number p (a + 1) n m parts.1 (omega arith) (omega arith)
    ]

module _ (laws : Laws) where
  pub number_digits : (n : ℕ) → list_all is_digit (decimal n) ≡ true
  number_digits n = (laws.digits n).0

  pub number_plain : (n : ℕ) → is_plain (decimal n) ≡ true
  number_plain n = plain_some (decimal n) (laws.digits n).1 (all_weaker is_digit is_plain_byte digit_plain (decimal n) (number_digits n))

  pub address_bytes : (a : ℕ) → list_all is_dotted_byte (dotted a) ≡ true
  address_bytes a = (laws.dotted_bytes a).0

  pub address_plain : (a : ℕ) → is_plain (dotted a) ≡ true
  address_plain a = plain_some (dotted a) (laws.dotted_bytes a).1 (all_weaker is_dotted_byte is_plain_byte dotted_plain (dotted a) (address_bytes a))

  -- two numbers, or two addresses, with a byte between
  pub joined_plain : (c : ℕ) (a b : List ℕ) → is_plain_byte c ≡ true → is_plain a ≡ true → is_plain b ≡ true → is_plain (a ++ c ∷ b) ≡ true
  joined_plain c a b h ha hb = plain_append a (c ∷ b) ha (and_from (is_plain_byte c) (list_all is_plain_byte b) h (plain_bytes b hb))
