-- Marks in hexadecimal digits are read as what they spell.
use Rattle.std.proofs.Common.{◌≡◌, ℕ, zero, suc, ◌+◌, ◌-◌, ◌*◌, ◌/◌, ◌%◌, ◌^◌, ◌<◌, ◌≤◌, Bool, true, false, cond, ◌&&◌, not, nat_eq, nat_le, nat_lt, Option, Some, None, option_and_then, List, [], ◌∷◌, ◌++◌, length, length-append, codes, refl, ap, sym, ◌∙◌, inl, inr, arith}
use Rattle.std.proofs.Math.Nat.{div-add-mod, mod-lt}
use Rattle.std.proofs.lemmas.Bool.{and_from, and_parts, cases_Bool, ltb-true, le-leb, eqb-true, cond_both}
use Rattle.std.proofs.lemmas.List.Folds.{list_all-append}
use Rattle.std.specs.List.{list_all, range_with_len}
use Rattle.std.specs.Option.{option_map, option_map_or}
use Rattle.fws_num.specs.Numbers.{lacks, split_once, SplitsBack}
use Rattle.fws_num.specs.Written.{is_plain_byte, is_plain}
use Rattle.fws_ipt.specs.Values.{hex_after, hex_digit, hex_of, masked_of, number_of}
use Rattle.fws_ipt_print.specs.PrintedText.{hex_byte, hex_text, mark_word}
use Rattle.fws_ipt_print.proofs.Basics.{if_true}
use Rattle.fws_ipt_print.proofs.Plain.{at_number, lacks_by, plain_from}

-- Digits

abbrev is_read_digit : ℕ → Bool
is_read_digit d = option_map_or (nat_eq d) (hex_digit (hex_byte d)) false

all_digits_read : list_all is_read_digit (range_with_len 0 16) ≡ true
all_digits_read = refl

digit_by : (d : ℕ) (o : Option ℕ) → option_map_or (nat_eq d) o false ≡ true → o ≡ Some d
digit_by d None h = absurd cc
digit_by d (Some e) h = ap (λ n. Some n) (sym (eqb-true d e h))

digit_read : (d : ℕ) → d < 16 → hex_digit (hex_byte d) ≡ Some d
digit_read d h = digit_by d (hex_digit (hex_byte d)) (at_number is_read_digit 0 16 d all_digits_read (omega arith) (omega arith))

-- a byte of a mark
abbrev is_mark_byte : ℕ → Bool
is_mark_byte c = is_plain_byte c && not (nat_eq c 47)

digit_byte : (d : ℕ) → d < 16 → is_mark_byte (hex_byte d) ≡ true
digit_byte d h = at_number (λ d. is_mark_byte (hex_byte d)) 0 16 d refl (omega arith) (omega arith)

low_digit : (v : ℕ) → v % 16 < 16
low_digit v = mod-lt v (omega arith)

-- Numbers

after_then : (o : Option ℕ) (f : ℕ → Option ℕ) (g : ℕ → Option ℕ) → option_and_then g (option_and_then f o) ≡ option_and_then (λ d. option_and_then g (f d)) o
after_then None f g = refl
after_then (Some d) f g = refl

after_each : (o : Option ℕ) (f g : ℕ → Option ℕ) → ((d : ℕ) → f d ≡ g d) → option_and_then f o ≡ option_and_then g o
after_each None f g h = refl
after_each (Some d) f g h = h d

after_append : (xs ys : List ℕ) (w : ℕ) → hex_after w (xs ++ ys) ≡ option_and_then (λ u. hex_after u ys) (hex_after w xs)
after_append [] ys w = refl
after_append (c ∷ xs) ys w =
    after_each (hex_digit c) (λ d. hex_after (w * 16 + d) (xs ++ ys)) (λ d. option_and_then (λ u. hex_after u ys) (hex_after (w * 16 + d) xs)) (λ d. after_append xs ys (w * 16 + d))
    ∙ sym (after_then (hex_digit c) (λ d. hex_after (w * 16 + d) xs) (λ u. hex_after u ys))

last_read : (w v : ℕ) → hex_after w (hex_byte (v % 16) ∷ []) ≡ Some (w * 16 + v % 16)
last_read w v = ap (option_and_then (λ d. hex_after (w * 16 + d) [])) (digit_read (v % 16) (low_digit v))

small_read : (v : ℕ) → v < 16 → hex_after 0 (hex_byte (v % 16) ∷ []) ≡ Some v
small_read v h =
    let whole : 16 * (v / 16) + v % 16 ≡ v = div-add-mod v 16 in
    let same : 0 * 16 + v % 16 ≡ v = omega arith in
    last_read 0 v ∙ ap (λ n. Some n) same

hex_read : (n v : ℕ) → v < 16 ^ suc n → hex_after 0 (hex_text n v) ≡ Some v
hex_read zero v h = small_read v (omega arith)
hex_read (suc n) v h =
    elim (cases_Bool (nat_lt v 16)) [
      | inl small ↦ ap (hex_after 0) (if_true (nat_lt v 16) (hex_byte (v % 16) ∷ []) (hex_text n (v / 16) ++ hex_byte (v % 16) ∷ []) small) ∙ small_read v (ltb-true v 16 small)
      | inr large ↦
          (let whole : 16 * (v / 16) + v % 16 ≡ v = div-add-mod v 16 in
          let power : 16 ^ suc (suc n) ≡ 16 * 16 ^ suc n = power_more (suc n) in
          let below : v / 16 < 16 ^ suc n = omega arith in
          let same : v / 16 * 16 + v % 16 ≡ v = omega arith in
          ap (hex_after 0) (ap (λ b. cond b (hex_byte (v % 16) ∷ []) (hex_text n (v / 16) ++ hex_byte (v % 16) ∷ [])) large)
          ∙ after_append (hex_text n (v / 16)) (hex_byte (v % 16) ∷ []) 0
          ∙ ap (option_and_then (λ u. hex_after u (hex_byte (v % 16) ∷ []))) (hex_read n (v / 16) below)
          ∙ last_read (v / 16) v ∙ ap (λ n. Some n) same)
    ]
  where
    power_more : (n : ℕ) → 16 ^ suc n ≡ 16 * 16 ^ n
    power_more n = grind arith

-- as many digits as there may be
hex_length : (n v : ℕ) → (1 ≤ length (hex_text n v)) × (length (hex_text n v) ≤ suc n)
hex_length zero v = (omega arith, omega arith)
hex_length (suc n) v =
    cond_both (nat_lt v 16) (hex_byte (v % 16) ∷ []) (hex_text n (v / 16) ++ hex_byte (v % 16) ∷ []) (λ (text : List ℕ). (1 ≤ length text) × (length text ≤ suc (suc n)))
    (λ e. (omega arith, omega arith))
    (λ e.
    let rest = hex_length n (v / 16) in
    let counted : length (hex_text n (v / 16) ++ hex_byte (v % 16) ∷ []) ≡ length (hex_text n (v / 16)) + 1 = length-append (hex_text n (v / 16)) (hex_byte (v % 16) ∷ []) in
    (omega arith, omega arith))

hex_bytes : (n v : ℕ) → list_all is_mark_byte (hex_text n v) ≡ true
hex_bytes zero v = and_from (is_mark_byte (hex_byte (v % 16))) true (digit_byte (v % 16) (low_digit v)) refl
hex_bytes (suc n) v =
    let last = and_from (is_mark_byte (hex_byte (v % 16))) true (digit_byte (v % 16) (low_digit v)) refl in
    cond_both (nat_lt v 16) (hex_byte (v % 16) ∷ []) (hex_text n (v / 16) ++ hex_byte (v % 16) ∷ []) (λ text. list_all is_mark_byte text ≡ true)
    (λ e. last)
    (λ e.
    list_all-append is_mark_byte (hex_text n (v / 16)) (hex_byte (v % 16) ∷ [])
    ∙ and_from (list_all is_mark_byte (hex_text n (v / 16))) (list_all is_mark_byte (hex_byte (v % 16) ∷ [])) (hex_bytes n (v / 16)) last)

-- Marks

digits_of : (digits : List ℕ) (v : ℕ) → 1 ≤ length digits → length digits ≤ 16 → v < 2 ^ 32 → hex_after 0 digits ≡ Some v → hex_of digits ≡ Some v
digits_of digits v some few small h =
    if_true (nat_le 1 (length digits) && nat_le (length digits) 16) _ None
    (and_from (nat_le 1 (length digits)) (nat_le (length digits) 16) (le-leb 1 (length digits) some) (le-leb (length digits) 16 few))
    ∙ ap (option_and_then (λ n. cond (nat_le n (2 ^ 32 - 1)) (Some n) None)) h
    ∙ (let most : v ≤ 2 ^ 32 - 1 = omega arith in if_true (nat_le v (2 ^ 32 - 1)) (Some v) None (le-leb v (2 ^ 32 - 1) most))

number_read : (v : ℕ) → v < 2 ^ 32 → number_of (mark_word v) ≡ Some v
unfolding mark_word
number_read v h =
    let bounds = hex_length 7 v in
    digits_of (hex_text 7 v) v bounds.0 (omega arith) h (hex_read 7 v (omega arith))

mark_lacks : (v : ℕ) → lacks 47 (mark_word v) ≡ true
unfolding mark_word
mark_lacks v = lacks_by is_mark_byte 47 refl (48 ∷ 120 ∷ hex_text 7 v) (hex_bytes 7 v)

pub mark_plain : (v : ℕ) → is_plain (mark_word v) ≡ true
unfolding mark_word
mark_plain v = plain_from 48 (120 ∷ hex_text 7 v) (weaker (hex_text 7 v) (hex_bytes 7 v))
  where
    weaker : (text : List ℕ) → list_all is_mark_byte text ≡ true → list_all is_plain_byte text ≡ true
    weaker [] h = refl
    weaker (c ∷ text) h =
        let parts = and_parts (is_mark_byte c) (list_all is_mark_byte text) h in
        and_from (is_plain_byte c) (list_all is_plain_byte text) (and_parts (is_plain_byte c) (not (nat_eq c 47)) parts.0).0 (weaker text parts.1)

pub split_none : (byte : ℕ) (text : List ℕ) → lacks byte text ≡ true → split_once byte text ≡ None
split_none byte [] h = refl
split_none byte (c ∷ text) h =
    let parts = and_parts (not (nat_eq c byte)) (lacks byte text) h in
    ap (λ b. cond b (Some ([], text)) (option_map (λ parts. (c ∷ parts.0, parts.1)) (split_once byte text))) (not_true (nat_eq c byte) parts.0)
    ∙ ap (option_map (λ parts. (c ∷ parts.0, parts.1))) (split_none byte text parts.1)
  where
    not_true : (b : Bool) → not b ≡ true → b ≡ false
    not_true false h = refl
    not_true true h = absurd cc

pub mark_read : (v : ℕ) → v < 2 ^ 32 → masked_of (mark_word v) ≡ Some (v, None)
mark_read v h =
    ap (λ o. option_map_or (λ parts. option_and_then (λ v. option_map (λ mask. (v, Some mask)) (number_of parts.1)) (number_of parts.0)) o (option_map (λ v. (v, None)) (number_of (mark_word v))))
    (split_none 47 (mark_word v) (mark_lacks v))
    ∙ ap (option_map (λ v. (v, None))) (number_read v h)

pub masked_read : SplitsBack → (v : ℕ) → v < 2 ^ 32 → masked_of (mark_word v ++ codes "/0xffffffff") ≡ Some (v, Some (2 ^ 32 - 1))
masked_read splits v h =
    let text = mark_word v ++ codes "/0xffffffff" in
    ap (λ o. option_map_or (λ parts. option_and_then (λ v. option_map (λ mask. (v, Some mask)) (number_of parts.1)) (number_of parts.0)) o (option_map (λ v. (v, None)) (number_of text)))
    (splits 47 (mark_word v) (codes "0xffffffff") (mark_lacks v))
    ∙ ap (option_and_then (λ v. option_map (λ mask. (v, Some mask)) (number_of (codes "0xffffffff")))) (number_read v h)
