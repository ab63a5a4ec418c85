-- Words of values: they are written as they are.
use Rattle.std.proofs.Common.{◌≡◌, ◌≢◌, ℕ, ◌≤◌, Bool, true, false, ◌&&◌, ◌||◌, not, nat_eq, nat_le, List, [], ◌∷◌, ◌++◌, map, length, decimal, refl, ap, sym, ◌∙◌, inl, inr, arith, append-nil}
use Rattle.std.proofs.lemmas.Bool.{and_from, and_parts, or_cases, leb-true, le-leb, eqb-true, ne_eqb, not-true, not_from_false, false_from_ne_true, true≢false}
use Rattle.std.proofs.lemmas.List.Folds.{list_all-append}
use Rattle.std.specs.List.{flat_map, join_by, join_with_byte, list_all}
use Rattle.fws_num.specs.Numbers.{is_digit, dotted, lacks}
use Rattle.fws_num.specs.Pieces.{pieces_of}
use Rattle.fws_num.specs.Words.{is_printed}
use Rattle.fws_num.specs.Written.{has_slashes, is_plain_byte}
use Rattle.fws_ipfw_print.specs.PrintedText.{name_word}
use Rattle.fws_ipfw_print.proofs.Basics.{all_weaker, if_false}
use Rattle.fws_ipfw_print.proofs.Laws.{Laws}
use Rattle.fws_ipfw_print.proofs.LineWords.{is_inner, is_writable}

-- Bytes

-- a digit, or one of , - . / :
abbrev pub is_value_byte : ℕ → Bool
is_value_byte c = nat_le 44 c && nat_le c 58

-- a byte from 43 to 126 may stand in a word, but for the backslash
pub middle_inner : (c : ℕ) → 43 ≤ c → c ≤ 126 → (c ≡ 92 → ⊥) → is_inner c ≡ true
middle_inner c low high other =
    let printed = and_from (nat_le 33 c) (nat_le c 126) (le-leb 33 c (omega arith)) (le-leb c 126 high) in
    let plain = and_from (is_printed c) (not (nat_eq c 34)) printed (not_from_false (nat_eq c 34) (ne_eqb c 34 (λ e. omega arith))) in
    and_from (is_plain_byte c && not (nat_eq c 35)) (not (nat_eq c 92))
    (and_from (is_plain_byte c) (not (nat_eq c 35)) plain (not_from_false (nat_eq c 35) (ne_eqb c 35 (λ e. omega arith)))) (not_from_false (nat_eq c 92) (ne_eqb c 92 other))

value_inner : (c : ℕ) → is_value_byte c ≡ true → is_inner c ≡ true
value_inner c h =
    let parts = and_parts (nat_le 44 c) (nat_le c 58) h in
    let low = leb-true 44 c parts.0 in
    let high = leb-true c 58 parts.1 in
    middle_inner c (omega arith) (omega arith) (λ e. omega arith)

digit_value : (c : ℕ) → is_digit c ≡ true → is_value_byte c ≡ true
digit_value c h =
    let parts = and_parts (nat_le 48 c) (nat_le c 57) h in
    let low = leb-true 48 c parts.0 in
    let high = leb-true c 57 parts.1 in
    let from : 44 ≤ c = omega arith in
    let to : c ≤ 58 = omega arith in
    and_from (nat_le 44 c) (nat_le c 58) (le-leb 44 c from) (le-leb c 58 to)

-- a digit or a dot
abbrev pub is_dotted_byte : ℕ → Bool
is_dotted_byte c = is_digit c || nat_eq c 46

dotted_value : (c : ℕ) → is_dotted_byte c ≡ true → is_value_byte c ≡ true
dotted_value c h = elim (or_cases (is_digit c) (nat_eq c 46) h) [ inl e ↦ digit_value c e | inr e ↦ ap is_value_byte (eqb-true c 46 e) ]

-- Texts

-- a text lacks a byte for which a test fails that holds of all its bytes
pub lacks_by : (p : ℕ → Bool) (byte : ℕ) → p byte ≡ false → (text : List ℕ) → list_all p text ≡ true → lacks byte text ≡ true
lacks_by p byte off [] h = refl
lacks_by p byte off (c ∷ text) h =
    let parts = and_parts (p c) (list_all p text) h in
    and_from (not (nat_eq c byte)) (lacks byte text)
    (not_from_false (nat_eq c byte) (false_from_ne_true (nat_eq c byte) (λ e. true≢false (sym parts.0 ∙ ap p (eqb-true c byte e) ∙ off))))
    (lacks_by p byte off text parts.1)

pub slashes_apart : (c : ℕ) (rest : List ℕ) → nat_eq c 47 ≡ false → has_slashes (c ∷ rest) ≡ has_slashes rest
slashes_apart c [] h = refl
slashes_apart c (d ∷ rest) h = ap (λ b. (b && nat_eq d 47) || has_slashes (d ∷ rest)) h

pub slashes_behind : (text rest : List ℕ) → lacks 47 text ≡ true → has_slashes (text ++ rest) ≡ has_slashes rest
slashes_behind [] rest h = refl
slashes_behind (c ∷ text) rest h =
    let parts = and_parts (not (nat_eq c 47)) (lacks 47 text) h in
    slashes_apart c (text ++ rest) (not-true (nat_eq c 47) parts.0) ∙ slashes_behind text rest parts.1

pub no_slashes : (text : List ℕ) → lacks 47 text ≡ true → has_slashes text ≡ false
no_slashes text h = ap has_slashes (sym (append-nil text)) ∙ slashes_behind text [] h

-- one slash ahead of a text that begins with another byte
pub slash_ahead : (text rest : List ℕ) → text ≢ [] → lacks 47 text ≡ true → has_slashes (47 ∷ (text ++ rest)) ≡ has_slashes rest
slash_ahead [] rest some h = absurd (some refl)
slash_ahead (c ∷ text) rest some h =
    let parts = and_parts (not (nat_eq c 47)) (lacks 47 text) h in
    ap (λ b. b || has_slashes (c ∷ (text ++ rest))) (not-true (nat_eq c 47) parts.0) ∙ slashes_behind (c ∷ text) rest h

-- Words

-- a word that is written as it is
abbrev pub is_tame : List ℕ → Bool
is_tame word = is_writable word && not (has_slashes word)

pub writable_some : (text : List ℕ) → text ≢ [] → list_all is_inner text ≡ true → is_writable text ≡ true
writable_some [] some h = absurd (some refl)
writable_some (c ∷ text) some h = (let long : 1 ≤ length (c ∷ text) = omega arith in and_from (nat_le 1 (length (c ∷ text))) (list_all is_inner (c ∷ text)) (le-leb 1 (length (c ∷ text)) long) h)

pub value_tame : (text : List ℕ) → text ≢ [] → list_all is_value_byte text ≡ true → has_slashes text ≡ false → is_tame text ≡ true
value_tame text some h k =
    and_from (is_writable text) (not (has_slashes text)) (writable_some text some (all_weaker is_value_byte is_inner value_inner text h)) (not_from_false (has_slashes text) k)

pub tame_same : (word : List ℕ) → is_tame word ≡ true → name_word word ≡ word
tame_same word h = if_false (has_slashes word) (34 ∷ word ++ 34 ∷ []) word (not-true (has_slashes word) (and_parts (is_writable word) (not (has_slashes word)) h).1)

pub tames_same : (words : List (List ℕ)) → list_all is_tame words ≡ true → map name_word words ≡ words
tames_same [] h = refl
tames_same (word ∷ words) h =
    let parts = and_parts (is_tame word) (list_all is_tame words) h in
    ap (λ (w : List ℕ). w ∷ map name_word words) (tame_same word parts.0) ∙ ap (λ (ws : List (List ℕ)). word ∷ ws) (tames_same words parts.1)

pub tames_writable : (words : List (List ℕ)) → list_all is_tame words ≡ true → list_all is_writable words ≡ true
tames_writable words h = all_weaker is_tame is_writable (λ w k. (and_parts (is_writable w) (not (has_slashes w)) k).0) words h

pub more : (word : List ℕ) (words : List (List ℕ)) → is_tame word ≡ true → list_all is_tame words ≡ true → list_all is_tame (word ∷ words) ≡ true
more word words h k = and_from (is_tame word) (list_all is_tame words) h k

-- Joined words

some_front : (text rest : List ℕ) → text ≢ [] → text ++ rest ≢ []
some_front [] rest some = absurd (some refl)
some_front (c ∷ text) rest some = λ e. absurd cc

module _ {A : Type 0} (word : A → List ℕ) where
  joined_same : (x : A) (xs : List A) → join_by word (44 ∷ []) (x ∷ xs) ≡ join_with_byte 44 (word x ∷ map word xs)
  joined_same x [] = append-nil (word x)
  joined_same x (next ∷ xs) = ap (λ text. word x ++ 44 ∷ text) (joined_same next xs)

  joined_bytes : ((x : A) → list_all is_value_byte (word x) ≡ true) → (xs : List A) → list_all is_value_byte (flat_map (λ y. 44 ∷ word y) xs) ≡ true
  joined_bytes bytes [] = refl
  joined_bytes bytes (x ∷ xs) =
      list_all-append is_value_byte (44 ∷ word x) (flat_map (λ y. 44 ∷ word y) xs)
      ∙ and_from (list_all is_value_byte (word x)) (list_all is_value_byte (flat_map (λ y. 44 ∷ word y) xs)) (bytes x) (joined_bytes bytes xs)

  joined_slashes : ((x : A) (rest : List ℕ) → has_slashes (word x ++ rest) ≡ has_slashes rest) → (xs : List A) → has_slashes (flat_map (λ y. 44 ∷ word y) xs) ≡ false
  joined_slashes single [] = refl
  joined_slashes single (x ∷ xs) =
      let rest = flat_map (λ y. 44 ∷ word y) xs in
      slashes_apart 44 (word x ++ rest) refl ∙ single x rest ∙ joined_slashes single xs

  pub joined_values : ((x : A) → list_all is_value_byte (word x) ≡ true) → (x : A) (xs : List A) → list_all is_value_byte (join_by word (44 ∷ []) (x ∷ xs)) ≡ true
  joined_values bytes x xs =
      let rest = flat_map (λ y. 44 ∷ word y) xs in
      list_all-append is_value_byte (word x) rest ∙ and_from (list_all is_value_byte (word x)) (list_all is_value_byte rest) (bytes x) (joined_bytes bytes xs)

  -- words joined by commas are written as they are
  pub joined_tame : ((x : A) → word x ≢ []) → ((x : A) → list_all is_value_byte (word x) ≡ true) → ((x : A) (rest : List ℕ) → has_slashes (word x ++ rest) ≡ has_slashes rest)
      → (x : A) (xs : List A) → is_tame (join_by word (44 ∷ []) (x ∷ xs)) ≡ true
  joined_tame some bytes single x xs =
      let rest = flat_map (λ y. 44 ∷ word y) xs in
      value_tame (word x ++ rest) (some_front (word x) rest (some x))
      (joined_values bytes x xs)
      (single x rest ∙ joined_slashes single xs)

  all_lack : ((x : A) → lacks 44 (word x) ≡ true) → (xs : List A) → list_all (lacks 44) (map word xs) ≡ true
  all_lack lack [] = refl
  all_lack lack (x ∷ xs) = and_from (lacks 44 (word x)) (list_all (lacks 44) (map word xs)) (lack x) (all_lack lack xs)

  -- and divided into these words
  pub joined_divided : Laws → ((x : A) → lacks 44 (word x) ≡ true) → (x : A) (xs : List A) → pieces_of 44 (join_by word (44 ∷ []) (x ∷ xs)) ≡ map word (x ∷ xs)
  joined_divided laws lack x xs = ap (pieces_of 44) (joined_same x xs) ∙ laws.joined 44 (word x) (map word xs) (all_lack lack (x ∷ xs))

-- Numbers and addresses

module _ (laws : Laws) where
  pub number_digits : (n : ℕ) → list_all is_digit (decimal n) ≡ true
  number_digits n = (laws.digits n).0

  pub number_bytes : (n : ℕ) → list_all is_value_byte (decimal n) ≡ true
  number_bytes n = all_weaker is_digit is_value_byte digit_value (decimal n) (number_digits n)

  pub number_lacks : (byte n : ℕ) → is_digit byte ≡ false → lacks byte (decimal n) ≡ true
  number_lacks byte n h = lacks_by is_digit byte h (decimal n) (number_digits n)

  pub number_tame : (n : ℕ) → is_tame (decimal n) ≡ true
  number_tame n = value_tame (decimal n) (laws.digits n).1 (number_bytes n) (no_slashes (decimal n) (number_lacks 47 n refl))

  pub address_bytes : (a : ℕ) → list_all is_value_byte (dotted a) ≡ true
  address_bytes a = all_weaker is_dotted_byte is_value_byte dotted_value (dotted a) (laws.dotted_bytes a).0

  pub address_lacks : (byte a : ℕ) → is_dotted_byte byte ≡ false → lacks byte (dotted a) ≡ true
  address_lacks byte a h = lacks_by is_dotted_byte byte h (dotted a) (laws.dotted_bytes a).0

  pub address_tame : (a : ℕ) → is_tame (dotted a) ≡ true
  address_tame a = value_tame (dotted a) (laws.dotted_bytes a).1 (address_bytes a) (no_slashes (dotted a) (address_lacks 47 a refl))
