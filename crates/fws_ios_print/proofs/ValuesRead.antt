-- Numbers, addresses, wildcards, ports, types and protocols are read as what they spell.
use Rattle.std.proofs.Common.{◌≡◌, ◌≢◌, ℕ, zero, suc, ◌+◌, ◌-◌, ◌/◌, ◌%◌, ◌^◌, ◌<◌, ◌≤◌, Bool, true, false, cond, ◌&&◌, ◌||◌, not, nat_eq, nat_le, Option, Some, None, option_map, List, [], ◌∷◌, ◌++◌, length, codes, decimal, refl, ap, sym, ◌∙◌, arith, inl, inr}
use Rattle.std.proofs.lemmas.Bool.{and_from, and_parts, and_right, or_cases, leb-true, le-leb, eqb-true, not-true, cond_both, false_from_ne_true, true≢false}
use Rattle.std.proofs.lemmas.Nat.{pow_pos}
use Rattle.std.proofs.lemmas.List.Folds.{list_all-append}
use Rattle.std.proofs.lemmas.Slice.Eq.{bytes_eq-Decides}
use Rattle.std.specs.List.{list_all, list_any, range_with_len}
use Rattle.std.specs.Option.{option_map_or}
use Rattle.std.specs.Str.{bytes_eq}
use Rattle.fws_num.specs.Named.{named_in}
use Rattle.fws_num.specs.Numbers.{dec_of, digits_value, dotted, is_digit}
use Rattle.fws_num.specs.Protocols.{ios_protocol_of, ios_protocol_names, protocol_named}
use Rattle.fws_num.specs.Services.{port_of, service_names, service_of}
use Rattle.fws_num.specs.Written.{is_plain, is_plain_byte}
use Rattle.fws_iv.specs.declared.iv.Iv.{Iv}
use Rattle.fws_net.specs.Faces.{block}
use Rattle.fws_rules.specs.Literals.{one}
use Rattle.fws_ios.specs.Keywords.{is, port_word, port_words}
use Rattle.fws_ios.specs.Values.{icmp_type_named, icmp_type_of, protocol_value, wildcard_len, wildcard_of}
use Rattle.fws_print.specs.Sets.{is_network}
use Rattle.fws_ios_print.specs.Printable.{is_prefix}
use Rattle.fws_print.specs.Words.{protocol_name}
use Rattle.fws_ios_print.specs.PrintedText.{pool_name}
use Rattle.fws_ios_print.proofs.Basics.{all_weaker, at_number, if_false, never, texts_differ}
use Rattle.fws_ios_print.proofs.Laws.{Laws}

-- Bytes

-- a digit or a dot
abbrev pub is_dotted_byte : ℕ → Bool
is_dotted_byte c = is_digit c || nat_eq c 46

all_plain : list_all is_plain_byte (range_with_len 48 10) ≡ true
all_plain = refl

digit_plain : (c : ℕ) → is_digit c ≡ true → is_plain_byte c ≡ true
digit_plain c h =
    let parts = and_parts (nat_le 48 c) (nat_le c 57) h in
    let low : 48 ≤ c = leb-true 48 c parts.0 in
    let high : c ≤ 57 = leb-true c 57 parts.1 in
    at_number is_plain_byte 48 10 c all_plain low (omega arith)

dotted_plain : (c : ℕ) → is_dotted_byte c ≡ true → is_plain_byte c ≡ true
dotted_plain c h = elim (or_cases (is_digit c) (nat_eq c 46) h) [ inl e ↦ digit_plain c e | inr e ↦ ap is_plain_byte (eqb-true c 46 e) ]

some_plain : (text : List ℕ) → text ≢ [] → list_all is_plain_byte text ≡ true → is_plain text ≡ true
some_plain [] some h = absurd (some refl)
some_plain (c ∷ text) some h = (let long : 1 ≤ length (c ∷ text) = omega arith in and_from (nat_le 1 (length (c ∷ text))) (list_all is_plain_byte (c ∷ text)) (le-leb 1 (length (c ∷ text)) long) h)

-- Tables of names

named_without : {X : Type 0} (p : List ℕ → Bool) (rows : List (List ℕ × X)) (text : List ℕ) → list_all (λ row. not (p row.0)) rows ≡ true → p text ≡ true → named_in rows text ≡ None
named_without p [] text h k = refl
named_without p (row ∷ rows) text h k =
    let parts = and_parts (not (p row.0)) (list_all (λ row. not (p row.0)) rows) h in
    let other : bytes_eq text row.0 ≡ false =
    false_from_ne_true (bytes_eq text row.0) (λ e. true≢false (sym k ∙ ap p ((bytes_eq-Decides text row.0).0 e) ∙ not-true (p row.0) parts.0)) in
    if_false (bytes_eq text row.0) (Some row.1) (named_in rows text) other ∙ named_without p rows text parts.1 k

not_dec : (text : List ℕ) (most : ℕ) → list_all is_digit text ≡ false → dec_of text most ≡ None
not_dec text most h = ap (λ b. cond (b && nat_le 1 (length text) && nat_le (length text) 20 && nat_le (digits_value text) most) (Some (digits_value text)) None) h

-- a text that is neither a port nor what compares ports
pub record IsFree (text : List ℕ) : Type 0 where
  pub word : port_word text ≡ None
  pub port : port_of text ≡ None

-- Wildcards

abbrev finds_len : ℕ → Bool
finds_len n = option_map_or (nat_eq n) (wildcard_len (wildcard_of n)) false

all_found : list_all finds_len (range_with_len 0 33) ≡ true
unfolding wildcard_len
all_found = refl

is_this : (o : Option ℕ) (n : ℕ) → option_map_or (nat_eq n) o false ≡ true → o ≡ Some n
is_this None n h = never h
is_this (Some m) n h = ap Some (sym (eqb-true n m h))

pub wildcard_read : (n : ℕ) → n ≤ 32 → wildcard_len (wildcard_of n) ≡ Some n
wildcard_read n h = is_this (wildcard_len (wildcard_of n)) n (at_number finds_len 0 33 n all_found (omega arith) (omega arith))

-- Prefixes

any_number : (p : ℕ → Bool) (a n : ℕ) → list_any p (range_with_len a n) ≡ true → (m : ℕ) × (p m ≡ true) × (a ≤ m) × (m < a + n)
any_number p a zero h = never h
any_number p a (suc n) h =
    elim (or_cases (p a) (list_any p (range_with_len (a + 1) n)) h) [
      | inl e ↦ (a, e, omega arith, omega arith)
      | inr e ↦ (let is = any_number p (a + 1) n e in let low : a + 1 ≤ is.0 = is.2 in let high : is.0 < a + 1 + n = is.3 in (is.0, is.1, omega arith, omega arith))
    ]

pub record IsNetwork (n : ℕ) (iv : Iv) : Type 0 where
  pub short : n ≤ 32
  pub clear : iv.lo % 2 ^ (32 - n) ≡ 0
  pub last : iv.hi ≡ iv.lo + (2 ^ (32 - n) - 1)

pub prefix_known : (iv : Iv) → is_prefix iv ≡ true → (n : ℕ) × IsNetwork n iv
unfolding is_prefix
prefix_known iv h =
    let is = any_number (λ n. is_network n iv) 1 32 h in
    let n = is.0 in
    let p = and_parts (nat_eq (iv.lo % 2 ^ (32 - n)) 0) (nat_eq (iv.hi + 1) (iv.lo + 2 ^ (32 - n))) is.1 in
    let lt : n < 1 + 32 = is.3 in
    let end : iv.hi + 1 ≡ iv.lo + 2 ^ (32 - n) = eqb-true (iv.hi + 1) (iv.lo + 2 ^ (32 - n)) p.1 in
    let some : 0 < 2 ^ (32 - n) = pow_pos (32 - n) in
    (n, record { short = omega arith; clear = eqb-true (iv.lo % 2 ^ (32 - n)) 0 p.0; last = omega arith })

-- the addresses of a network are its block
pub network_block : (n : ℕ) (iv : Iv) → IsNetwork n iv → block n iv.lo ∷ [] ≡ iv ∷ []
network_block n iv is =
    let clear : iv.lo % 2 ^ (32 - n) ≡ 0 = is.clear in
    let kept : iv.lo - iv.lo % 2 ^ (32 - n) ≡ iv.lo = omega arith in
    ap (λ a. one a (a + (2 ^ (32 - n) - 1))) kept ∙ ap (one iv.lo) (sym is.last)

-- an address by itself
pub host_block : (iv : Iv) → iv.lo ≡ iv.hi → block 32 iv.lo ∷ [] ≡ iv ∷ []
host_block iv same =
    let kept : iv.lo - iv.lo % 2 ^ (32 - 32) ≡ iv.lo = omega arith in
    ap (λ a. one a (a + (2 ^ (32 - 32) - 1))) kept ∙ ap (one iv.lo) (none ∙ same)
  where
    none : iv.lo + (2 ^ (32 - 32) - 1) ≡ iv.lo
    none = omega arith

-- the wildcard of a network
pub network_wildcard : (n : ℕ) (iv : Iv) → IsNetwork n iv → iv.hi - iv.lo ≡ wildcard_of n
network_wildcard n iv is = (let last : iv.hi ≡ iv.lo + (2 ^ (32 - n) - 1) = is.last in omega arith)

module _ (laws : Laws) where
  -- Words of values

  pub number_digits : (n : ℕ) → list_all is_digit (decimal n) ≡ true
  number_digits n = (laws.digits n).0

  pub number_plain : (n : ℕ) → is_plain (decimal n) ≡ true
  number_plain n = some_plain (decimal n) (laws.digits n).1 (all_weaker is_digit is_plain_byte digit_plain (decimal n) (number_digits n))

  pub address_plain : (a : ℕ) → is_plain (dotted a) ≡ true
  address_plain a = some_plain (dotted a) (laws.dotted_bytes a).1 (all_weaker is_dotted_byte is_plain_byte dotted_plain (dotted a) (laws.dotted_bytes a).0)

  pub pool_plain : (n : ℕ) → is_plain (pool_name n) ≡ true
  pool_plain n =
      some_plain (pool_name n) (λ e. absurd cc) (and_from (is_plain_byte 80) (list_all is_plain_byte (decimal n)) refl (all_weaker is_digit is_plain_byte digit_plain (decimal n) (number_digits n)))

  -- Addresses

  -- an address is no keyword
  pub address_off : (a : ℕ) (word : List ℕ) → list_all is_dotted_byte word ≡ false → bytes_eq (dotted a) word ≡ false
  address_off a word h = texts_differ is_dotted_byte (dotted a) word (laws.dotted_bytes a).0 h

  dots : (a : ℕ) → list_all is_digit (dotted a) ≡ false
  dots a =
      let front = decimal (a / 2 ^ 24) ++ 46 ∷ decimal (a / 2 ^ 16 % 256) ++ 46 ∷ decimal (a / 2 ^ 8 % 256) in
      let rest = decimal (a % 256) in
      list_all-append is_digit front (46 ∷ rest) ∙ and_right (list_all is_digit front) (list_all is_digit (46 ∷ rest)) refl

  pub address_free : (a : ℕ) → IsFree (dotted a)
  unfolding port_word service_of
  address_free a = record {
    word = named_without (list_all is_dotted_byte) port_words (dotted a) refl (laws.dotted_bytes a).0;
    port = ap (λ o. option_map_or Some o (service_of (dotted a))) (not_dec (dotted a) 65535 (dots a)) ∙ named_without (list_all is_dotted_byte) service_names (dotted a) refl (laws.dotted_bytes a).0;
  }

  -- Ports

  pub port_read : (p : ℕ) → p ≤ 65535 → port_of (decimal p) ≡ Some p
  port_read p h = (let short : p < 2 ^ 64 = omega arith in ap (λ o. option_map_or Some o (service_of (decimal p))) (laws.decimals p 65535 short h))

  -- a number doesn't compare ports
  pub number_no_word : (n : ℕ) → port_word (decimal n) ≡ None
  unfolding port_word
  number_no_word n = named_without (list_all is_digit) port_words (decimal n) refl (number_digits n)

  -- Types and protocols

  pub type_read : (n : ℕ) → n ≤ 255 → icmp_type_of (decimal n) ≡ Some n
  type_read n h = (let short : n < 2 ^ 64 = omega arith in ap (λ o. option_map_or Some o (icmp_type_named (decimal n))) (laws.decimals n 255 short h))

  numbered : (n : ℕ) → n ≤ 255 → protocol_value (decimal n) ≡ Some (Some n)
  numbered n h =
      let short : n < 2 ^ 64 = omega arith in
      if_false (bytes_eq (decimal n) (codes "ip")) (Some None) (option_map Some (ios_protocol_of (decimal n))) (texts_differ is_digit (decimal n) (codes "ip") (number_digits n) refl)
      ∙ ap (λ o. option_map Some (option_map_or Some (option_map_or Some o (protocol_named (decimal n))) (named_in ios_protocol_names (decimal n)))) (laws.decimals n 255 short h)

  -- one number is read as this one
  abbrev Numbered : ℕ → ℕ → Type 0
  Numbered k n = (let x : Option (Option ℕ) = Some (Some k) in x ≡ Some (Some n))

  pub protocol_read : (n : ℕ) → n ≤ 255 → protocol_value (protocol_name n) ≡ Some (Some n)
  unfolding protocol_named
  protocol_read n h =
      let same : (k : ℕ) → n ≡ k → Numbered k n = λ k e. ap (λ k. Some (Some k)) (sym e) in
      cond_both (nat_eq n 1) (codes "icmp") (cond (nat_eq n 6) (codes "tcp") (cond (nat_eq n 17) (codes "udp") (decimal n))) (λ text. protocol_value text ≡ Some (Some n))
      (λ e. same 1 (eqb-true n 1 e))
      (λ e1.
      cond_both (nat_eq n 6) (codes "tcp") (cond (nat_eq n 17) (codes "udp") (decimal n)) (λ text. protocol_value text ≡ Some (Some n))
      (λ e. same 6 (eqb-true n 6 e))
      (λ e2. cond_both (nat_eq n 17) (codes "udp") (decimal n) (λ text. protocol_value text ≡ Some (Some n)) (λ e. same 17 (eqb-true n 17 e)) (λ e3. numbered n h)))

  pub protocol_plain : (n : ℕ) → is_plain (protocol_name n) ≡ true
  protocol_plain n =
      cond_both (nat_eq n 1) (codes "icmp") (cond (nat_eq n 6) (codes "tcp") (cond (nat_eq n 17) (codes "udp") (decimal n))) (λ text. is_plain text ≡ true)
      (λ e. refl)
      (λ e.
      cond_both (nat_eq n 6) (codes "tcp") (cond (nat_eq n 17) (codes "udp") (decimal n)) (λ text. is_plain text ≡ true)
      (λ e. refl) (λ e. cond_both (nat_eq n 17) (codes "udp") (decimal n) (λ text. is_plain text ≡ true) (λ e. refl) (λ e. number_plain n)))
