-- Numbers, addresses, ports, types, flags, protocols and names of tags are read as what they spell.
use Rattle.std.proofs.Common.{◌≡◌, ◌≢◌, ℕ, zero, suc, ◌+◌, ◌-◌, ◌%◌, ◌^◌, ◌<◌, ◌≤◌, Bool, true, false, cond, ◌&&◌, ◌||◌, not, nat_eq, nat_le, nat_lt, bit_and, Some, None, is_some, option_map, option_and_then, ok_or, Result, Ok, Err, List, [], ◌∷◌, ◌++◌, length, codes, decimal, refl, ap, sym, ◌∙◌, append_assoc, append-nil, arith, inl, inr}
use Rattle.std.proofs.lemmas.Bool.{and_from, and_parts, and_right, or_cases, or_from, leb-true, le-leb, eqb-true, not-true, cond_both, false_from_ne_true, true≢false}
use Rattle.std.proofs.lemmas.Nat.{and_le_l, pow_pos}
use Rattle.std.proofs.lemmas.List.Folds.{list_all-append}
use Rattle.std.proofs.lemmas.Slice.Eq.{bytes_eq-Decides}
use Rattle.std.specs.List.{find, list_all, range_with_len}
use Rattle.std.specs.Option.{option_map_or}
use Rattle.std.specs.Str.{bytes_eq}
use Rattle.fws_num.specs.declared.prefix.Prefix.{Prefix}
use Rattle.fws_num.specs.Named.{named_in}
use Rattle.fws_num.specs.Numbers.{dec_of, digits_value, dotted, first_bits, is_digit, lacks, prefix_of, quad_of, split_once}
use Rattle.fws_num.specs.Protocols.{protocol_named}
use Rattle.fws_num.specs.Services.{both_ports, port_of, ports_behind, service_names, service_of}
use Rattle.fws_iv.specs.declared.iv.Iv.{Iv}
use Rattle.fws_net.specs.declared.cause.Cause.{Cause}
use Rattle.fws_net.specs.declared.cause.Cause.TheVariants.{Syntax, LeftOut}
use Rattle.fws_net.specs.declared.condition.Test.{Test}
use Rattle.fws_net.specs.declared.condition.Test.TheVariants as tests
use Rattle.fws_net.specs.declared.site.Site.{Site}
use Rattle.fws_net.specs.Faces.{block}
use Rattle.fws_net.specs.Ports.{in_order}
use Rattle.fws_net.specs.SiteSpelling.{net_word}
use Rattle.fws_rules.specs.Literals.{one}
use Rattle.fws_pf.specs.declared.value_draft.Part.{Part}
use Rattle.fws_pf.specs.declared.value_draft.Part.TheVariants as parts
use Rattle.fws_pf.specs.RuleText.{flags_test}
use Rattle.fws_pf.specs.Values.{begins_with_digit, face_part, host_part, icmp_type_named, icmp_type_part, is_route_word, modified_part, network_part, operator_named, operators_by_mark, port_range_part, protocol_part, range_part, self_set}
use Rattle.fws_print.specs.Sets.{are_flags, is_network}
use Rattle.fws_pf_print.specs.Printable.{tag_name}
use Rattle.fws_print.specs.Words.{protocol_name}
use Rattle.fws_pf_print.specs.PrintedText.{flags_word, letters_of, network_len, ports_word}
use Rattle.fws_pf_print.proofs.Basics.{all_weaker, at_number, if_true, if_false, implied, never, option_cases, texts_differ}
use Rattle.fws_pf_print.proofs.Laws.{Laws}
use Rattle.fws_pf_print.proofs.LineWords.{is_bare, is_inner, lacks_by}

-- Bytes

-- a digit, or one of - . / :
abbrev pub is_value_byte : ℕ → Bool
is_value_byte c = nat_le 45 c && nat_le c 58

all_inner : list_all is_inner (range_with_len 45 14) ≡ true
all_inner = refl

value_inner : (c : ℕ) → is_value_byte c ≡ true → is_inner c ≡ true
value_inner c h =
    let parts = and_parts (nat_le 45 c) (nat_le c 58) h in
    let low : 45 ≤ c = leb-true 45 c parts.0 in
    let high : c ≤ 58 = leb-true c 58 parts.1 in
    at_number is_inner 45 14 c all_inner low (omega arith)

digit_value : (c : ℕ) → is_digit c ≡ true → is_value_byte c ≡ true
digit_value c h =
    let parts = and_parts (nat_le 48 c) (nat_le c 57) h in
    let low = leb-true 48 c parts.0 in
    let high = leb-true c 57 parts.1 in
    let from : 45 ≤ c = omega arith in
    let to : c ≤ 58 = omega arith in
    and_from (nat_le 45 c) (nat_le c 58) (le-leb 45 c from) (le-leb c 58 to)

-- a digit or a dot
abbrev pub is_dotted_byte : ℕ → Bool
is_dotted_byte c = is_digit c || nat_eq c 46

dotted_value : (c : ℕ) → is_dotted_byte c ≡ true → is_value_byte c ≡ true
dotted_value c h = elim (or_cases (is_digit c) (nat_eq c 46) h) [ inl e ↦ digit_value c e | inr e ↦ ap is_value_byte (eqb-true c 46 e) ]

pub some_bare : (text : List ℕ) → text ≢ [] → list_all is_inner text ≡ true → is_bare text ≡ true
some_bare [] some h = absurd (some refl)
some_bare (c ∷ text) some h = (let long : 1 ≤ length (c ∷ text) = omega arith in and_from (nat_le 1 (length (c ∷ text))) (list_all is_inner (c ∷ text)) (le-leb 1 (length (c ∷ text)) long) h)

value_bare : (text : List ℕ) → text ≢ [] → list_all is_value_byte text ≡ true → is_bare text ≡ true
value_bare text some h = some_bare text some (all_weaker is_value_byte is_inner value_inner text h)

some_front : (text rest : List ℕ) → text ≢ [] → text ++ rest ≢ []
some_front [] rest some = absurd (some refl)
some_front (c ∷ text) rest some = λ e. absurd cc

-- a text that a test of its bytes tells from another one
off_word : (text word : List ℕ) → list_all is_value_byte text ≡ true → list_all is_value_byte word ≡ false → bytes_eq text word ≡ false
off_word text word h k = texts_differ is_value_byte text word h k

-- Flags

abbrev reads_flags : Result Test Cause → ℕ → ℕ → Bool
reads_flags (Ok (tests.Flags m w)) mask want = nat_eq m mask && nat_eq w want
reads_flags _ mask want = false

unfoldable is_read : ℕ → ℕ → Bool
is_read mask want = reads_flags (flags_test (flags_word mask want)) mask want && is_bare (flags_word mask want) && not (bytes_eq (flags_word mask want) (codes "any"))

abbrev passes : ℕ → ℕ → Bool
passes mask want = not (are_flags mask want) || is_read mask want

all_pass : list_all (λ mask. list_all (passes mask) (range_with_len 0 64)) (range_with_len 0 64) ≡ true
unfolding is_read letters_of
all_pass = refl

-- what is known of flags that are printed
pub record AreFlags (mask want : ℕ) : Type 0 where
  pub test : flags_test (flags_word mask want) ≡ Ok (tests.Flags mask want)
  pub word : is_bare (flags_word mask want) ≡ true
  pub other : bytes_eq (flags_word mask want) (codes "any") ≡ false

flags_same : (o : Result Test Cause) (mask want : ℕ) → reads_flags o mask want ≡ true → o ≡ Ok (tests.Flags mask want)
flags_same (Ok (tests.Flags m w)) mask want h =
    let p = and_parts (nat_eq m mask) (nat_eq w want) h in
    ap (λ m. Ok (tests.Flags m w)) (eqb-true m mask p.0) ∙ ap (λ w. Ok (tests.Flags mask w)) (eqb-true w want p.1)
flags_same (Ok (tests.Src s)) mask want h = never h
flags_same (Ok (tests.Dst s)) mask want h = never h
flags_same (Ok (tests.Sport s)) mask want h = never h
flags_same (Ok (tests.Dport s)) mask want h = never h
flags_same (Ok (tests.Proto s)) mask want h = never h
flags_same (Ok (tests.Icmp s)) mask want h = never h
flags_same (Ok (tests.AnyFlag n)) mask want h = never h
flags_same (Ok (tests.Recv s)) mask want h = never h
flags_same (Ok (tests.Xmit s)) mask want h = never h
flags_same (Ok (tests.Via s)) mask want h = never h
flags_same (Ok tests.Outward) mask want h = never h
flags_same (Ok tests.Est) mask want h = never h
flags_same (Ok (tests.Tag n)) mask want h = never h
flags_same (Ok tests.Never) mask want h = never h
flags_same (Err e) mask want h = never h

-- flags that are printed have six bits
flags_small : (mask want : ℕ) → are_flags mask want ≡ true → (mask ≤ 63) × (want ≤ 63)
flags_small mask want h =
    let last = and_parts (nat_lt 0 mask && nat_le mask 63) (nat_eq (bit_and mask want) want) h in
    let first = and_parts (nat_lt 0 mask) (nat_le mask 63) last.0 in
    let small : mask ≤ 63 = leb-true mask 63 first.1 in
    let least : bit_and mask want ≤ mask = and_le_l mask want in
    let same : bit_and mask want ≡ want = eqb-true (bit_and mask want) want last.1 in
    (small, omega arith)

pub flags_read : (mask want : ℕ) → are_flags mask want ≡ true → AreFlags mask want
unfolding is_read
flags_read mask want h =
    let small = flags_small mask want h in
    let row = at_number (λ mask. list_all (passes mask) (range_with_len 0 64)) 0 64 mask all_pass (omega arith) (omega (arith, small.0)) in
    let cell = at_number (passes mask) 0 64 want row (omega arith) (omega (arith, small.1)) in
    let is = implied (are_flags mask want) (is_read mask want) h cell in
    let word = flags_word mask want in
    let last = and_parts (reads_flags (flags_test word) mask want && is_bare word) (not (bytes_eq word (codes "any"))) is in
    let first = and_parts (reads_flags (flags_test word) mask want) (is_bare word) last.0 in
    record { test = flags_same (flags_test word) mask want first.0; word = first.1; other = not-true (bytes_eq word (codes "any")) last.1 }

-- Names of services, protocols and operators begin with no digit

named_without : {X : Type 0} (p : List ℕ → Bool) (rows : List (List ℕ × X)) (text : List ℕ) → list_all (λ row. not (p row.0)) rows ≡ true → p text ≡ true → named_in rows text ≡ None
named_without p [] text h k = refl
named_without p (row ∷ rows) text h k =
    let parts = and_parts (not (p row.0)) (list_all (λ row. not (p row.0)) rows) h in
    let other : bytes_eq text row.0 ≡ false =
    false_from_ne_true (bytes_eq text row.0) (λ e. true≢false (sym k ∙ ap p ((bytes_eq-Decides text row.0).0 e) ∙ not-true (p row.0) parts.0)) in
    if_false (bytes_eq text row.0) (Some row.1) (named_in rows text) other ∙ named_without p rows text parts.1 k

digit_begins : (digits rest : List ℕ) → digits ≢ [] → list_all is_digit digits ≡ true → begins_with_digit (digits ++ rest) ≡ true
digit_begins [] rest some h = absurd (some refl)
digit_begins (c ∷ digits) rest some h = (and_parts (is_digit c) (list_all is_digit digits) h).0

pub no_operator : (text : List ℕ) → begins_with_digit text ≡ true → operator_named text ≡ None
unfolding operator_named
no_operator text h = named_without begins_with_digit operators_by_mark text refl h

no_digits : (front behind : List ℕ) → list_all is_digit (front ++ 58 ∷ behind) ≡ false
no_digits front behind = list_all-append is_digit front (58 ∷ behind) ∙ and_right (list_all is_digit front) (list_all is_digit (58 ∷ behind)) refl

not_dec : (text : List ℕ) (most : ℕ) → list_all is_digit text ≡ false → dec_of text most ≡ None
not_dec text most h = ap (λ b. cond (b && nat_le 1 (length text) && nat_le (length text) 20 && nat_le (digits_value text) most) (Some (digits_value text)) None) h

-- two numbers with a colon between are no port
no_port : (front behind : List ℕ) → front ≢ [] → list_all is_digit front ≡ true → port_of (front ++ 58 ∷ behind) ≡ None
unfolding service_of
no_port front behind some digits =
    let text = front ++ 58 ∷ behind in
    ap (λ o. option_map_or Some o (service_of text)) (not_dec text 65535 (no_digits front behind))
    ∙ named_without begins_with_digit service_names text refl (digit_begins front (58 ∷ behind) some digits)

behind_digits : (front digits behind : List ℕ) (x : ℕ × ℕ) → list_all is_digit digits ≡ true → both_ports (front ++ digits) behind ≡ Some x
    → ports_behind front 58 (digits ++ 58 ∷ behind) ≡ Some x
behind_digits front [] behind x h e =
    let both : both_ports front behind ≡ Some x = ap (λ text. both_ports text behind) (sym (append-nil front)) ∙ e in
    ap (λ o. cond (is_some o) o (ports_behind (front ++ 58 ∷ []) 58 behind)) both
behind_digits front (c ∷ digits) behind x h e =
    let parts = and_parts (is_digit c) (list_all is_digit digits) h in
    let other : nat_eq c 58 ≡ false = false_from_ne_true (nat_eq c 58) (λ k. true≢false (sym parts.0 ∙ ap is_digit (eqb-true c 58 k))) in
    ap (λ b. cond (b && is_some (both_ports front (digits ++ 58 ∷ behind))) (both_ports front (digits ++ 58 ∷ behind)) (ports_behind (front ++ c ∷ []) 58 (digits ++ 58 ∷ behind))) other
    ∙ behind_digits (front ++ c ∷ []) digits behind x parts.1 (ap (λ text. both_ports text behind) (append_assoc front (c ∷ []) digits) ∙ e)

-- Networks

-- what is found passes the test, and is one of the numbers that are tried
found_passes : (p : ℕ → Bool) (a n m : ℕ) → find p (range_with_len a n) ≡ Some m → (p m ≡ true) × (m < a + n)
found_passes p a zero m e = absurd cc
found_passes p a (suc n) m e = by_test (p a) refl (λ k. found_passes p (a + 1) n m k) e
  where
    by_test : (b : Bool) → p a ≡ b → (find p (range_with_len (a + 1) n) ≡ Some m → (p m ≡ true) × (m < a + 1 + n)) → cond b (Some a) (find p (range_with_len (a + 1) n)) ≡ Some m
        → (p m ≡ true) × (m < a + suc n)
    by_test true h rest k = (let same : a ≡ m = cc in (ap p (sym same) ∙ h, omega arith))
    by_test false h rest k = (let is = rest k in let lt : m < a + 1 + n = is.1 in (is.0, omega arith))

pub record IsNetwork (n : ℕ) (iv : Iv) : Type 0 where
  pub short : n ≤ 32
  pub clear : iv.lo % 2 ^ (32 - n) ≡ 0
  pub last : iv.hi ≡ iv.lo + (2 ^ (32 - n) - 1)

pub network_known : (n : ℕ) (iv : Iv) → network_len iv ≡ Some n → IsNetwork n iv
unfolding network_len
network_known n iv e =
    let is = found_passes (λ n. is_network n iv) 0 33 n e in
    let p = and_parts (nat_eq (iv.lo % 2 ^ (32 - n)) 0) (nat_eq (iv.hi + 1) (iv.lo + 2 ^ (32 - n))) is.0 in
    let lt : n < 0 + 33 = is.1 in
    let end : iv.hi + 1 ≡ iv.lo + 2 ^ (32 - n) = eqb-true (iv.hi + 1) (iv.lo + 2 ^ (32 - n)) p.1 in
    let some : 0 < 2 ^ (32 - n) = pow_pos (32 - n) in
    record { short = omega arith; clear = eqb-true (iv.lo % 2 ^ (32 - n)) 0 p.0; last = omega arith }

first_bits_kept : (a n : ℕ) → a % 2 ^ (32 - n) ≡ 0 → first_bits n a ≡ a
unfolding first_bits
first_bits_kept a n h = omega arith

block_kept : (a n : ℕ) → a % 2 ^ (32 - n) ≡ 0 → a - a % 2 ^ (32 - n) ≡ a
block_kept a n h = omega arith

module _ (laws : Laws) where
  -- Words of values

  pub number_digits : (n : ℕ) → list_all is_digit (decimal n) ≡ true
  number_digits n = (laws.digits n).0

  pub number_some : (n : ℕ) → decimal n ≢ []
  number_some n = (laws.digits n).1

  number_bytes : (n : ℕ) → list_all is_value_byte (decimal n) ≡ true
  number_bytes n = all_weaker is_digit is_value_byte digit_value (decimal n) (number_digits n)

  address_bytes : (a : ℕ) → list_all is_value_byte (dotted a) ≡ true
  address_bytes a = all_weaker is_dotted_byte is_value_byte dotted_value (dotted a) (laws.dotted_bytes a).0

  pub number_bare : (n : ℕ) → is_bare (decimal n) ≡ true
  number_bare n = value_bare (decimal n) (number_some n) (number_bytes n)

  pub address_bare : (a : ℕ) → is_bare (dotted a) ≡ true
  address_bare a = value_bare (dotted a) (laws.dotted_bytes a).1 (address_bytes a)

  net_bytes : (a n : ℕ) → list_all is_value_byte (net_word a n) ≡ true
  net_bytes a n =
      list_all-append is_value_byte (dotted a) (47 ∷ decimal n)
      ∙ and_from (list_all is_value_byte (dotted a)) (list_all is_value_byte (47 ∷ decimal n)) (address_bytes a) (number_bytes n)

  pub net_bare : (a n : ℕ) → is_bare (net_word a n) ≡ true
  net_bare a n = value_bare (net_word a n) (some_front (dotted a) (47 ∷ decimal n) (laws.dotted_bytes a).1) (net_bytes a n)

  pub tag_bare : (n : ℕ) → is_bare (tag_name n) ≡ true
  tag_bare n = some_bare (tag_name n) (λ e. absurd cc) (and_from (is_inner 110) (list_all is_inner (decimal n)) refl (all_weaker is_value_byte is_inner value_inner (decimal n) (number_bytes n)))

  pub ports_bare : (iv : Iv) → is_bare (ports_word iv) ≡ true
  ports_bare iv =
      cond_both (nat_eq iv.lo iv.hi) (decimal iv.lo) (decimal iv.lo ++ 58 ∷ decimal iv.hi) (λ text. is_bare text ≡ true) (λ e. number_bare iv.lo)
      (λ e.
      value_bare (decimal iv.lo ++ 58 ∷ decimal iv.hi) (some_front (decimal iv.lo) (58 ∷ decimal iv.hi) (number_some iv.lo))
      (list_all-append is_value_byte (decimal iv.lo) (58 ∷ decimal iv.hi)
      ∙ and_from (list_all is_value_byte (decimal iv.lo)) (list_all is_value_byte (58 ∷ decimal iv.hi)) (number_bytes iv.lo) (number_bytes iv.hi)))

  -- Addresses and networks

  -- a text with a byte that isn't in addresses is none
  pub no_quad : (text : List ℕ) → list_all is_dotted_byte text ≡ false → quad_of text ≡ None
  no_quad text h = elim (option_cases (quad_of text)) [
    | inl e ↦ e
    | inr e ↦ never (sym h ∙ ap (list_all is_dotted_byte) (laws.quads.1 text e.0 e.1).1 ∙ (laws.dotted_bytes e.0).0)
  ]

  pub net_no_quad : (a n : ℕ) → quad_of (net_word a n) ≡ None
  net_no_quad a n =
      no_quad (net_word a n) (list_all-append is_dotted_byte (dotted a) (47 ∷ decimal n) ∙ and_right (list_all is_dotted_byte (dotted a)) (list_all is_dotted_byte (47 ∷ decimal n)) refl)

  pub net_prefix : (a n : ℕ) → a < 2 ^ 32 → n ≤ 32 → a % 2 ^ (32 - n) ≡ 0 → prefix_of (net_word a n) ≡ Some (record { addr = a; len = n })
  net_prefix a n low short clear = laws.prefixes a n low short ∙ ap (λ (x : ℕ). let p : Prefix = record { addr = x; len = n } in Some p) (first_bits_kept a n clear)

  no_split : (text : List ℕ) → lacks 58 text ≡ true → split_once 58 text ≡ None
  no_split [] h = refl
  no_split (c ∷ text) h =
      let parts = and_parts (not (nat_eq c 58)) (lacks 58 text) h in
      if_false (nat_eq c 58) (Some ([], text)) _ (not-true (nat_eq c 58) parts.0) ∙ ap (option_map (λ parts. (c ∷ parts.0, parts.1))) (no_split text parts.1)

  net_lacks : (a n : ℕ) → lacks 58 (net_word a n) ≡ true
  net_lacks a n =
      list_all-append (λ c. not (nat_eq c 58)) (dotted a) (47 ∷ decimal n)
      ∙ and_from (lacks 58 (dotted a)) (lacks 58 (47 ∷ decimal n)) (lacks_by is_dotted_byte 58 refl (dotted a) (laws.dotted_bytes a).0) (lacks_by is_digit 58 refl (decimal n) (number_digits n))

  iv_same : (iv : Iv) (lo hi : ℕ) → lo ≡ iv.lo → hi ≡ iv.hi → one lo hi ≡ iv ∷ []
  iv_same iv lo hi h k = ap (λ x. one x hi) h ∙ ap (one iv.lo) k

  pub net_part : (site : Site) (n : ℕ) (iv : Iv) → iv.lo < 2 ^ 32 → IsNetwork n iv → host_part site (net_word iv.lo n) ≡ Ok (parts.Set (iv ∷ []))
  net_part site n iv low is =
      let text = net_word iv.lo n in
      let bytes = net_bytes iv.lo n in
      let kept = block_kept iv.lo n is.clear in
      if_false (bytes_eq text (codes "any")) (Ok parts.Every) _ (off_word text (codes "any") bytes refl)
      ∙ if_false (bytes_eq text (codes "self")) (Ok (parts.Set (self_set site))) _ (off_word text (codes "self") bytes refl)
      ∙ if_false (is_route_word text) (Err LeftOut) (option_map_or (modified_part site) (split_once 58 text) (network_part site text))
      (or_from (bytes_eq text (codes "no-route")) (bytes_eq text (codes "urpf-failed")) (off_word text (codes "no-route") bytes refl) (off_word text (codes "urpf-failed") bytes refl))
      ∙ ap (λ o. option_map_or (modified_part site) o (network_part site text)) (no_split text (net_lacks iv.lo n))
      ∙ ap (λ o. option_map_or (λ net. Ok (parts.Set (block net.len net.addr ∷ []))) o (cond (begins_with_digit text) (Err Syntax) (face_part site text))) (net_prefix iv.lo n low is.short is.clear)
      ∙ ap (λ s. Ok (parts.Set s)) (iv_same iv (iv.lo - iv.lo % 2 ^ (32 - n)) ((iv.lo - iv.lo % 2 ^ (32 - n)) + (2 ^ (32 - n) - 1)) kept (ap (λ k. k + (2 ^ (32 - n) - 1)) kept ∙ sym is.last))

  pub range_read : (lo hi : ℕ) → lo ≤ hi → hi < 2 ^ 32 → range_part lo (dotted hi) ≡ Ok (parts.Set (one lo hi))
  range_read lo hi order high =
      ap (λ o. option_map_or (λ hi. cond (nat_le lo hi) (Ok (parts.Set (one lo hi))) (Err Syntax)) o (Err Syntax)) (laws.quads.0 hi high)
      ∙ if_true (nat_le lo hi) (Ok (parts.Set (one lo hi))) (Err Syntax) (le-leb lo hi order)

  pub address_no_dash : (a : ℕ) → bytes_eq (dotted a) (codes "-") ≡ false
  address_no_dash a = texts_differ is_dotted_byte (dotted a) (codes "-") (laws.dotted_bytes a).0 refl

  -- Ports

  pub port_read : (p : ℕ) → p ≤ 65535 → port_of (decimal p) ≡ Some p
  port_read p h = (let short : p < 2 ^ 64 = omega arith in ap (λ o. option_map_or Some o (service_of (decimal p))) (laws.decimals p 65535 short h))

  both_read : (lo hi : ℕ) → lo ≤ 65535 → hi ≤ 65535 → both_ports (decimal lo) (decimal hi) ≡ Some (lo, hi)
  both_read lo hi h k =
      ap (λ o. option_map_or (λ lo. option_map_or (λ hi. Some (lo, hi)) (port_of (decimal hi)) None) o None) (port_read lo h)
      ∙ ap (λ o. option_map_or (λ hi. Some (lo, hi)) o None) (port_read hi k)

  pub range_no_port : (lo hi : ℕ) → port_of (decimal lo ++ 58 ∷ decimal hi) ≡ None
  range_no_port lo hi = no_port (decimal lo) (decimal hi) (number_some lo) (number_digits lo)

  pub port_range_read : (lo hi : ℕ) → lo ≤ hi → hi ≤ 65535 → port_range_part (decimal lo ++ 58 ∷ decimal hi) ≡ Ok (parts.Set (one lo hi))
  port_range_read lo hi order high =
      let low : lo ≤ 65535 = omega arith in
      ap (λ o. ok_or (option_map (λ range. parts.Set (one range.0 range.1)) (option_and_then in_order o)) Syntax)
      (behind_digits [] (decimal lo) (decimal hi) (lo, hi) (number_digits lo) (both_read lo hi low high))
      ∙ ap (λ b. ok_or (option_map (λ (range : ℕ × ℕ). parts.Set (one range.0 range.1)) (cond b (Some (lo, hi)) None)) Syntax) (le-leb lo hi order)

  pub port_begins : (lo : ℕ) (rest : List ℕ) → begins_with_digit (decimal lo ++ rest) ≡ true
  port_begins lo rest = digit_begins (decimal lo) rest (number_some lo) (number_digits lo)

  -- Types and protocols

  pub type_read : (n : ℕ) → n ≤ 255 → icmp_type_part (decimal n) ≡ Ok (parts.Set (one n n))
  type_read n h =
      let short : n < 2 ^ 64 = omega arith in
      if_false (bytes_eq (decimal n) (codes "code")) (Err LeftOut) _ (texts_differ is_digit (decimal n) (codes "code") (number_digits n) refl)
      ∙ ap (λ o. ok_or (option_map (λ n. parts.Set (one n n)) (option_map_or Some o (icmp_type_named (decimal n)))) Syntax) (laws.decimals n 255 short h)

  numbered : (n : ℕ) → n ≤ 255 → protocol_part (decimal n) ≡ Ok (parts.Set (one n n))
  numbered n h =
      let short : n < 2 ^ 64 = omega arith in
      ap (λ o. ok_or (option_map (λ n. parts.Set (one n n)) (option_map_or Some o (protocol_named (decimal n)))) Syntax) (laws.decimals n 255 short h)

  -- one number is read as this set
  abbrev Numbered : ℕ → List Iv → Type 0
  Numbered k set = (let x : Result Part Cause = Ok (parts.Set (one k k)) in x ≡ Ok (parts.Set set))

  pub protocol_read : (n : ℕ) → n ≤ 255 → protocol_part (protocol_name n) ≡ Ok (parts.Set (one n n))
  unfolding protocol_named
  protocol_read n h =
      let same : (k : ℕ) → n ≡ k → Numbered k (one n n) = λ k e. ap (λ k. Ok (parts.Set (one k k))) (sym e) in
      cond_both (nat_eq n 1) (codes "icmp") (cond (nat_eq n 6) (codes "tcp") (cond (nat_eq n 17) (codes "udp") (decimal n))) (λ text. protocol_part text ≡ Ok (parts.Set (one n n)))
      (λ e. same 1 (eqb-true n 1 e))
      (λ e1.
      cond_both (nat_eq n 6) (codes "tcp") (cond (nat_eq n 17) (codes "udp") (decimal n)) (λ text. protocol_part text ≡ Ok (parts.Set (one n n)))
      (λ e. same 6 (eqb-true n 6 e))
      (λ e2.
      cond_both (nat_eq n 17) (codes "udp") (decimal n) (λ text. protocol_part text ≡ Ok (parts.Set (one n n))) (λ e. same 17 (eqb-true n 17 e)) (λ e3. numbered n h)))

  pub protocol_bare : (n : ℕ) → is_bare (protocol_name n) ≡ true
  protocol_bare n =
      cond_both (nat_eq n 1) (codes "icmp") (cond (nat_eq n 6) (codes "tcp") (cond (nat_eq n 17) (codes "udp") (decimal n))) (λ text. is_bare text ≡ true)
      (λ e. refl)
      (λ e.
      cond_both (nat_eq n 6) (codes "tcp") (cond (nat_eq n 17) (codes "udp") (decimal n)) (λ text. is_bare text ≡ true)
      (λ e. refl) (λ e. cond_both (nat_eq n 17) (codes "udp") (decimal n) (λ text. is_bare text ≡ true) (λ e. refl) (λ e. number_bare n)))
