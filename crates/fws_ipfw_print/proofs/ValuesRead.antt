-- Numbers, addresses, ports, types, flags and protocols are read as what they spell.
use Rattle.std.proofs.Common.{◌≡◌, ◌≢◌, ◌⊎◌, ℕ, zero, suc, ◌+◌, ◌-◌, ◌^◌, ◌<◌, ◌≤◌, Bool, true, false, cond, ◌&&◌, ◌||◌, not, nat_eq, nat_le, nat_lt, bit_and, bit_or, Option, Some, None, is_some, option_map, option_and_then, Ok, Err, List, [], ◌∷◌, ◌++◌, map, length, codes, decimal, refl, ap, ap₂, sym, ◌∙◌, append_assoc, append-nil, arith, inl, inr}
use Rattle.std.proofs.lemmas.Bool.{and_from, and_parts, and_right, leb-true, le-leb, eqb-true, eqb-false, eq-eqb, ne_eqb, not-true, cond_both, cases_Bool, false_from_ne_true, true≢false}
use Rattle.std.proofs.lemmas.Nat.{and_le_l}
use Rattle.std.proofs.lemmas.List.Folds.{list_all-append}
use Rattle.std.proofs.lemmas.Slice.Eq.{bytes_eq-Decides}
use Rattle.std.specs.List.{flat_map, join_by, list_all, range_with_len}
use Rattle.std.specs.Option.{option_map_or}
use Rattle.std.specs.Str.{bytes_eq}
use Rattle.fws_num.specs.declared.prefix.Prefix.{Prefix}
use Rattle.fws_num.specs.Named.{named_in}
use Rattle.fws_num.specs.Numbers.{dec_of, digits_value, is_digit, lacks}
use Rattle.fws_num.specs.Pieces.{pieces_of}
use Rattle.fws_num.specs.Protocols.{protocol_named, protocol_of}
use Rattle.fws_num.specs.Services.{both_ports, port_of, ports_behind, ports_between, service_names, service_of}
use Rattle.fws_num.specs.Written.{has_slashes}
use Rattle.fws_iv.specs.declared.iv.Iv.{Iv}
use Rattle.fws_iv.specs.Ivs.{has, with_range, with_ranges}
use Rattle.fws_net.specs.declared.site.Site.{Site}
use Rattle.fws_net.specs.declared.cause.Cause.TheVariants.{Syntax}
use Rattle.fws_net.specs.declared.condition.Test.TheVariants as tests
use Rattle.fws_net.specs.Faces.{local_parts}
use Rattle.fws_net.specs.Ports.{in_order, port_range, ports_of, with_ports}
use Rattle.fws_rules.specs.Literals.{positive}
use Rattle.fws_ipfw.specs.declared.draft.Flags.{Flags}
use Rattle.fws_ipfw.specs.Options.{begins_with_digit}
use Rattle.fws_ipfw.specs.Values.{addresses_of, counted, flag_of, flags_meaning, flags_test, protocol_value, with_flags, with_networks, with_types}
use Rattle.fws_print.specs.Sets.{are_flags, are_ranges, ascend_from}
use Rattle.fws_print.specs.Words.{protocol_name}
use Rattle.fws_ipfw_print.specs.PrintedText.{addresses_word, blocks_of, flags_word, numbers_of, numbers_word, prefix_word, range_word, ranges_word}
use Rattle.fws_ipfw_print.proofs.Basics.{if_true, if_false, never, texts_differ}
use Rattle.fws_ipfw_print.proofs.Blocks.{block_range, blocks_ordered, is_address_range, is_good, prefix_bytes, prefix_lacks, prefix_slashes, prefix_some, prefixes_read, range_blocks, set_blocks_good}
use Rattle.fws_ipfw_print.proofs.Laws.{Laws}
use Rattle.fws_ipfw_print.proofs.MadeSets.{alone, alone_ordered, ascending_ordered, ascending_within, first_known, is_ordered, made_up, parts_members, range_numbers}
use Rattle.fws_ipfw_print.proofs.Tame.{is_tame, is_value_byte, joined_divided, joined_values, joined_tame, number_bytes, number_digits, number_lacks, number_tame, slashes_behind}

-- Sets that have a member

-- the first range of a set has a member
first_member : (iv : Iv) (set : List Iv) → iv.lo ≤ iv.hi → has (iv ∷ set) iv.lo ≡ true
first_member iv set h =
    ap (λ b. b || has set iv.lo) (and_from (nat_le iv.lo iv.lo) (nat_le iv.lo iv.hi) (le-leb iv.lo iv.lo (omega arith)) (le-leb iv.lo iv.hi h))

-- ranges are those of a set only if there are some
none_made : {A : Type 0} (most : ℕ) (set : List Iv) → are_ranges most set ≡ true → ((v : ℕ) → false ≡ has set v) → A
none_made most [] h same = never h
none_made most (iv ∷ set) h same = never (same iv.lo ∙ first_member iv set (first_known most 0 iv set h).order)

ranges_ascend : (most : ℕ) (set : List Iv) → are_ranges most set ≡ true → ascend_from most 0 set ≡ true
ranges_ascend most [] h = never h
ranges_ascend most (iv ∷ set) h = h

-- Flags

reads_flags : ℕ → ℕ → Bool
reads_flags mask want =
    option_map_or (λ flags. nat_eq (bit_or flags.on flags.off) mask && nat_eq flags.on want && nat_eq (bit_and flags.on flags.off) 0)
    (with_flags (record { on = 0; off = 0 }) (pieces_of 44 (flags_word mask want))) false
    && is_tame (flags_word mask want)

abbrev passes : ℕ → ℕ → Bool
passes mask want = not (are_flags mask want) || reads_flags mask want

all_pass : list_all (λ mask. list_all (passes mask) (range_with_len 0 64)) (range_with_len 0 64) ≡ true
unfolding reads_flags flags_word flag_of
all_pass = refl

-- what is known of flags that are printed
record AreRead (mask want : ℕ) : Type 0 where
  flags : Flags
  read : with_flags (record { on = 0; off = 0 }) (pieces_of 44 (flags_word mask want)) ≡ Some flags
  tested : bit_or flags.on flags.off ≡ mask
  wanted : flags.on ≡ want
  apart : bit_and flags.on flags.off ≡ 0
  word : is_tame (flags_word mask want) ≡ true

flags_by : (mask want : ℕ) (o : Option Flags) → with_flags (record { on = 0; off = 0 }) (pieces_of 44 (flags_word mask want)) ≡ o
    → (option_map_or (λ flags. nat_eq (bit_or flags.on flags.off) mask && nat_eq flags.on want && nat_eq (bit_and flags.on flags.off) 0) o false && is_tame (flags_word mask want)) ≡ true → AreRead mask want
flags_by mask want None e h = never h
flags_by mask want (Some flags) e h =
    let last = and_parts (nat_eq (bit_or flags.on flags.off) mask && nat_eq flags.on want && nat_eq (bit_and flags.on flags.off) 0) (is_tame (flags_word mask want)) h in
    let third = and_parts (nat_eq (bit_or flags.on flags.off) mask && nat_eq flags.on want) (nat_eq (bit_and flags.on flags.off) 0) last.0 in
    let first = and_parts (nat_eq (bit_or flags.on flags.off) mask) (nat_eq flags.on want) third.0 in
    record {
      flags = flags;
      read = e;
      tested = eqb-true (bit_or flags.on flags.off) mask first.0;
      wanted = eqb-true flags.on want first.1;
      apart = eqb-true (bit_and flags.on flags.off) 0 third.1;
      word = last.1;
    }

order_cases : (a m : ℕ) → a ≤ m → (a ≡ m) ⊎ (a < m)
order_cases a m low =
    elim (cases_Bool (nat_eq a m)) [
      | inl e ↦ inl (eqb-true a m e)
      | inr e ↦ (let other : a ≢ m = eqb-false a m e in inr (omega arith))
    ]

-- a number below n is among those from 0 on
at_number : (p : ℕ → Bool) (a n m : ℕ) → list_all p (range_with_len a n) ≡ true → a ≤ m → m < a + n → p m ≡ true
at_number p a zero m h low high = absurd (omega arith)
at_number p a (suc n) m h low high =
    let parts = and_parts (p a) (list_all p (range_with_len (a + 1) n)) h in
    elim (order_cases a m low) [
      | inl e ↦ ap p (sym e) ∙ parts.0
      | inr lt ↦ at_number p (a + 1) n m parts.1 (omega arith) (omega arith)
    ]

either : (a b : Bool) → a ≡ true → (not a || b) ≡ true → b ≡ true
either true b h k = k
either false b h k = never h

-- flags that are printed have six bits
flags_small : (mask want : ℕ) → are_flags mask want ≡ true → (mask ≤ 63) × (want ≤ 63)
flags_small mask want h =
    let last = and_parts (nat_lt 0 mask && nat_le mask 63) (nat_eq (bit_and mask want) want) h in
    let first = and_parts (nat_lt 0 mask) (nat_le mask 63) last.0 in
    let small : mask ≤ 63 = leb-true mask 63 first.1 in
    let least : bit_and mask want ≤ mask = and_le_l mask want in
    let same : bit_and mask want ≡ want = eqb-true (bit_and mask want) want last.1 in
    (small, omega arith)

flags_known : (mask want : ℕ) → are_flags mask want ≡ true → AreRead mask want
unfolding reads_flags
flags_known mask want h =
    let small = flags_small mask want h in
    let row = at_number (λ mask. list_all (passes mask) (range_with_len 0 64)) 0 64 mask all_pass (omega arith) (omega (arith, small.0)) in
    let cell = at_number (passes mask) 0 64 want row (omega arith) (omega (arith, small.1)) in
    flags_by mask want (with_flags (record { on = 0; off = 0 }) (pieces_of 44 (flags_word mask want))) refl (either (are_flags mask want) (reads_flags mask want) h cell)

pub flags_read : (mask want : ℕ) → are_flags mask want ≡ true → flags_meaning (flags_word mask want) ≡ Ok (positive (tests.Flags mask want))
flags_read mask want h =
    let k = flags_known mask want h in
    let on : ℕ = k.flags.on in
    let off : ℕ = k.flags.off in
    ap (λ o. option_map_or (λ flags. Ok (positive (flags_test flags))) o (Err Syntax)) k.read
    ∙ ap (λ b. Ok (positive (cond b (tests.Flags (bit_or on off) on) tests.Never))) (eq-eqb (bit_and on off) 0 k.apart)
    ∙ ap₂ (λ m w. Ok (positive (tests.Flags m w))) k.tested k.wanted

pub flags_tame : (mask want : ℕ) → are_flags mask want ≡ true → is_tame (flags_word mask want) ≡ true
flags_tame mask want h = (flags_known mask want h).word

-- Names of services and protocols begin with no digit

named_without : {X : Type 0} (p : List ℕ → Bool) (rows : List (List ℕ × X)) (text : List ℕ) → list_all (λ row. not (p row.0)) rows ≡ true → p text ≡ true → named_in rows text ≡ None
named_without p [] text h k = refl
named_without p (row ∷ rows) text h k =
    let parts = and_parts (not (p row.0)) (list_all (λ row. not (p row.0)) rows) h in
    let other : bytes_eq text row.0 ≡ false =
    false_from_ne_true (bytes_eq text row.0) (λ e. true≢false (sym k ∙ ap p ((bytes_eq-Decides text row.0).0 e) ∙ not-true (p row.0) parts.0)) in
    if_false (bytes_eq text row.0) (Some row.1) (named_in rows text) other ∙ named_without p rows text parts.1 k

pub digit_begins : (digits rest : List ℕ) → digits ≢ [] → list_all is_digit digits ≡ true → begins_with_digit (digits ++ rest) ≡ true
digit_begins [] rest some h = absurd (some refl)
digit_begins (c ∷ digits) rest some h = (and_parts (is_digit c) (list_all is_digit digits) h).0

no_digits : (front behind : List ℕ) → list_all is_digit (front ++ 45 ∷ behind) ≡ false
no_digits front behind = list_all-append is_digit front (45 ∷ behind) ∙ and_right (list_all is_digit front) (list_all is_digit (45 ∷ behind)) refl

not_dec : (text : List ℕ) (most : ℕ) → list_all is_digit text ≡ false → dec_of text most ≡ None
not_dec text most h = ap (λ b. cond (b && nat_le 1 (length text) && nat_le (length text) 20 && nat_le (digits_value text) most) (Some (digits_value text)) None) h

-- two numbers with a dash between are no port
no_port : (front behind : List ℕ) → front ≢ [] → list_all is_digit front ≡ true → port_of (front ++ 45 ∷ behind) ≡ None
unfolding service_of
no_port front behind some digits =
    let text = front ++ 45 ∷ behind in
    ap (λ o. option_map_or Some o (service_of text)) (not_dec text 65535 (no_digits front behind))
    ∙ named_without begins_with_digit service_names text refl (digit_begins front (45 ∷ behind) some digits)

behind_digits : (front digits behind : List ℕ) (x : ℕ × ℕ) → list_all is_digit digits ≡ true → both_ports (front ++ digits) behind ≡ Some x
    → ports_behind front 45 (digits ++ 45 ∷ behind) ≡ Some x
behind_digits front [] behind x h e =
    let both : both_ports front behind ≡ Some x = ap (λ text. both_ports text behind) (sym (append-nil front)) ∙ e in
    ap (λ o. cond (is_some o) o (ports_behind (front ++ 45 ∷ []) 45 behind)) both
behind_digits front (c ∷ digits) behind x h e =
    let parts = and_parts (is_digit c) (list_all is_digit digits) h in
    let other : nat_eq c 45 ≡ false = false_from_ne_true (nat_eq c 45) (λ k. true≢false (sym parts.0 ∙ ap is_digit (eqb-true c 45 k))) in
    ap (λ b. cond (b && is_some (both_ports front (digits ++ 45 ∷ behind))) (both_ports front (digits ++ 45 ∷ behind)) (ports_behind (front ++ c ∷ []) 45 (digits ++ 45 ∷ behind))) other
    ∙ behind_digits (front ++ c ∷ []) digits behind x parts.1 (ap (λ text. both_ports text behind) (append_assoc front (c ∷ []) digits) ∙ e)

module _ (laws : Laws) where
  -- Numbers

  pub counted_read : (n most : ℕ) → 1 ≤ n → n ≤ most → most < 2 ^ 64 → counted most (decimal n) ≡ Some n
  counted_read n most some within small =
      let short : n < 2 ^ 64 = omega arith in
      let other : n ≢ 0 = λ e. omega arith in
      ap (option_and_then (λ n. cond (nat_eq n 0) None (Some n))) (laws.decimals n most short within) ∙ if_false (nat_eq n 0) None (Some n) (ne_eqb n 0 other)

  -- Addresses

  no_words : (text word : List ℕ) → list_all is_value_byte text ≡ true → list_all is_value_byte word ≡ false → bytes_eq text word ≡ false
  no_words text word h k = texts_differ is_value_byte text word h k

  by_blocks : (site : Site) (set : List Iv) (nets : List Prefix) → are_ranges (2 ^ 32 - 1) set ≡ true → list_all is_good nets ≡ true → ((v : ℕ) → has (map block_range nets) v ≡ has set v)
      → (addresses_of site (join_by prefix_word (44 ∷ []) nets) ≡ Some (Some set)) × (is_tame (join_by prefix_word (44 ∷ []) nets) ≡ true) × (list_all is_value_byte (join_by prefix_word (44 ∷ []) nets) ≡ true)
  by_blocks site set [] h goods same = none_made (2 ^ 32 - 1) set h same
  by_blocks site set (net ∷ nets) h goods same =
      let text = join_by prefix_word (44 ∷ []) (net ∷ nets) in
      let tame = joined_tame prefix_word (prefix_some laws) (prefix_bytes laws) (prefix_slashes laws) net nets in
      let bytes = joined_values prefix_word (prefix_bytes laws) net nets in (
        if_false (bytes_eq text (codes "any")) (Some None) _ (no_words text (codes "any") bytes refl)
            ∙ if_false (bytes_eq text (codes "me")) (Some (Some (local_parts site))) (option_map Some (with_networks [] (pieces_of 44 text))) (no_words text (codes "me") bytes refl)
            ∙ ap (λ items. option_map Some (with_networks [] items)) (joined_divided prefix_word laws (prefix_lacks laws) net nets)
            ∙ ap (option_map Some) (prefixes_read laws [] (net ∷ nets) goods)
            ∙ ap (λ s. Some (Some s)) (made_up laws (2 ^ 32 - 1) set (map block_range (net ∷ nets)) (ranges_ascend (2 ^ 32 - 1) set h) (blocks_ordered (net ∷ nets)) same),
        tame,
        bytes,
      )

  pub addresses_read : (site : Site) (set : List Iv) → are_ranges (2 ^ 32 - 1) set ≡ true → (addresses_of site (addresses_word set) ≡ Some (Some set)) × (is_tame (addresses_word set) ≡ true) × (list_all is_value_byte (addresses_word set) ≡ true)
  addresses_read site set h =
      by_blocks site set (flat_map blocks_of set) h (set_blocks_good set)
      (parts_members block_range blocks_of is_address_range range_blocks set (ascending_within (2 ^ 32 - 1) 0 set (ranges_ascend (2 ^ 32 - 1) set h)))

  -- Types

  types_read : (set : List Iv) (numbers : List ℕ) → list_all (λ n. nat_le n 255) numbers ≡ true → with_types set (map decimal numbers) ≡ Some (with_ranges set (map alone numbers))
  types_read set [] h = refl
  types_read set (n ∷ numbers) h =
      let parts = and_parts (nat_le n 255) (list_all (λ n. nat_le n 255) numbers) h in
      let within : n ≤ 255 = leb-true n 255 parts.0 in
      let short : n < 2 ^ 64 = omega arith in
      ap (option_and_then (λ n. with_types (with_range n n set) (map decimal numbers))) (laws.decimals n 255 short within) ∙ types_read (with_range n n set) numbers parts.1

  number_slashes : (n : ℕ) (rest : List ℕ) → has_slashes (decimal n ++ rest) ≡ has_slashes rest
  number_slashes n rest = slashes_behind (decimal n) rest (number_lacks laws 47 n refl)

  by_numbers : (set : List Iv) (numbers : List ℕ) → are_ranges 255 set ≡ true → list_all (λ n. nat_le n 255) numbers ≡ true → ((v : ℕ) → has (map alone numbers) v ≡ has set v)
      → (with_types [] (pieces_of 44 (join_by decimal (44 ∷ []) numbers)) ≡ Some set) × (is_tame (join_by decimal (44 ∷ []) numbers) ≡ true)
  by_numbers set [] h small same = none_made 255 set h same
  by_numbers set (n ∷ numbers) h small same = (
    ap (with_types []) (joined_divided decimal laws (λ n. number_lacks laws 44 n refl) n numbers)
        ∙ types_read [] (n ∷ numbers) small
        ∙ ap (λ s. Some s) (made_up laws 255 set (map alone (n ∷ numbers)) (ranges_ascend 255 set h) (alone_ordered (n ∷ numbers)) same),
    joined_tame decimal (λ n. (laws.digits n).1) (number_bytes laws) number_slashes n numbers,
  )

  small_numbers : (a k : ℕ) → a + k ≤ 256 → list_all (λ n. nat_le n 255) (range_with_len a k) ≡ true
  small_numbers a zero h = refl
  small_numbers a (suc k) h = (let low : a ≤ 255 = omega arith in and_from (nat_le a 255) (list_all (λ n. nat_le n 255) (range_with_len (a + 1) k)) (le-leb a 255 low) (small_numbers (a + 1) k (omega arith)))

  all_small : (set : List Iv) → list_all is_ordered set ≡ true → list_all (λ iv. nat_le iv.hi 255) set ≡ true → list_all (λ n. nat_le n 255) (flat_map numbers_of set) ≡ true
  all_small [] h k = refl
  all_small (iv ∷ set) h k =
      let order = and_parts (is_ordered iv) (list_all is_ordered set) h in
      let within = and_parts (nat_le iv.hi 255) (list_all (λ iv. nat_le iv.hi 255) set) k in
      let low : iv.lo ≤ iv.hi = leb-true iv.lo iv.hi order.0 in
      let high : iv.hi ≤ 255 = leb-true iv.hi 255 within.0 in
      let fits : iv.lo + (iv.hi + 1 - iv.lo) ≤ 256 = omega arith in
      list_all-append (λ n. nat_le n 255) (numbers_of iv) (flat_map numbers_of set)
      ∙ and_from (list_all (λ n. nat_le n 255) (numbers_of iv)) (list_all (λ n. nat_le n 255) (flat_map numbers_of set)) (small_numbers iv.lo (iv.hi + 1 - iv.lo) fits) (all_small set order.1 within.1)

  pub numbers_read : (set : List Iv) → are_ranges 255 set ≡ true → (with_types [] (pieces_of 44 (numbers_word set)) ≡ Some set) × (is_tame (numbers_word set) ≡ true)
  numbers_read set h =
      let rise = ranges_ascend 255 set h in
      let order = ascending_ordered 255 0 set rise in
      by_numbers set (flat_map numbers_of set) h (all_small set order (ascending_within 255 0 set rise)) (parts_members alone numbers_of is_ordered range_numbers set order)

  -- Ports

  pub port_read : (p : ℕ) → p ≤ 65535 → port_of (decimal p) ≡ Some p
  port_read p h = (let short : p < 2 ^ 64 = omega arith in ap (λ o. option_map_or Some o (service_of (decimal p))) (laws.decimals p 65535 short h))

  both_read : (lo hi : ℕ) → lo ≤ 65535 → hi ≤ 65535 → both_ports (decimal lo) (decimal hi) ≡ Some (lo, hi)
  both_read lo hi h k =
      ap (λ o. option_map_or (λ lo. option_map_or (λ hi. Some (lo, hi)) (port_of (decimal hi)) None) o None) (port_read lo h)
      ∙ ap (λ o. option_map_or (λ hi. Some (lo, hi)) o None) (port_read hi k)

  item_read : (iv : Iv) → iv.lo ≤ iv.hi → iv.hi ≤ 65535 → port_range 45 (range_word iv) ≡ Some (iv.lo, iv.hi)
  item_read iv order high =
      let low : iv.lo ≤ 65535 = omega arith in
      let both = decimal iv.lo ++ 45 ∷ decimal iv.hi in
      cond_both (nat_eq iv.lo iv.hi) (decimal iv.lo) both (λ text. port_range 45 text ≡ Some (iv.lo, iv.hi))
      (λ e.
      ap (λ o. option_map_or (λ p. Some (p, p)) o (option_and_then in_order (ports_between 45 (decimal iv.lo)))) (port_read iv.lo low)
      ∙ ap (λ hi. Some (iv.lo, hi)) (eqb-true iv.lo iv.hi e))
      (λ e.
      ap (λ o. option_map_or (λ p. Some (p, p)) o (option_and_then in_order (ports_between 45 both))) (no_port (decimal iv.lo) (decimal iv.hi) (laws.digits iv.lo).1 (number_digits laws iv.lo))
      ∙ ap (option_and_then in_order) (behind_digits [] (decimal iv.lo) (decimal iv.hi) (iv.lo, iv.hi) (number_digits laws iv.lo) (both_read iv.lo iv.hi low high))
      ∙ if_true (nat_le iv.lo iv.hi) (Some (iv.lo, iv.hi)) None (le-leb iv.lo iv.hi order))

  items_read : (seen later : List Iv) → list_all is_ordered later ≡ true → list_all (λ iv. nat_le iv.hi 65535) later ≡ true → with_ports 45 seen (map range_word later) ≡ Some (with_ranges seen later)
  items_read seen [] h k = refl
  items_read seen (iv ∷ later) h k =
      let order = and_parts (is_ordered iv) (list_all is_ordered later) h in
      let within = and_parts (nat_le iv.hi 65535) (list_all (λ iv. nat_le iv.hi 65535) later) k in
      ap (option_and_then (λ range. with_ports 45 (with_range range.0 range.1 seen) (map range_word later))) (item_read iv (leb-true iv.lo iv.hi order.0) (leb-true iv.hi 65535 within.0))
      ∙ items_read (with_range iv.lo iv.hi seen) later order.1 within.1

  range_some : (iv : Iv) → range_word iv ≢ []
  range_some iv =
      cond_both (nat_eq iv.lo iv.hi) (decimal iv.lo) (decimal iv.lo ++ 45 ∷ decimal iv.hi) (λ text. text ≢ []) (λ e. (laws.digits iv.lo).1) (λ e. front (decimal iv.lo) (45 ∷ decimal iv.hi) (laws.digits iv.lo).1)
    where
      front : (text rest : List ℕ) → text ≢ [] → text ++ rest ≢ []
      front [] rest some = absurd (some refl)
      front (c ∷ text) rest some = λ e. absurd cc

  range_bytes : (iv : Iv) → list_all is_value_byte (range_word iv) ≡ true
  range_bytes iv =
      cond_both (nat_eq iv.lo iv.hi) (decimal iv.lo) (decimal iv.lo ++ 45 ∷ decimal iv.hi) (λ text. list_all is_value_byte text ≡ true) (λ e. number_bytes laws iv.lo)
      (λ e.
      list_all-append is_value_byte (decimal iv.lo) (45 ∷ decimal iv.hi)
      ∙ and_from (list_all is_value_byte (decimal iv.lo)) (list_all is_value_byte (45 ∷ decimal iv.hi)) (number_bytes laws iv.lo) (number_bytes laws iv.hi))

  range_lacks : (byte : ℕ) → is_digit byte ≡ false → nat_eq 45 byte ≡ false → (iv : Iv) → lacks byte (range_word iv) ≡ true
  range_lacks byte h k iv =
      cond_both (nat_eq iv.lo iv.hi) (decimal iv.lo) (decimal iv.lo ++ 45 ∷ decimal iv.hi) (λ text. lacks byte text ≡ true) (λ e. number_lacks laws byte iv.lo h)
      (λ e.
      list_all-append (λ c. not (nat_eq c byte)) (decimal iv.lo) (45 ∷ decimal iv.hi)
      ∙ and_from (lacks byte (decimal iv.lo)) (lacks byte (45 ∷ decimal iv.hi)) (number_lacks laws byte iv.lo h)
      (and_from (not (nat_eq 45 byte)) (lacks byte (decimal iv.hi)) (ap not k) (number_lacks laws byte iv.hi h)))

  pub ranges_read : (set : List Iv) → are_ranges 65535 set ≡ true → (ports_of 45 (ranges_word set) ≡ Some set) × (is_tame (ranges_word set) ≡ true)
  ranges_read [] h = never h
  ranges_read (iv ∷ set) h =
      let order = ascending_ordered 65535 0 (iv ∷ set) h in (
        ap (with_ports 45 []) (joined_divided range_word laws (range_lacks 44 refl refl) iv set)
            ∙ items_read [] (iv ∷ set) order (ascending_within 65535 0 (iv ∷ set) h)
            ∙ ap (λ s. Some s) (made_up laws 65535 (iv ∷ set) (iv ∷ set) h order (λ v. refl)),
        joined_tame range_word range_some range_bytes (λ iv rest. slashes_behind (range_word iv) rest (range_lacks 47 refl refl iv)) iv set,
      )

  -- Protocols

  numbered : (n : ℕ) → n ≤ 255 → protocol_value (decimal n) ≡ Some (Some n)
  numbered n h =
      let short : n < 2 ^ 64 = omega arith in
      let all = bytes_eq (decimal n) (codes "all") in
      ap (λ b. cond (b || all) (Some None) (option_map Some (protocol_of (decimal n)))) (texts_differ is_digit (decimal n) (codes "ip") (number_digits laws n) refl)
      ∙ ap (λ b. cond b (Some None) (option_map Some (protocol_of (decimal n)))) (texts_differ is_digit (decimal n) (codes "all") (number_digits laws n) refl)
      ∙ ap (λ o. option_map Some (option_map_or Some o (protocol_named (decimal n)))) (laws.decimals n 255 short h)

  pub protocol_read : (n : ℕ) → n ≤ 255 → protocol_value (protocol_name n) ≡ Some (Some n)
  unfolding protocol_named
  protocol_read n h =
      cond_both (nat_eq n 1) (codes "icmp") (cond (nat_eq n 6) (codes "tcp") (cond (nat_eq n 17) (codes "udp") (decimal n))) (λ text. protocol_value text ≡ Some (Some n))
      (λ e. ap (λ k. Some (Some k)) (sym (eqb-true n 1 e)))
      (λ e1.
      cond_both (nat_eq n 6) (codes "tcp") (cond (nat_eq n 17) (codes "udp") (decimal n)) (λ text. protocol_value text ≡ Some (Some n))
      (λ e. ap (λ k. Some (Some k)) (sym (eqb-true n 6 e)))
      (λ e2.
      cond_both (nat_eq n 17) (codes "udp") (decimal n) (λ text. protocol_value text ≡ Some (Some n)) (λ e. ap (λ k. Some (Some k)) (sym (eqb-true n 17 e))) (λ e3. numbered n h)))

  pub protocol_tame : (n : ℕ) → is_tame (protocol_name n) ≡ true
  protocol_tame n =
      cond_both (nat_eq n 1) (codes "icmp") (cond (nat_eq n 6) (codes "tcp") (cond (nat_eq n 17) (codes "udp") (decimal n))) (λ text. is_tame text ≡ true)
      (λ e. refl)
      (λ e.
      cond_both (nat_eq n 6) (codes "tcp") (cond (nat_eq n 17) (codes "udp") (decimal n)) (λ text. is_tame text ≡ true)
      (λ e. refl) (λ e. cond_both (nat_eq n 17) (codes "udp") (decimal n) (λ text. is_tame text ≡ true) (λ e. refl) (λ e. number_tame laws n)))
