-- A list of ports is read as the set of its ranges.
use Rattle.std.proofs.Common.{◌≡◌, ℕ, ◌+◌, ◌<◌, ◌≤◌, Bool, true, false, cond, ◌&&◌, not, nat_eq, nat_le, nat_lt, Some, None, is_some, option_and_then, List, [], ◌∷◌, ◌++◌, map, decimal, refl, ap, sym, ◌∙◌, append_assoc, append-nil, arith}
use Rattle.std.proofs.lemmas.Bool.{and_from, and_parts, and_right, leb-true, ltb-true, le-leb, lt-ltb, eqb-true, cond_both, false_from_ne_true, true≢false}
use Rattle.std.proofs.lemmas.List.Folds.{list_all-append}
use Rattle.std.proofs.lemmas.Slice.Eq.{bytes_eq-Decides}
use Rattle.std.specs.List.{flat_map, join_by, join_with_byte, list_all}
use Rattle.std.specs.Option.{option_map_or}
use Rattle.std.specs.Str.{bytes_eq}
use Rattle.fws_num.specs.Named.{named_in}
use Rattle.fws_num.specs.Numbers.{is_digit, dec_of, digits_value, lacks}
use Rattle.fws_num.specs.Services.{both_ports, port_of, ports_behind, ports_between, service_names, service_of}
use Rattle.fws_num.specs.Written.{is_plain_byte, is_plain}
use Rattle.fws_iv.specs.declared.iv.Iv.{Iv}
use Rattle.fws_iv.specs.Ivs.{with_range}
use Rattle.fws_net.specs.Ports.{in_order, port_range, ports_of, with_ports}
use Rattle.fws_ipt_print.specs.Printable.{ascend_from}
use Rattle.fws_ipt_print.specs.PrintedText.{range_word, ranges_word}
use Rattle.fws_ipt_print.proofs.Basics.{if_true, if_false}
use Rattle.fws_ipt_print.proofs.Laws.{Laws}
use Rattle.fws_ipt_print.proofs.Plain.{number_digits, plain_append, plain_bytes}
use Rattle.fws_ipt_print.proofs.Values.{number_lacks, port_read, range_plain}

-- Joined ranges

joined_same : (iv : Iv) (set : List Iv) → join_by range_word (44 ∷ []) (iv ∷ set) ≡ join_with_byte 44 (range_word iv ∷ map range_word set)
joined_same iv [] = append-nil (range_word iv)
joined_same iv (next ∷ set) = ap (λ text. range_word iv ++ 44 ∷ text) (joined_same next set)

-- Names of services have no colon

named_without : {X : Type 0} (byte : ℕ) (rows : List (List ℕ × X)) (text : List ℕ) → list_all (λ row. lacks byte row.0) rows ≡ true → lacks byte text ≡ false
    → named_in rows text ≡ None
named_without byte [] text h k = refl
named_without byte (row ∷ rows) text h k =
    let parts = and_parts (lacks byte row.0) (list_all (λ row. lacks byte row.0) rows) h in
    let other : bytes_eq text row.0 ≡ false =
    false_from_ne_true (bytes_eq text row.0) (λ e. true≢false (sym parts.0 ∙ ap (lacks byte) (sym ((bytes_eq-Decides text row.0).0 e)) ∙ k)) in
    if_false (bytes_eq text row.0) (Some row.1) (named_in rows text) other ∙ named_without byte rows text parts.1 k

has_byte : (byte : ℕ) (front behind : List ℕ) → nat_eq byte byte ≡ true → lacks byte (front ++ byte ∷ behind) ≡ false
has_byte byte front behind same =
    list_all-append (λ c. not (nat_eq c byte)) front (byte ∷ behind)
    ∙ and_right (lacks byte front) (lacks byte (byte ∷ behind)) (ap (λ b. not b && lacks byte behind) same)

no_digits : (front behind : List ℕ) → list_all is_digit (front ++ 58 ∷ behind) ≡ false
no_digits front behind = list_all-append is_digit front (58 ∷ behind) ∙ and_right (list_all is_digit front) (list_all is_digit (58 ∷ behind)) refl

-- two numbers with a colon between are no port
no_port : (front behind : List ℕ) → port_of (front ++ 58 ∷ behind) ≡ None
unfolding service_of
no_port front behind =
    let text = front ++ 58 ∷ behind in
    ap (λ o. option_map_or Some o (service_of text)) (no_dec text (no_digits front behind))
    ∙ named_without 58 service_names text refl (has_byte 58 front behind refl)
  where
    no_dec : (text : List ℕ) → list_all is_digit text ≡ false → dec_of text 65535 ≡ None
    no_dec text h = ap (λ b. cond (b && nat_le 1 (Rattle.std.specs.Prelude.length text) && nat_le (Rattle.std.specs.Prelude.length text) 20 && nat_le (digits_value text) 65535) (Some (digits_value text)) None) h

-- Ranges

behind_digits : (front digits behind : List ℕ) (x : ℕ × ℕ) → list_all is_digit digits ≡ true → both_ports (front ++ digits) behind ≡ Some x
    → ports_behind front 58 (digits ++ 58 ∷ behind) ≡ Some x
behind_digits front [] behind x h e =
    let both : both_ports front behind ≡ Some x = ap (λ text. both_ports text behind) (sym (append-nil front)) ∙ e in
    ap (λ o. cond (is_some o) o (ports_behind (front ++ 58 ∷ []) 58 behind)) both
behind_digits front (c ∷ digits) behind x h e =
    let parts = and_parts (is_digit c) (list_all is_digit digits) h in
    let other : nat_eq c 58 ≡ false = false_from_ne_true (nat_eq c 58) (λ k. true≢false (sym parts.0 ∙ ap is_digit (eqb-true c 58 k))) in
    ap (λ b. cond (b && is_some (both_ports front (digits ++ 58 ∷ behind))) (both_ports front (digits ++ 58 ∷ behind)) (ports_behind (front ++ c ∷ []) 58 (digits ++ 58 ∷ behind))) other
    ∙ behind_digits (front ++ c ∷ []) digits behind x parts.1 (ap (λ text. both_ports text behind) (append_assoc front (c ∷ []) digits) ∙ e)

-- A set that grows at its end

ends_before : ℕ → List Iv → Bool
ends_before from set = list_all (λ iv. nat_le iv.lo iv.hi && nat_lt (iv.hi + 1) from) set

range_behind : (lo hi : ℕ) (set : List Iv) → lo ≤ hi → ends_before lo set ≡ true → with_range lo hi set ≡ set ++ record { lo = lo; hi = hi } ∷ []
unfolding ends_before
range_behind lo hi [] order h = refl
range_behind lo hi (iv ∷ set) order h =
    let parts = and_parts (nat_le iv.lo iv.hi && nat_lt (iv.hi + 1) lo) (ends_before lo set) h in
    let both = and_parts (nat_le iv.lo iv.hi) (nat_lt (iv.hi + 1) lo) parts.0 in
    let own : iv.lo ≤ iv.hi = leb-true iv.lo iv.hi both.0 in
    let ahead : iv.hi + 1 < lo = ltb-true (iv.hi + 1) lo both.1 in
    let later : nat_lt (hi + 1) iv.lo ≡ false = false_from_ne_true (nat_lt (hi + 1) iv.lo) (λ e. (let k : hi + 1 < iv.lo = ltb-true (hi + 1) iv.lo e in omega arith)) in
    let new : Iv = record { lo = lo; hi = hi } in
    let other = cond (nat_lt (iv.hi + 1) lo) (iv ∷ with_range lo hi set) (with_range (Rattle.std.specs.Prelude.min lo iv.lo) (Rattle.std.specs.Prelude.max hi iv.hi) set) in
    if_false (nat_lt (hi + 1) iv.lo) (new ∷ iv ∷ set) other later
    ∙ if_true (nat_lt (iv.hi + 1) lo) (iv ∷ with_range lo hi set) _ both.1
    ∙ ap (λ list. iv ∷ list) (range_behind lo hi set order parts.1)

ends_later : (from to : ℕ) (set : List Iv) → from ≤ to → ends_before from set ≡ true → ends_before to set ≡ true
unfolding ends_before
ends_later from to [] h k = refl
ends_later from to (iv ∷ set) h k =
    let parts = and_parts (nat_le iv.lo iv.hi && nat_lt (iv.hi + 1) from) (ends_before from set) k in
    let both = and_parts (nat_le iv.lo iv.hi) (nat_lt (iv.hi + 1) from) parts.0 in
    let ahead : iv.hi + 1 < from = ltb-true (iv.hi + 1) from both.1 in
    let ahead_too : iv.hi + 1 < to = omega arith in
    and_from (nat_le iv.lo iv.hi && nat_lt (iv.hi + 1) to) (ends_before to set)
    (and_from (nat_le iv.lo iv.hi) (nat_lt (iv.hi + 1) to) both.0 (lt-ltb (iv.hi + 1) to ahead_too)) (ends_later from to set h parts.1)

ends_more : (from : ℕ) (set : List Iv) (iv : Iv) → from ≤ iv.lo → iv.lo ≤ iv.hi → ends_before from set ≡ true → ends_before (iv.hi + 2) (set ++ iv ∷ []) ≡ true
unfolding ends_before
ends_more from set iv h order k =
    let later : from ≤ iv.hi + 2 = omega arith in
    let own : iv.hi + 1 < iv.hi + 2 = omega arith in
    let test : Iv → Bool = λ x. nat_le x.lo x.hi && nat_lt (x.hi + 1) (iv.hi + 2) in
    list_all-append test set (iv ∷ [])
    ∙ and_from (list_all test set) (list_all test (iv ∷ [])) (ends_later from (iv.hi + 2) set later k)
    (and_from (test iv) true (and_from (nat_le iv.lo iv.hi) (nat_lt (iv.hi + 1) (iv.hi + 2)) (le-leb iv.lo iv.hi order) (lt-ltb (iv.hi + 1) (iv.hi + 2) own)) refl)

module _ (laws : Laws) where
  both_read : (lo hi : ℕ) → lo ≤ 65535 → hi ≤ 65535 → both_ports (decimal lo) (decimal hi) ≡ Some (lo, hi)
  both_read lo hi low high =
      ap (λ o. option_map_or (λ lo. option_map_or (λ hi. Some (lo, hi)) (port_of (decimal hi)) None) o None) (port_read laws lo low)
      ∙ ap (λ o. option_map_or (λ hi. Some (lo, hi)) o None) (port_read laws hi high)

  item_read : (iv : Iv) → iv.lo ≤ iv.hi → iv.hi ≤ 65535 → port_range 58 (range_word iv) ≡ Some (iv.lo, iv.hi)
  item_read iv order high =
      let low : iv.lo ≤ 65535 = omega arith in
      let both = decimal iv.lo ++ 58 ∷ decimal iv.hi in
      cond_both (nat_eq iv.lo iv.hi) (decimal iv.lo) both (λ text. port_range 58 text ≡ Some (iv.lo, iv.hi))
      (λ e.
      ap (λ o. option_map_or (λ p. Some (p, p)) o (option_and_then in_order (ports_between 58 (decimal iv.lo)))) (port_read laws iv.lo low)
      ∙ ap (λ hi. Some (iv.lo, hi)) (eqb-true iv.lo iv.hi e))
      (λ e.
      ap (λ o. option_map_or (λ p. Some (p, p)) o (option_and_then in_order (ports_between 58 both))) (no_port (decimal iv.lo) (decimal iv.hi))
      ∙ ap (option_and_then in_order) (behind_digits [] (decimal iv.lo) (decimal iv.hi) (iv.lo, iv.hi) (number_digits laws iv.lo) (both_read iv.lo iv.hi low high))
      ∙ if_true (nat_le iv.lo iv.hi) (Some (iv.lo, iv.hi)) None (le-leb iv.lo iv.hi order))

  items_read : (from : ℕ) (seen later : List Iv) → ends_before from seen ≡ true → ascend_from from later ≡ true → with_ports 58 seen (map range_word later) ≡ Some (seen ++ later)
  items_read from seen [] h k = ap (λ set. Some set) (sym (append-nil seen))
  items_read from seen (iv ∷ later) h k =
      let last = and_parts (nat_le from iv.lo && nat_le iv.lo iv.hi && nat_le iv.hi 65535) (ascend_from (iv.hi + 2) later) k in
      let third = and_parts (nat_le from iv.lo && nat_le iv.lo iv.hi) (nat_le iv.hi 65535) last.0 in
      let first = and_parts (nat_le from iv.lo) (nat_le iv.lo iv.hi) third.0 in
      let begins : from ≤ iv.lo = leb-true from iv.lo first.0 in
      let order : iv.lo ≤ iv.hi = leb-true iv.lo iv.hi first.1 in
      ap (option_and_then (λ range. with_ports 58 (with_range range.0 range.1 seen) (map range_word later))) (item_read iv order (leb-true iv.hi 65535 third.1))
      ∙ ap (λ set. with_ports 58 set (map range_word later)) (range_behind iv.lo iv.hi seen order (ends_later from iv.lo seen begins h))
      ∙ items_read (iv.hi + 2) (seen ++ iv ∷ []) later (ends_more from seen iv begins order h) last.1
      ∙ ap (λ set. Some set) (append_assoc seen (iv ∷ []) later)

  range_lacks : (iv : Iv) → lacks 44 (range_word iv) ≡ true
  range_lacks iv =
      let both = decimal iv.lo ++ 58 ∷ decimal iv.hi in
      cond_both (nat_eq iv.lo iv.hi) (decimal iv.lo) both (λ text. lacks 44 text ≡ true)
      (λ e. number_lacks laws 44 iv.lo refl)
      (λ e.
      list_all-append (λ c. not (nat_eq c 44)) (decimal iv.lo) (58 ∷ decimal iv.hi)
      ∙ and_from (lacks 44 (decimal iv.lo)) (lacks 44 (58 ∷ decimal iv.hi)) (number_lacks laws 44 iv.lo refl) (number_lacks laws 44 iv.hi refl))

  ranges_lack : (set : List Iv) → list_all (lacks 44) (map range_word set) ≡ true
  ranges_lack [] = refl
  ranges_lack (iv ∷ set) = and_from (lacks 44 (range_word iv)) (list_all (lacks 44) (map range_word set)) (range_lacks iv) (ranges_lack set)

  pub list_read : (iv : Iv) (set : List Iv) → ascend_from 0 (iv ∷ set) ≡ true → ports_of 58 (ranges_word (iv ∷ set)) ≡ Some (iv ∷ set)
  unfolding ends_before
  list_read iv set h =
      ap (ports_of 58) (joined_same iv set)
      ∙ ap (with_ports 58 []) (laws.joined 44 (range_word iv) (map range_word set) (ranges_lack (iv ∷ set)))
      ∙ items_read 0 [] (iv ∷ set) refl h

  ranges_plain : (set : List Iv) → list_all is_plain_byte (flat_map (λ iv. 44 ∷ range_word iv) set) ≡ true
  ranges_plain [] = refl
  ranges_plain (iv ∷ set) =
      list_all-append is_plain_byte (44 ∷ range_word iv) (flat_map (λ iv. 44 ∷ range_word iv) set)
      ∙ and_from (list_all is_plain_byte (range_word iv)) (list_all is_plain_byte (flat_map (λ iv. 44 ∷ range_word iv) set)) (plain_bytes (range_word iv) (range_plain laws iv)) (ranges_plain set)

  pub list_plain : (iv : Iv) (set : List Iv) → is_plain (ranges_word (iv ∷ set)) ≡ true
  list_plain iv set = plain_append (range_word iv) (flat_map (λ iv. 44 ∷ range_word iv) set) (range_plain laws iv) (ranges_plain set)
