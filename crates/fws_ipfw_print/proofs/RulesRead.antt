-- The words of a rule are read as that rule.
use Rattle.std.proofs.Common.{◌≡◌, ◌≢◌, ℕ, ◌+◌, ◌-◌, ◌^◌, ◌<◌, ◌≤◌, Bool, true, false, cond, ◌&&◌, not, nat_eq, nat_le, nat_lt, Option, Some, None, Ok, Err, List, [], ◌∷◌, ◌++◌, codes, decimal, refl, ap, sym, ◌∙◌, arith}
use Rattle.std.proofs.lemmas.Bool.{and_from, and_parts, leb-true, ltb-true, le-leb, eqb-true, eqb-false, cond_both, not-true, not_from_false}
use Rattle.std.specs.List.{list_all}
use Rattle.std.specs.Option.{option_map_or}
use Rattle.std.specs.Str.{bytes_eq}
use Rattle.fws_num.specs.Numbers.{is_digit}
use Rattle.fws_iv.specs.declared.iv.Iv.{Iv}
use Rattle.fws_net.specs.declared.cause.Cause.TheVariants.{Syntax, NoName}
use Rattle.fws_net.specs.declared.condition.Lit.{Lit}
use Rattle.fws_net.specs.declared.condition.Test.{Test}
use Rattle.fws_net.specs.declared.condition.Test.TheVariants.{Src, Dst, Sport, Dport, Proto, Icmp, Flags, AnyFlag, Recv, Xmit, Via, Outward, Est, Tag, Never}
use Rattle.fws_net.specs.declared.site.Site.{Site}
use Rattle.fws_rules.specs.Literals.{literals, positive, protocol_literal}
use Rattle.fws_ipfw.specs.declared.config.IpfwAct.{IpfwAct}
use Rattle.fws_ipfw.specs.declared.config.IpfwAct.TheVariants as acts
use Rattle.fws_ipfw.specs.declared.config.IpfwTag.{IpfwTag}
use Rattle.fws_ipfw.specs.declared.config.IpfwTag.TheVariants as tags
use Rattle.fws_ipfw.specs.declared.draft.Defined.{Defined}
use Rattle.fws_ipfw.specs.declared.draft.Expects.{Expects}
use Rattle.fws_ipfw.specs.declared.draft.Expects.TheVariants as expect
use Rattle.fws_ipfw.specs.declared.draft.RuleDraft.{RuleDraft}
use Rattle.fws_ipfw.specs.Options.{action_word, misspelled}
use Rattle.fws_ipfw.specs.RuleText.{acting, address_literals, expecting, fresh_rule, is_defined, protocol_step, with_literals, with_protocol, with_tag}
use Rattle.fws_ipfw.specs.Values.{addresses_of, protocol_value}
use Rattle.fws_print.specs.Sets.{are_ranges, is_number}
use Rattle.fws_ipfw_print.specs.Printable.{ascend, is_printed_literal, is_printed_negation, is_printed_tag, is_printed_test, place_of}
use Rattle.fws_print.specs.Words.{protocol_name}
use Rattle.fws_ipfw_print.specs.PrintedText.{act_words, addresses_word, behind_place, destination_word, protocol_word, source_word, tag_words}
use Rattle.fws_ipfw_print.proofs.Basics.{if_false, never, texts_differ}
use Rattle.fws_ipfw_print.proofs.Laws.{Laws}
use Rattle.fws_ipfw_print.proofs.LineWords.{word_then}
use Rattle.fws_ipfw_print.proofs.OptionsRead.{read, step}
use Rattle.fws_ipfw_print.proofs.Tame.{is_tame, is_value_byte, number_digits}
use Rattle.fws_ipfw_print.proofs.ValuesRead.{addresses_read, counted_read, protocol_read, protocol_tame}

-- A condition is divided by its places

-- the first literal, if it tests what stands at this place
abbrev pub front_at : ℕ → List Lit → List Lit
front_at place [] = []
front_at place (lit ∷ lits) = cond (nat_eq (place_of lit.test) place) (lit ∷ []) []

pub divided : (place : ℕ) (lits : List Lit) → front_at place lits ++ behind_place place lits ≡ lits
divided place [] = refl
divided place (lit ∷ lits) = by (nat_eq (place_of lit.test) place)
  where
    by : (b : Bool) → cond b (lit ∷ []) [] ++ cond b lits (lit ∷ lits) ≡ lit ∷ lits
    by true = refl
    by false = refl

pub behind_rises : (place : ℕ) (lits : List Lit) → ascend place lits ≡ true → ascend (place + 1) (behind_place place lits) ≡ true
behind_rises place [] h = refl
behind_rises place (lit ∷ lits) h =
    let parts = and_parts (nat_le place (place_of lit.test)) (ascend (place_of lit.test + 1) lits) h in
    cond_both (nat_eq (place_of lit.test) place) lits (lit ∷ lits) (λ rest. ascend (place + 1) rest ≡ true)
    (λ e. ap (λ k. ascend (k + 1) lits) (sym (eqb-true (place_of lit.test) place e)) ∙ parts.1)
    (λ e.
    let other : place_of lit.test ≢ place = eqb-false (place_of lit.test) place e in
    let low : place ≤ place_of lit.test = leb-true place (place_of lit.test) parts.0 in
    let lt : place + 1 ≤ place_of lit.test = omega arith in
    and_from (nat_le (place + 1) (place_of lit.test)) (ascend (place_of lit.test + 1) lits) (le-leb (place + 1) (place_of lit.test) lt) parts.1)

pub behind_printed : (site : Site) (place : ℕ) (lits : List Lit) → list_all (is_printed_literal site) lits ≡ true → list_all (is_printed_literal site) (behind_place place lits) ≡ true
behind_printed site place [] h = refl
behind_printed site place (lit ∷ lits) h =
    cond_both (nat_eq (place_of lit.test) place) lits (lit ∷ lits) (λ rest. list_all (is_printed_literal site) rest ≡ true)
    (λ e. (and_parts (is_printed_literal site lit) (list_all (is_printed_literal site) lits) h).1) (λ e. h)

-- Protocols

-- no keyword that may stand ahead of a protocol
abbrev is_free : List ℕ → Bool
is_free word = not (bytes_eq word (codes "log")) && not (bytes_eq word (codes "tag")) && not (bytes_eq word (codes "untag"))

pub record IsProtocol (word : List ℕ) (front : List Lit) : Type 0 where
  pub protocol : Option ℕ
  pub value : protocol_value word ≡ Some protocol
  pub literal : literals false (protocol_literal protocol) ≡ front
  pub free : is_free word ≡ true
  pub tame : is_tame word ≡ true

number_known : (most : ℕ) (iv : Iv) → is_number most (iv ∷ []) ≡ true → (iv.lo ≡ iv.hi) × (iv.lo ≤ most)
number_known most iv h =
    let parts = and_parts (nat_eq iv.lo iv.hi) (nat_le iv.hi most) h in
    let same : iv.lo ≡ iv.hi = eqb-true iv.lo iv.hi parts.0 in
    let high : iv.hi ≤ most = leb-true iv.hi most parts.1 in
    (same, omega arith)

every_protocol : IsProtocol (codes "ip") []
every_protocol = record { protocol = None; value = refl; literal = refl; free = refl; tame = refl }

-- Addresses

pub record AreAddresses (site : Site) (test : List Iv → Test) (word : List ℕ) (front : List Lit) : Type 0 where
  pub set : Option (List Iv)
  pub value : addresses_of site word ≡ Some set
  pub literal : address_literals test false set ≡ front
  pub other : bytes_eq word (codes "not") ≡ false
  pub tame : is_tame word ≡ true

every_address : (site : Site) (test : List Iv → Test) → AreAddresses site test (codes "any") []
every_address site test = record { set = None; value = refl; literal = refl; other = refl; tame = refl }

module _ (laws : Laws) (site : Site) where
  number_free : (n : ℕ) → is_free (decimal n) ≡ true
  number_free n =
      let other : (word : List ℕ) → list_all is_digit word ≡ false → not (bytes_eq (decimal n) word) ≡ true = λ word h.
      not_from_false (bytes_eq (decimal n) word) (texts_differ is_digit (decimal n) word (number_digits laws n) h) in
      and_from (not (bytes_eq (decimal n) (codes "log")) && not (bytes_eq (decimal n) (codes "tag"))) (not (bytes_eq (decimal n) (codes "untag")))
      (and_from (not (bytes_eq (decimal n) (codes "log"))) (not (bytes_eq (decimal n) (codes "tag"))) (other (codes "log") refl) (other (codes "tag") refl)) (other (codes "untag") refl)

  name_free : (n : ℕ) → is_free (protocol_name n) ≡ true
  name_free n =
      cond_both (nat_eq n 1) (codes "icmp") (cond (nat_eq n 6) (codes "tcp") (cond (nat_eq n 17) (codes "udp") (decimal n))) (λ text. is_free text ≡ true) (λ e. refl)
      (λ e.
      cond_both (nat_eq n 6) (codes "tcp") (cond (nat_eq n 17) (codes "udp") (decimal n)) (λ text. is_free text ≡ true) (λ e. refl)
      (λ e. cond_both (nat_eq n 17) (codes "udp") (decimal n) (λ text. is_free text ≡ true) (λ e. refl) (λ e. number_free n)))

  protocol_tested : (negated : Bool) (test : Test) (lits : List Lit) → cond negated (is_printed_negation site test) (is_printed_test site test) ≡ true
      → IsProtocol (protocol_word (record { not = negated; test = test } ∷ lits)) (front_at 0 (record { not = negated; test = test } ∷ lits))
  protocol_tested true (Proto set) lits h = never h
  protocol_tested false (Proto []) lits h = never h
  protocol_tested false (Proto (iv ∷ [])) lits h =
      let is = number_known 255 iv h in
      record {
        protocol = Some iv.lo;
        value = protocol_read laws iv.lo is.1;
        literal = ap (λ (hi : ℕ). let x : Iv = record { lo = iv.lo; hi = hi } in positive (Proto (x ∷ [])) ∷ []) is.0;
        free = name_free iv.lo;
        tame = protocol_tame laws iv.lo;
      }
  protocol_tested false (Proto (iv ∷ next ∷ set)) lits h = never h
  protocol_tested negated (Src set) lits h = every_protocol
  protocol_tested negated (Dst set) lits h = every_protocol
  protocol_tested negated (Sport set) lits h = every_protocol
  protocol_tested negated (Dport set) lits h = every_protocol
  protocol_tested negated (Icmp set) lits h = every_protocol
  protocol_tested negated (Flags mask want) lits h = every_protocol
  protocol_tested negated (AnyFlag mask) lits h = every_protocol
  protocol_tested negated (Recv set) lits h = every_protocol
  protocol_tested negated (Xmit set) lits h = every_protocol
  protocol_tested negated (Via set) lits h = every_protocol
  protocol_tested negated Outward lits h = every_protocol
  protocol_tested negated Est lits h = every_protocol
  protocol_tested negated (Tag n) lits h = every_protocol
  protocol_tested negated Never lits h = every_protocol

  pub protocol_known : (lits : List Lit) → list_all (is_printed_literal site) lits ≡ true → IsProtocol (protocol_word lits) (front_at 0 lits)
  protocol_known [] h = every_protocol
  protocol_known (lit ∷ lits) h = protocol_tested lit.not lit.test lits (and_parts (is_printed_literal site lit) (list_all (is_printed_literal site) lits) h).0

  some_addresses : (test : List Iv → Test) (set : List Iv) → are_ranges (2 ^ 32 - 1) set ≡ true → AreAddresses site test (addresses_word set) (positive (test set) ∷ [])
  some_addresses test set h =
      let is = addresses_read laws site set h in
      record { set = Some set; value = is.0; literal = refl; other = texts_differ is_value_byte (addresses_word set) (codes "not") is.2 refl; tame = is.1 }

  source_tested : (negated : Bool) (test : Test) (lits : List Lit) → cond negated (is_printed_negation site test) (is_printed_test site test) ≡ true
      → AreAddresses site Src (source_word (record { not = negated; test = test } ∷ lits)) (front_at 1 (record { not = negated; test = test } ∷ lits))
  source_tested true (Src set) lits h = never h
  source_tested false (Src set) lits h = some_addresses Src set h
  source_tested negated (Proto set) lits h = every_address site Src
  source_tested negated (Dst set) lits h = every_address site Src
  source_tested negated (Sport set) lits h = every_address site Src
  source_tested negated (Dport set) lits h = every_address site Src
  source_tested negated (Icmp set) lits h = every_address site Src
  source_tested negated (Flags mask want) lits h = every_address site Src
  source_tested negated (AnyFlag mask) lits h = every_address site Src
  source_tested negated (Recv set) lits h = every_address site Src
  source_tested negated (Xmit set) lits h = every_address site Src
  source_tested negated (Via set) lits h = every_address site Src
  source_tested negated Outward lits h = every_address site Src
  source_tested negated Est lits h = every_address site Src
  source_tested negated (Tag n) lits h = every_address site Src
  source_tested negated Never lits h = every_address site Src

  pub source_known : (lits : List Lit) → list_all (is_printed_literal site) lits ≡ true → AreAddresses site Src (source_word lits) (front_at 1 lits)
  source_known [] h = every_address site Src
  source_known (lit ∷ lits) h = source_tested lit.not lit.test lits (and_parts (is_printed_literal site lit) (list_all (is_printed_literal site) lits) h).0

  destination_tested : (negated : Bool) (test : Test) (lits : List Lit) → cond negated (is_printed_negation site test) (is_printed_test site test) ≡ true
      → AreAddresses site Dst (destination_word (record { not = negated; test = test } ∷ lits)) (front_at 2 (record { not = negated; test = test } ∷ lits))
  destination_tested true (Dst set) lits h = never h
  destination_tested false (Dst set) lits h = some_addresses Dst set h
  destination_tested negated (Proto set) lits h = every_address site Dst
  destination_tested negated (Src set) lits h = every_address site Dst
  destination_tested negated (Sport set) lits h = every_address site Dst
  destination_tested negated (Dport set) lits h = every_address site Dst
  destination_tested negated (Icmp set) lits h = every_address site Dst
  destination_tested negated (Flags mask want) lits h = every_address site Dst
  destination_tested negated (AnyFlag mask) lits h = every_address site Dst
  destination_tested negated (Recv set) lits h = every_address site Dst
  destination_tested negated (Xmit set) lits h = every_address site Dst
  destination_tested negated (Via set) lits h = every_address site Dst
  destination_tested negated Outward lits h = every_address site Dst
  destination_tested negated Est lits h = every_address site Dst
  destination_tested negated (Tag n) lits h = every_address site Dst
  destination_tested negated Never lits h = every_address site Dst

  pub destination_known : (lits : List Lit) → list_all (is_printed_literal site) lits ≡ true → AreAddresses site Dst (destination_word lits) (front_at 2 lits)
  destination_known [] h = every_address site Dst
  destination_known (lit ∷ lits) h = destination_tested lit.not lit.test lits (and_parts (is_printed_literal site lit) (list_all (is_printed_literal site) lits) h).0

-- Drafts ahead of the options

abbrev pub begun_at : Expects → IpfwAct → IpfwTag → List Lit → Option ℕ → RuleDraft
begun_at next act tag lits protocol = record {
  expects = next;
  given = [];
  cond = lits;
  protocol = protocol;
  has_ports = false;
  act = act;
  tag = tag;
  keep = false;
}

-- what is known of an act that is read
abbrev pub ActFits : List Defined → IpfwAct → Type 0
ActFits known (acts.Skip n) = (1 ≤ n) × (n ≤ 65534)
ActFits known (acts.Nat n) = (1 ≤ n) × (n ≤ 65535) × (is_defined known n ≡ true)
ActFits known acts.Check = ⊥
ActFits known _ = Unit {0}

abbrev tag_expects : IpfwTag → Expects
tag_expects tags.Nothing = expect.Log
tag_expects _ = expect.Protocol

module _ (laws : Laws) (site : Site) (known : List Defined) where
  pub act_then : (act : IpfwAct) (rest : List (List ℕ)) → ActFits known act → read site known fresh_rule (act_words act ++ rest) ≡ read site known (begun_at expect.Log act tags.Nothing [] None) rest
  unfolding action_word
  act_then acts.Allow rest h = refl
  act_then acts.Deny rest h = refl
  act_then acts.Count rest h = refl
  act_then (acts.Skip n) rest h =
      let d : RuleDraft = begun_at expect.SkipTo acts.Deny tags.Nothing [] None in
      word_then (step site known) (decimal n) rest d (begun_at expect.Log (acts.Skip n) tags.Nothing [] None)
      (ap (λ o. option_map_or (λ n. Ok (acting (acts.Skip n) expect.Log d)) o (Err Syntax)) (counted_read laws n 65534 h.0 h.1 (omega arith)))
  act_then acts.Check rest h = absurd h
  act_then (acts.Nat n) rest h =
      let d : RuleDraft = begun_at expect.Instance acts.Deny tags.Nothing [] None in
      word_then (step site known) (decimal n) rest d (begun_at expect.Log (acts.Nat n) tags.Nothing [] None)
      (ap (λ o. option_map_or (λ n. cond (is_defined known n) (Ok (acting (acts.Nat n) expect.Log d)) (Err NoName)) o (Err Syntax)) (counted_read laws n 65535 h.0 h.1 (omega arith))
      ∙ ap (λ b. cond b (Ok (acting (acts.Nat n) expect.Log d)) (Err NoName)) h.2)

  pub tag_then : (act : IpfwAct) (tag : IpfwTag) (rest : List (List ℕ)) → is_printed_tag tag ≡ true
      → read site known (begun_at expect.Log act tags.Nothing [] None) (tag_words tag ++ rest) ≡ read site known (begun_at (tag_expects tag) act tag [] None) rest
  tag_then act tags.Nothing rest h = refl
  tag_then act (tags.Add n) rest h =
      let parts = and_parts (nat_lt 0 n) (nat_le n 65534) h in
      let low : 0 < n = ltb-true 0 n parts.0 in
      let some : 1 ≤ n = omega arith in
      let d : RuleDraft = begun_at (expect.TagNumber true) act tags.Nothing [] None in
      word_then (step site known) (decimal n) rest d (begun_at expect.Protocol act (tags.Add n) [] None)
      (ap (λ o. option_map_or (λ n. Ok (with_tag true n d)) o (Err Syntax)) (counted_read laws n 65534 some (leb-true n 65534 parts.1) (omega arith)))
  tag_then act (tags.Remove n) rest h = never h

  pub protocol_taken : (act : IpfwAct) (tag : IpfwTag) (word : List ℕ) (front : List Lit) (is : IsProtocol word front) → is_printed_tag tag ≡ true
      → step site known (begun_at (tag_expects tag) act tag [] None) word ≡ Ok (begun_at expect.From act tag front is.protocol)
  protocol_taken act tags.Nothing word front is h =
      let d : RuleDraft = begun_at expect.Log act tags.Nothing [] None in
      let last = and_parts (not (bytes_eq word (codes "log")) && not (bytes_eq word (codes "tag"))) (not (bytes_eq word (codes "untag"))) is.free in
      let first = and_parts (not (bytes_eq word (codes "log"))) (not (bytes_eq word (codes "tag"))) last.0 in
      let other = protocol_step word d in
      if_false (bytes_eq word (codes "log")) (Ok (expecting expect.Logged d)) _ (not-true (bytes_eq word (codes "log")) first.0)
      ∙ if_false (bytes_eq word (codes "tag")) (Ok (expecting (expect.TagNumber true) d)) _ (not-true (bytes_eq word (codes "tag")) first.1)
      ∙ if_false (bytes_eq word (codes "untag")) (Ok (expecting (expect.TagNumber false) d)) other (not-true (bytes_eq word (codes "untag")) last.1)
      ∙ ap (λ o. option_map_or (λ protocol. Ok (with_protocol protocol d)) o (Err (misspelled word))) is.value
      ∙ ap (λ l. Ok (begun_at expect.From act tags.Nothing l is.protocol)) is.literal
  protocol_taken act (tags.Add n) word front is h =
      let d : RuleDraft = begun_at expect.Protocol act (tags.Add n) [] None in
      ap (λ o. option_map_or (λ protocol. Ok (with_protocol protocol d)) o (Err (misspelled word))) is.value
      ∙ ap (λ l. Ok (begun_at expect.From act (tags.Add n) l is.protocol)) is.literal
  protocol_taken act (tags.Remove n) word front is h = never h

  pub source_taken : (act : IpfwAct) (tag : IpfwTag) (lits : List Lit) (protocol : Option ℕ) (word : List ℕ) (front : List Lit) → AreAddresses site Src word front
      → step site known (begun_at (expect.Source false) act tag lits protocol) word ≡ Ok (begun_at expect.SourcePorts act tag (lits ++ front) protocol)
  source_taken act tag lits protocol word front are =
      let d : RuleDraft = begun_at (expect.Source false) act tag lits protocol in
      if_false (bytes_eq word (codes "not")) (Ok (expecting (expect.Source true) d)) _ are.other
      ∙ ap (λ o. option_map_or (λ set. Ok (expecting expect.SourcePorts (with_literals (address_literals Src false set) d))) o (Err (misspelled word))) are.value
      ∙ ap (λ l. Ok (begun_at expect.SourcePorts act tag (lits ++ l) protocol)) are.literal

  pub destination_taken : (act : IpfwAct) (tag : IpfwTag) (lits : List Lit) (protocol : Option ℕ) (word : List ℕ) (front : List Lit) → AreAddresses site Dst word front
      → step site known (begun_at (expect.Destination false) act tag lits protocol) word ≡ Ok (begun_at expect.DestinationPorts act tag (lits ++ front) protocol)
  destination_taken act tag lits protocol word front are =
      let d : RuleDraft = begun_at (expect.Destination false) act tag lits protocol in
      if_false (bytes_eq word (codes "not")) (Ok (expecting (expect.Destination true) d)) _ are.other
      ∙ ap (λ o. option_map_or (λ set. Ok (expecting expect.DestinationPorts (with_literals (address_literals Dst false set) d))) o (Err (misspelled word))) are.value
      ∙ ap (λ l. Ok (begun_at expect.DestinationPorts act tag (lits ++ l) protocol)) are.literal
