-- The words of a literal are read as that literal.
use Rattle.std.proofs.Common.{◌≡◌, ◌≢◌, ℕ, ◌+◌, ◌-◌, ◌^◌, ◌<◌, ◌≤◌, Bool, true, false, cond, ◌&&◌, ◌||◌, not, nat_eq, nat_le, Option, Some, None, ok_or, Result, Ok, Err, List, [], ◌∷◌, ◌++◌, codes, decimal, refl, ap, ◌∙◌, arith}
use Rattle.std.proofs.lemmas.Bool.{and_parts, leb-true, ne_eqb, cond_both}
use Rattle.std.specs.List.{list_any}
use Rattle.std.specs.Option.{option_map_or}
use Rattle.std.specs.Str.{bytes_eq}
use Rattle.fws_num.specs.Numbers.{is_digit, dec_of, dotted, prefix_of}
use Rattle.fws_iv.specs.declared.iv.Iv.{Iv}
use Rattle.fws_net.specs.declared.condition.Lit.{Lit}
use Rattle.fws_net.specs.declared.condition.Test.TheVariants.{Src, Dst, Sport, Dport, Proto, Icmp, Flags, Recv, Est, Tag}
use Rattle.fws_net.specs.declared.cause.Cause.{Cause}
use Rattle.fws_net.specs.declared.cause.Cause.TheVariants.{Syntax, LeftOut}
use Rattle.fws_net.specs.declared.site.Site.{Site}
use Rattle.fws_net.specs.Reading.{and_then}
use Rattle.fws_net.specs.SiteSpelling.{net_word}
use Rattle.fws_net.specs.declared.packet.Lang.TheVariants.{Iptables}
use Rattle.fws_rules.specs.Literals.{literals, one, positive}
use Rattle.fws_rules.specs.Names.{interface_name}
use Rattle.fws_ipt.specs.declared.config.IptTable.{IptTable}
use Rattle.fws_ipt.specs.declared.config.IptChain.{IptChain}
use Rattle.fws_ipt.specs.declared.words.Keyword.TheVariants as keywords
use Rattle.fws_ipt.specs.declared.words.TestOption.{TestOption}
use Rattle.fws_ipt.specs.declared.words.TestOption.TheVariants as options
use Rattle.fws_ipt.specs.declared.draft.Expects.TheVariants as expect
use Rattle.fws_ipt.specs.declared.draft.RuleDraft.{RuleDraft}
use Rattle.fws_ipt.specs.Options.{keyword_of, is_module, other_keyword, test_option}
use Rattle.fws_ipt.specs.RuleText.{expecting, plain_step, test_begun, value_step, with_literals}
use Rattle.fws_ipt.specs.Spelled.{asks_protocol}
use Rattle.fws_ipt.specs.Values.{flags_of, icmp_meaning, interface_meaning, is_state, is_translation_state, is_type_and_code, tested_mark, mark_meaning, meaning_of, numbered_type, protocol_value, range_meaning, set_meaning}
use Rattle.fws_ipt_print.specs.Printable.{are_ports, ascend_from, all_places}
use Rattle.fws_print.specs.Words.{protocol_name}
use Rattle.fws_ipt_print.specs.PrintedText.{address_words, class_word, flags_word, free_bits, has_free, mark_word, port_module, port_words, range_word, ranges_word}
use Rattle.fws_ipt_print.proofs.Basics.{if_false, never, texts_differ, then_ok}
use Rattle.fws_ipt_print.proofs.Keys.{address_key, key_of, told}
use Rattle.fws_ipt_print.proofs.Laws.{Laws}
use Rattle.fws_ipt_print.proofs.Marks.{mark_read}
use Rattle.fws_ipt_print.proofs.Plain.{number_digits}
use Rattle.fws_ipt_print.proofs.PortLists.{list_read}
use Rattle.fws_ipt_print.proofs.Told.{Told, asked, option_then, shown, texts_read, word_then}
use Rattle.fws_ipt_print.proofs.Values.{ends_read, flags_read, free_found, prefix_at, prefix_of_range, prefix_read, protocol_read, range_read}

-- Sets

-- one range of ports
one_range : (iv : Iv) → are_ports (iv ∷ []) ≡ true → (iv.lo ≤ iv.hi) × (iv.hi ≤ 65535)
one_range iv h =
    let few = and_parts (ascend_from 0 (iv ∷ [])) (nat_le (all_places (iv ∷ [])) 15) h in
    let last = and_parts (nat_le 0 iv.lo && nat_le iv.lo iv.hi && nat_le iv.hi 65535) true few.0 in
    let third = and_parts (nat_le 0 iv.lo && nat_le iv.lo iv.hi) (nat_le iv.hi 65535) last.0 in
    let first = and_parts (nat_le 0 iv.lo) (nat_le iv.lo iv.hi) third.0 in
    (leb-true iv.lo iv.hi first.1, leb-true iv.hi 65535 third.1)

-- states of connections

new_means : (site : Site) → meaning_of site options.ConnectionState (class_word true) ≡ Ok (Some (record { not = true; test = Est }))
unfolding is_state is_translation_state
new_means site = refl

known_means : (site : Site) → meaning_of site options.ConnectionState (class_word false) ≡ Ok (Some (positive Est))
unfolding is_state is_translation_state
known_means site = refl

-- Words that have a place of their own

named_p : keyword_of (codes "-p") ≡ Some (keywords.Test options.Protocol)
unfolding test_option
named_p = refl

named_s : keyword_of (codes "-s") ≡ Some (keywords.Test options.Source)
unfolding test_option
named_s = refl

named_d : keyword_of (codes "-d") ≡ Some (keywords.Test options.Destination)
unfolding test_option
named_d = refl

named_src : keyword_of (codes "--src-range") ≡ Some (keywords.Test options.SourceRange)
unfolding test_option
named_src = refl

named_dst : keyword_of (codes "--dst-range") ≡ Some (keywords.Test options.DestinationRange)
unfolding test_option
named_dst = refl

named_sport : keyword_of (codes "--sport") ≡ Some (keywords.Test options.SourcePort)
unfolding test_option
named_sport = refl

named_sports : keyword_of (codes "--sports") ≡ Some (keywords.Test options.SourcePorts)
unfolding test_option
named_sports = refl

named_dport : keyword_of (codes "--dport") ≡ Some (keywords.Test options.DestinationPort)
unfolding test_option
named_dport = refl

named_dports : keyword_of (codes "--dports") ≡ Some (keywords.Test options.DestinationPorts)
unfolding test_option
named_dports = refl

named_flags : keyword_of (codes "--tcp-flags") ≡ Some (keywords.Test options.TcpFlags)
unfolding test_option
named_flags = refl

named_icmp : keyword_of (codes "--icmp-type") ≡ Some (keywords.Test options.IcmpType)
unfolding test_option
named_icmp = refl

named_i : keyword_of (codes "-i") ≡ Some (keywords.Test options.InInterface)
unfolding test_option
named_i = refl

named_state : keyword_of (codes "--ctstate") ≡ Some (keywords.Test options.ConnectionState)
unfolding test_option
named_state = refl

named_mark : keyword_of (codes "--mark") ≡ Some (keywords.Test options.Mark)
unfolding test_option
named_mark = refl

known_tcp : is_module (codes "tcp") ≡ true
unfolding is_module
known_tcp = refl

known_udp : is_module (codes "udp") ≡ true
unfolding is_module
known_udp = refl

known_icmp : is_module (codes "icmp") ≡ true
unfolding is_module
known_icmp = refl

known_multiport : is_module (codes "multiport") ≡ true
unfolding is_module
known_multiport = refl

known_conntrack : is_module (codes "conntrack") ≡ true
unfolding is_module
known_conntrack = refl

known_mark : is_module (codes "mark") ≡ true
unfolding is_module
known_mark = refl

known_iprange : is_module (codes "iprange") ≡ true
unfolding is_module
known_iprange = refl

-- a literal more
abbrev with_lit : Lit → Told → Told
with_lit lit t = record t { lits = t.lits ++ lit ∷ [] }

module _ (laws : Laws) (site : Site) (table : IptTable) (chains : List IptChain) where
  abbrev read : RuleDraft → List (List ℕ) → Result RuleDraft Cause
  read d texts = texts_read site table chains d texts

  -- a module that is read changes nothing
  module_then : (name : List ℕ) (t : Told) (rest : List (List ℕ)) → is_module name ≡ true → bytes_eq name (codes "limit") ≡ false
      → read (shown t) (codes "-m" ∷ name ∷ rest) ≡ read (shown t) rest
  unfolding test_option other_keyword
  module_then name t rest known other =
      let d : RuleDraft = expecting expect.Module (shown t) in
      word_then site table chains name rest d (shown t)
      (ap (λ b. cond (not b) (Err LeftOut) (cond (bytes_eq name (codes "limit")) (Ok (expecting expect.Keyword (record d { is_limited = true }))) (Ok (shown t)))) known
      ∙ if_false (bytes_eq name (codes "limit")) (Ok (expecting expect.Keyword (record d { is_limited = true }))) (Ok (shown t)) other)

  -- an option whose value is one literal
  plain_then : (key v : List ℕ) (option : TestOption) (lit : Lit) (t : Told) (rest : List (List ℕ)) → keyword_of key ≡ Some (keywords.Test option)
      → ((d : RuleDraft) → test_begun false option d ≡ expecting (expect.Value option false) d)
      → ((d : RuleDraft) → value_step site option false v d ≡ plain_step site false option v d)
      → list_any (bytes_eq key) t.given ≡ false → meaning_of site option v ≡ Ok (Some lit)
      → read (shown t) (key ∷ v ∷ rest) ≡ read (shown (with_lit lit (asked key option t))) rest
  plain_then key v option lit t rest named begun plain fresh means =
      let d : RuleDraft = expecting (expect.Value option false) (shown (asked key option t)) in
      option_then site table chains key option t (v ∷ rest) named begun fresh
      ∙ word_then site table chains v rest d (shown (with_lit lit (asked key option t)))
      (plain d ∙ ap (λ o. and_then o (λ lit. Ok (with_literals (literals false lit) d))) means)

  -- Protocols

  pub proto_taken : (iv : Iv) (t : Told) (rest : List (List ℕ)) → 1 ≤ iv.lo → iv.lo ≤ 255 → iv.lo ≡ iv.hi → list_any (bytes_eq (codes "-p")) t.given ≡ false
      → read (shown t) (codes "-p" ∷ protocol_name iv.lo ∷ rest) ≡ read (shown (told (positive (Proto (iv ∷ []))) t)) rest
  proto_taken iv t rest low high same fresh =
      let d : RuleDraft = expecting (expect.Value options.Protocol false) (shown (asked (codes "-p") options.Protocol t)) in
      let base : Told = record (asked (codes "-p") options.Protocol t) { protocol = Some iv.lo } in
      option_then site table chains (codes "-p") options.Protocol t (protocol_name iv.lo ∷ rest) named_p (λ d. refl) fresh
      ∙ word_then site table chains (protocol_name iv.lo) rest d (shown (told (positive (Proto (iv ∷ []))) t))
      (then_ok (protocol_value (protocol_name iv.lo)) _ (Some iv.lo) _ (protocol_read laws iv.lo low high)
      (ap (λ (hi : ℕ). let x : Iv = record { lo = iv.lo; hi = hi } in Ok (shown (with_lit (positive (Proto (x ∷ []))) base))) same))

  -- Addresses

  bits_known : (iv : Iv) (bits : ℕ) → free_bits iv ≡ Some bits → (has_free bits iv ≡ true) × (bits ≤ 32)
  unfolding free_bits
  bits_known iv bits e = (let found = free_found 33 0 iv bits e in let lt : bits < 0 + 33 = found.1 in (found.0, omega arith))

  abbrev src_told : Option ℕ → Iv → Told → Told
  src_told free iv t = record t {
    given = t.given ++ address_key (codes "-s") (codes "--src-range") free ∷ [];
    lits = t.lits ++ positive (Src (iv ∷ [])) ∷ [];
    source = option_map_or (λ bits. Some (32 - bits)) free t.source;
    has_port = t.has_port || false;
    has_flags = t.has_flags || false;
    has_icmp = t.has_icmp || false;
  }

  src_by : (free : Option ℕ) (iv : Iv) (t : Told) (rest : List (List ℕ)) → free_bits iv ≡ free → iv.lo ≤ iv.hi → iv.hi ≤ 2 ^ 32 - 1
      → list_any (bytes_eq (address_key (codes "-s") (codes "--src-range") free)) t.given ≡ false
      → read (shown t) (option_map_or (λ bits. codes "-s" ∷ net_word iv.lo (32 - bits) ∷ []) free (codes "-m" ∷ codes "iprange" ∷ codes "--src-range" ∷ (dotted iv.lo ++ 45 ∷ dotted iv.hi) ∷ []) ++ rest)
      ≡ read (shown (src_told free iv t)) rest
  src_by None iv t rest e order high fresh =
      let within : iv.hi < 2 ^ 32 = omega arith in
      module_then (codes "iprange") t (codes "--src-range" ∷ (dotted iv.lo ++ 45 ∷ dotted iv.hi) ∷ rest) known_iprange refl
      ∙ plain_then (codes "--src-range") (dotted iv.lo ++ 45 ∷ dotted iv.hi) options.SourceRange (positive (Src (iv ∷ []))) t rest named_src (λ d. refl) (λ d. refl) fresh
      (ap (range_meaning Src) (ends_read laws iv order within))
  src_by (Some bits) iv t rest e order high fresh =
      let known = bits_known iv bits e in
      let low : iv.lo < 2 ^ 32 = omega arith in
      let d : RuleDraft = expecting (expect.Value options.Source false) (shown (asked (codes "-s") options.Source t)) in
      let base : Told = record (asked (codes "-s") options.Source t) { source = Some (32 - bits) } in
      option_then site table chains (codes "-s") options.Source t (net_word iv.lo (32 - bits) ∷ rest) named_s (λ d. refl) fresh
      ∙ word_then site table chains (net_word iv.lo (32 - bits)) rest d (shown (src_told (Some bits) iv t))
      (then_ok (ok_or (prefix_of (net_word iv.lo (32 - bits))) Syntax) _ (prefix_at iv bits) _ (ap (λ o. ok_or o Syntax) (prefix_read laws iv bits low known.1 known.0))
      (ap (λ (set : List Iv). Ok (shown (with_lit (positive (Src set)) base))) (prefix_of_range iv bits known.1 known.0)))

  abbrev dst_told : Option ℕ → Iv → Told → Told
  dst_told free iv t = record t {
    given = t.given ++ address_key (codes "-d") (codes "--dst-range") free ∷ [];
    lits = t.lits ++ positive (Dst (iv ∷ [])) ∷ [];
    destination = option_map_or (λ bits. Some (32 - bits)) free t.destination;
    has_port = t.has_port || false;
    has_flags = t.has_flags || false;
    has_icmp = t.has_icmp || false;
  }

  dst_by : (free : Option ℕ) (iv : Iv) (t : Told) (rest : List (List ℕ)) → free_bits iv ≡ free → iv.lo ≤ iv.hi → iv.hi ≤ 2 ^ 32 - 1
      → list_any (bytes_eq (address_key (codes "-d") (codes "--dst-range") free)) t.given ≡ false
      → read (shown t) (option_map_or (λ bits. codes "-d" ∷ net_word iv.lo (32 - bits) ∷ []) free (codes "-m" ∷ codes "iprange" ∷ codes "--dst-range" ∷ (dotted iv.lo ++ 45 ∷ dotted iv.hi) ∷ []) ++ rest)
      ≡ read (shown (dst_told free iv t)) rest
  dst_by None iv t rest e order high fresh =
      let within : iv.hi < 2 ^ 32 = omega arith in
      module_then (codes "iprange") t (codes "--dst-range" ∷ (dotted iv.lo ++ 45 ∷ dotted iv.hi) ∷ rest) known_iprange refl
      ∙ plain_then (codes "--dst-range") (dotted iv.lo ++ 45 ∷ dotted iv.hi) options.DestinationRange (positive (Dst (iv ∷ []))) t rest named_dst (λ d. refl) (λ d. refl) fresh
      (ap (range_meaning Dst) (ends_read laws iv order within))
  dst_by (Some bits) iv t rest e order high fresh =
      let known = bits_known iv bits e in
      let low : iv.lo < 2 ^ 32 = omega arith in
      let d : RuleDraft = expecting (expect.Value options.Destination false) (shown (asked (codes "-d") options.Destination t)) in
      let base : Told = record (asked (codes "-d") options.Destination t) { destination = Some (32 - bits) } in
      option_then site table chains (codes "-d") options.Destination t (net_word iv.lo (32 - bits) ∷ rest) named_d (λ d. refl) fresh
      ∙ word_then site table chains (net_word iv.lo (32 - bits)) rest d (shown (dst_told (Some bits) iv t))
      (then_ok (ok_or (prefix_of (net_word iv.lo (32 - bits))) Syntax) _ (prefix_at iv bits) _ (ap (λ o. ok_or o Syntax) (prefix_read laws iv bits low known.1 known.0))
      (ap (λ (set : List Iv). Ok (shown (with_lit (positive (Dst set)) base))) (prefix_of_range iv bits known.1 known.0)))

  -- Ports

  port_module_then : (cond_lits : List Lit) (t : Told) (rest : List (List ℕ)) → read (shown t) (codes "-m" ∷ port_module cond_lits ∷ rest) ≡ read (shown t) rest
  port_module_then cond_lits t rest =
      cond_both (asks_protocol 6 cond_lits) (codes "tcp") (codes "udp") (λ name. read (shown t) (codes "-m" ∷ name ∷ rest) ≡ read (shown t) rest)
      (λ e. module_then (codes "tcp") t rest known_tcp refl) (λ e. module_then (codes "udp") t rest known_udp refl)

  pub sport_taken : (cond_lits : List Lit) (set : List Iv) (t : Told) (rest : List (List ℕ)) → are_ports set ≡ true → list_any (bytes_eq (key_of (Sport set))) t.given ≡ false
      → read (shown t) (port_words (port_module cond_lits) (codes "--sport") (codes "--sports") set ++ rest) ≡ read (shown (told (positive (Sport set)) t)) rest
  sport_taken cond_lits [] t rest h fresh = never h
  sport_taken cond_lits (iv ∷ []) t rest h fresh =
      let bounds = one_range iv h in
      port_module_then cond_lits t (codes "--sport" ∷ range_word iv ∷ rest)
      ∙ plain_then (codes "--sport") (range_word iv) options.SourcePort (positive (Sport (iv ∷ []))) t rest named_sport (λ d. refl) (λ d. refl) fresh
      (ap (range_meaning Sport) (range_read laws iv bounds.0 bounds.1))
  sport_taken cond_lits (iv ∷ next ∷ set) t rest h fresh =
      module_then (codes "multiport") t (codes "--sports" ∷ ranges_word (iv ∷ next ∷ set) ∷ rest) known_multiport refl
      ∙ plain_then (codes "--sports") (ranges_word (iv ∷ next ∷ set)) options.SourcePorts (positive (Sport (iv ∷ next ∷ set))) t rest named_sports (λ d. refl) (λ d. refl) fresh
      (ap (set_meaning Sport) (list_read laws iv (next ∷ set) (and_parts (ascend_from 0 (iv ∷ next ∷ set)) (nat_le (all_places (iv ∷ next ∷ set)) 15) h).0))

  pub dport_taken : (cond_lits : List Lit) (set : List Iv) (t : Told) (rest : List (List ℕ)) → are_ports set ≡ true → list_any (bytes_eq (key_of (Dport set))) t.given ≡ false
      → read (shown t) (port_words (port_module cond_lits) (codes "--dport") (codes "--dports") set ++ rest) ≡ read (shown (told (positive (Dport set)) t)) rest
  dport_taken cond_lits [] t rest h fresh = never h
  dport_taken cond_lits (iv ∷ []) t rest h fresh =
      let bounds = one_range iv h in
      port_module_then cond_lits t (codes "--dport" ∷ range_word iv ∷ rest)
      ∙ plain_then (codes "--dport") (range_word iv) options.DestinationPort (positive (Dport (iv ∷ []))) t rest named_dport (λ d. refl) (λ d. refl) fresh
      (ap (range_meaning Dport) (range_read laws iv bounds.0 bounds.1))
  dport_taken cond_lits (iv ∷ next ∷ set) t rest h fresh =
      module_then (codes "multiport") t (codes "--dports" ∷ ranges_word (iv ∷ next ∷ set) ∷ rest) known_multiport refl
      ∙ plain_then (codes "--dports") (ranges_word (iv ∷ next ∷ set)) options.DestinationPorts (positive (Dport (iv ∷ next ∷ set))) t rest named_dports (λ d. refl) (λ d. refl) fresh
      (ap (set_meaning Dport) (list_read laws iv (next ∷ set) (and_parts (ascend_from 0 (iv ∷ next ∷ set)) (nat_le (all_places (iv ∷ next ∷ set)) 15) h).0))

  -- Flags and types

  pub flags_taken : (mask want : ℕ) (t : Told) (rest : List (List ℕ)) → mask ≤ 63 → want ≤ 63 → list_any (bytes_eq (codes "--tcp-flags")) t.given ≡ false
      → read (shown t) (codes "-m" ∷ codes "tcp" ∷ codes "--tcp-flags" ∷ flags_word mask ∷ flags_word want ∷ rest) ≡ read (shown (told (positive (Flags mask want)) t)) rest
  flags_taken mask want t rest h k fresh =
      let base : Told = asked (codes "--tcp-flags") options.TcpFlags t in
      let d : RuleDraft = expecting (expect.Value options.TcpFlags false) (shown base) in
      let e : RuleDraft = expecting (expect.Compared mask false) (shown base) in
      module_then (codes "tcp") t (codes "--tcp-flags" ∷ flags_word mask ∷ flags_word want ∷ rest) known_tcp refl
      ∙ option_then site table chains (codes "--tcp-flags") options.TcpFlags t (flags_word mask ∷ flags_word want ∷ rest) named_flags (λ d. refl) fresh
      ∙ word_then site table chains (flags_word mask) (flags_word want ∷ rest) d e
      (then_ok (ok_or (flags_of (flags_word mask)) Syntax) _ mask _ (ap (λ o. ok_or o Syntax) (flags_read mask h)) refl)
      ∙ word_then site table chains (flags_word want) rest e (shown (told (positive (Flags mask want)) t))
      (then_ok (ok_or (flags_of (flags_word want)) Syntax) _ want _ (ap (λ o. ok_or o Syntax) (flags_read want k)) refl)

  icmp_means : (n : ℕ) → n ≤ 254 → icmp_meaning (decimal n) ≡ Ok (Some (positive (Icmp (one n n))))
  icmp_means n h =
      let short : n < 2 ^ 64 = omega arith in
      let within : n ≤ 255 = omega arith in
      let other : n ≢ 255 = λ e. omega arith in
      if_false (bytes_eq (decimal n) (codes "any")) (Ok None) (option_map_or numbered_type (dec_of (decimal n) 255) (cond (is_type_and_code (decimal n)) (Err LeftOut) (Err Syntax)))
      (texts_differ is_digit (decimal n) (codes "any") (number_digits laws n) refl)
      ∙ ap (λ o. option_map_or numbered_type o (cond (is_type_and_code (decimal n)) (Err LeftOut) (Err Syntax))) (laws.decimals n 255 short within)
      ∙ if_false (nat_eq n 255) (Err LeftOut) (Ok (Some (positive (Icmp (one n n))))) (ne_eqb n 255 other)

  pub icmp_taken : (iv : Iv) (t : Told) (rest : List (List ℕ)) → iv.lo ≡ iv.hi → iv.hi ≤ 254 → list_any (bytes_eq (codes "--icmp-type")) t.given ≡ false
      → read (shown t) (codes "-m" ∷ codes "icmp" ∷ codes "--icmp-type" ∷ decimal iv.lo ∷ rest) ≡ read (shown (told (positive (Icmp (iv ∷ []))) t)) rest
  icmp_taken iv t rest same high fresh =
      let low : iv.lo ≤ 254 = omega arith in
      module_then (codes "icmp") t (codes "--icmp-type" ∷ decimal iv.lo ∷ rest) known_icmp refl
      ∙ plain_then (codes "--icmp-type") (decimal iv.lo) options.IcmpType (positive (Icmp (iv ∷ []))) t rest named_icmp (λ d. refl) (λ d. refl) fresh
      (icmp_means iv.lo low ∙ ap (λ (hi : ℕ). let x : Iv = record { lo = iv.lo; hi = hi } in Ok (Some (positive (Icmp (x ∷ []))))) same)

  -- Classes, marks and interfaces

  pub class_taken : (negated : Bool) (t : Told) (rest : List (List ℕ)) → list_any (bytes_eq (codes "--ctstate")) t.given ≡ false
      → read (shown t) (codes "-m" ∷ codes "conntrack" ∷ codes "--ctstate" ∷ class_word negated ∷ rest) ≡ read (shown (told (record { not = negated; test = Est }) t)) rest
  class_taken true t rest fresh =
      module_then (codes "conntrack") t (codes "--ctstate" ∷ class_word true ∷ rest) known_conntrack refl
      ∙ plain_then (codes "--ctstate") (class_word true) options.ConnectionState (record { not = true; test = Est }) t rest named_state (λ d. refl) (λ d. refl) fresh (new_means site)
  class_taken false t rest fresh =
      module_then (codes "conntrack") t (codes "--ctstate" ∷ class_word false ∷ rest) known_conntrack refl
      ∙ plain_then (codes "--ctstate") (class_word false) options.ConnectionState (record { not = false; test = Est }) t rest named_state (λ d. refl) (λ d. refl) fresh (known_means site)

  mark_means : (v : ℕ) → v < 2 ^ 32 → mark_meaning (mark_word v) ≡ Ok (Some (positive (Tag v)))
  mark_means v h =
      ap (λ o. and_then (and_then (ok_or o Syntax) tested_mark) (λ v. Ok (Some (positive (Tag v))))) (mark_read v h)

  pub tag_taken : (v : ℕ) (t : Told) (rest : List (List ℕ)) → v < 2 ^ 32 → list_any (bytes_eq (codes "--mark")) t.given ≡ false
      → read (shown t) (codes "-m" ∷ codes "mark" ∷ codes "--mark" ∷ mark_word v ∷ rest) ≡ read (shown (told (positive (Tag v)) t)) rest
  tag_taken v t rest h fresh =
      module_then (codes "mark") t (codes "--mark" ∷ mark_word v ∷ rest) known_mark refl
      ∙ plain_then (codes "--mark") (mark_word v) options.Mark (positive (Tag v)) t rest named_mark (λ d. refl) (λ d. refl) fresh (mark_means v h)

  pub recv_taken : (iv : Iv) (t : Told) (rest : List (List ℕ)) → iv.lo ≡ iv.hi → interface_meaning site Recv (interface_name Iptables site iv.lo) ≡ Ok (Some (positive (Recv (one iv.lo iv.lo))))
      → list_any (bytes_eq (codes "-i")) t.given ≡ false
      → read (shown t) (codes "-i" ∷ interface_name Iptables site iv.lo ∷ rest) ≡ read (shown (told (positive (Recv (iv ∷ []))) t)) rest
  recv_taken iv t rest same means fresh =
      plain_then (codes "-i") (interface_name Iptables site iv.lo) options.InInterface (positive (Recv (iv ∷ []))) t rest named_i (λ d. refl) (λ d. refl) fresh
      (means ∙ ap (λ (hi : ℕ). let x : Iv = record { lo = iv.lo; hi = hi } in Ok (Some (positive (Recv (x ∷ []))))) same)

  pub src_taken : (iv : Iv) (t : Told) (rest : List (List ℕ)) → iv.lo ≤ iv.hi → iv.hi ≤ 2 ^ 32 - 1 → list_any (bytes_eq (key_of (Src (iv ∷ [])))) t.given ≡ false
      → read (shown t) (address_words (codes "-s") (codes "--src-range") iv ++ rest) ≡ read (shown (told (positive (Src (iv ∷ []))) t)) rest
  src_taken iv t rest order high fresh = src_by (free_bits iv) iv t rest refl order high fresh

  pub dst_taken : (iv : Iv) (t : Told) (rest : List (List ℕ)) → iv.lo ≤ iv.hi → iv.hi ≤ 2 ^ 32 - 1 → list_any (bytes_eq (key_of (Dst (iv ∷ [])))) t.given ≡ false
      → read (shown t) (address_words (codes "-d") (codes "--dst-range") iv ++ rest) ≡ read (shown (told (positive (Dst (iv ∷ []))) t)) rest
  dst_taken iv t rest order high fresh = dst_by (free_bits iv) iv t rest refl order high fresh
