-- The words of a condition are read as its literals, and what is known of the draft behind them.
use Rattle.std.proofs.Common.{◌≡◌, ◌≢◌, ℕ, ◌+◌, ◌-◌, ◌^◌, ◌≤◌, Bool, true, false, ◌&&◌, ◌||◌, not, nat_eq, nat_le, List, [], ◌∷◌, ◌++◌, length, refl, ap, sym, ◌∙◌, append_assoc, append-nil, inl, inr, arith}
use Rattle.std.proofs.lemmas.Bool.{and_from, and_parts, or_cases, or_parts, leb-true, ltb-true, eqb-true, eqb-false, not-true}
use Rattle.std.proofs.lemmas.List.Folds.{list_all-append}
use Rattle.std.specs.List.{flat_map, list_all, list_any}
use Rattle.std.specs.Str.{bytes_eq}
use Rattle.fws_iv.specs.declared.iv.Iv.{Iv}
use Rattle.fws_net.specs.declared.condition.Lit.{Lit}
use Rattle.fws_net.specs.declared.condition.Test.{Test}
use Rattle.fws_net.specs.declared.condition.Test.TheVariants.{Src, Dst, Sport, Dport, Proto, Icmp, Flags, AnyFlag, Recv, Xmit, Via, Outward, Est, Tag, Never}
use Rattle.fws_net.specs.declared.site.Site.{Site}
use Rattle.fws_net.specs.SiteLaws.{IsOrderly}
use Rattle.fws_net.specs.declared.packet.Lang.TheVariants.{Iptables}
use Rattle.fws_ipt.specs.declared.config.IptTable.{IptTable}
use Rattle.fws_ipt.specs.declared.config.IptChain.{IptChain}
use Rattle.fws_ipt.specs.Spelled.{asks_ports, asks_protocol}
use Rattle.fws_print.specs.Sets.{is_number, is_range}
use Rattle.fws_ipt_print.specs.Printable.{are_different, is_class, is_port_test, is_printed_literal, is_printed_test, option_of}
use Rattle.fws_ipt_print.specs.PrintedText.{literal_words, test_words}
use Rattle.fws_ipt_print.proofs.Basics.{never}
use Rattle.fws_ipt_print.proofs.Keys.{all_told, fresh_more, is_flag_test, is_fresh, is_icmp_test, is_known, is_optional, key_known, key_of, told}
use Rattle.fws_ipt_print.proofs.Laws.{Laws}
use Rattle.fws_ipt_print.proofs.Literals.{class_taken, dport_taken, dst_taken, flags_taken, icmp_taken, proto_taken, recv_taken, sport_taken, src_taken, tag_taken}
use Rattle.fws_ipt_print.proofs.PlainNames.{interface_read}
use Rattle.fws_ipt_print.proofs.Told.{Told, none_told, shown, texts_read}

-- one number of a set that isn't 0
pub some_number : (most : ℕ) (iv : Iv) → (is_number most (iv ∷ []) && not (list_any (λ iv. nat_eq iv.lo 0) (iv ∷ []))) ≡ true → (1 ≤ iv.lo) × (iv.lo ≡ iv.hi) × (iv.hi ≤ most)
some_number most iv h =
    let parts = and_parts (is_number most (iv ∷ [])) (not (list_any (λ iv. nat_eq iv.lo 0) (iv ∷ []))) h in
    let one = and_parts (nat_eq iv.lo iv.hi) (nat_le iv.hi most) parts.0 in
    let off = or_parts (nat_eq iv.lo 0) false (not-true (list_any (λ iv. nat_eq iv.lo 0) (iv ∷ [])) parts.1) in
    let other : iv.lo ≢ 0 = eqb-false iv.lo 0 off.0 in
    (omega arith, eqb-true iv.lo iv.hi one.0, leb-true iv.hi most one.1)

one_number : (most : ℕ) (iv : Iv) → is_number most (iv ∷ []) ≡ true → (iv.lo ≡ iv.hi) × (iv.hi ≤ most)
one_number most iv h = (let one = and_parts (nat_eq iv.lo iv.hi) (nat_le iv.hi most) h in (eqb-true iv.lo iv.hi one.0, leb-true iv.hi most one.1))

one_range : (most : ℕ) (iv : Iv) → is_range most (iv ∷ []) ≡ true → (iv.lo ≤ iv.hi) × (iv.hi ≤ most)
one_range most iv h = (let one = and_parts (nat_le iv.lo iv.hi) (nat_le iv.hi most) h in (leb-true iv.lo iv.hi one.0, leb-true iv.hi most one.1))

module _ (laws : Laws) (site : Site) (orderly : IsOrderly site) (table : IptTable) (chains : List IptChain) (shows : Bool) (lits : List Lit) where
  abbrev printed : Lit → Bool
  printed lit = is_printed_literal site shows lits lit

  test_taken : (negated : Bool) (test : Test) (t : Told) (rest : List (List ℕ)) → printed (record { not = negated; test = test }) ≡ true → list_any (bytes_eq (key_of test)) t.given ≡ false
      → texts_read site table chains (shown t) (test_words site lits negated test ++ rest) ≡ texts_read site table chains (shown (told (record { not = negated; test = test }) t)) rest
  test_taken false (Proto []) t rest h fresh = never h
  test_taken false (Proto (iv ∷ [])) t rest h fresh =
      let one = some_number 255 iv h in
      let low : iv.lo ≤ 255 = (let same : iv.lo ≡ iv.hi = one.1 in let high : iv.hi ≤ 255 = one.2 in omega arith) in
      proto_taken laws site table chains iv t rest one.0 low one.1 fresh
  test_taken false (Proto (iv ∷ next ∷ set)) t rest h fresh = never h
  test_taken false (Src []) t rest h fresh = never h
  test_taken false (Src (iv ∷ [])) t rest h fresh = (let one = one_range (2 ^ 32 - 1) iv h in src_taken laws site table chains iv t rest one.0 one.1 fresh)
  test_taken false (Src (iv ∷ next ∷ set)) t rest h fresh = never h
  test_taken false (Dst []) t rest h fresh = never h
  test_taken false (Dst (iv ∷ [])) t rest h fresh = (let one = one_range (2 ^ 32 - 1) iv h in dst_taken laws site table chains iv t rest one.0 one.1 fresh)
  test_taken false (Dst (iv ∷ next ∷ set)) t rest h fresh = never h
  test_taken false (Sport set) t rest h fresh = sport_taken laws site table chains lits set t rest (and_parts (asks_ports lits) _ h).1 fresh
  test_taken false (Dport set) t rest h fresh = dport_taken laws site table chains lits set t rest (and_parts (asks_ports lits) _ h).1 fresh
  test_taken false (Flags mask want) t rest h fresh =
      let last = and_parts (asks_protocol 6 lits && nat_le mask 63) (nat_le want 63) h in
      let first = and_parts (asks_protocol 6 lits) (nat_le mask 63) last.0 in
      flags_taken laws site table chains mask want t rest (leb-true mask 63 first.1) (leb-true want 63 last.1) fresh
  test_taken false (Icmp []) t rest h fresh = never (and_parts (asks_protocol 1 lits) false h).1
  test_taken false (Icmp (iv ∷ [])) t rest h fresh =
      (let one = one_number 254 iv (and_parts (asks_protocol 1 lits) (is_number 254 (iv ∷ [])) h).1 in icmp_taken laws site table chains iv t rest one.0 one.1 fresh)
  test_taken false (Icmp (iv ∷ next ∷ set)) t rest h fresh = never (and_parts (asks_protocol 1 lits) false h).1
  test_taken false (Recv []) t rest h fresh = never (and_parts shows false (and_parts (shows && false) _ h).0).1
  test_taken false (Recv (iv ∷ [])) t rest h fresh =
      let most = length site.faces + 1 in
      let parts = and_parts (shows && is_number most (iv ∷ [])) (not (list_any (λ iv. nat_eq iv.lo 0) (iv ∷ []))) h in
      let one = some_number most iv (and_from (is_number most (iv ∷ [])) (not (list_any (λ iv. nat_eq iv.lo 0) (iv ∷ []))) (and_parts shows (is_number most (iv ∷ [])) parts.0).1 parts.1) in
      let low : iv.lo ≤ length site.faces + 1 = (let same : iv.lo ≡ iv.hi = one.1 in let high : iv.hi ≤ length site.faces + 1 = one.2 in omega arith) in
      recv_taken laws site table chains iv t rest one.1 (interface_read site (laws.named Iptables site orderly) iv.lo one.0 low) fresh
  test_taken false (Recv (iv ∷ next ∷ set)) t rest h fresh = never (and_parts shows false (and_parts (shows && false) _ h).0).1
  test_taken false Est t rest h fresh = class_taken laws site table chains false t rest fresh
  test_taken true Est t rest h fresh = class_taken laws site table chains true t rest fresh
  test_taken false (Tag n) t rest h fresh = tag_taken laws site table chains n t rest (ltb-true n (2 ^ 32) h) fresh
  test_taken false (AnyFlag mask) t rest h fresh = never h
  test_taken false (Xmit set) t rest h fresh = never h
  test_taken false (Via set) t rest h fresh = never h
  test_taken false Outward t rest h fresh = never h
  test_taken false Never t rest h fresh = never h
  test_taken true (Proto set) t rest h fresh = never h
  test_taken true (Src set) t rest h fresh = never h
  test_taken true (Dst set) t rest h fresh = never h
  test_taken true (Sport set) t rest h fresh = never h
  test_taken true (Dport set) t rest h fresh = never h
  test_taken true (Flags mask want) t rest h fresh = never h
  test_taken true (Icmp set) t rest h fresh = never h
  test_taken true (Recv set) t rest h fresh = never h
  test_taken true (Tag n) t rest h fresh = never h
  test_taken true (AnyFlag mask) t rest h fresh = never h
  test_taken true (Xmit set) t rest h fresh = never h
  test_taken true (Via set) t rest h fresh = never h
  test_taken true Outward t rest h fresh = never h
  test_taken true Never t rest h fresh = never h

  tested : (lit : Lit) → printed lit ≡ true → is_printed_test site shows lits lit.test ≡ true
  tested lit h = (and_parts (not lit.not || is_class lit.test) (is_printed_test site shows lits lit.test) h).1

  test_optional : (test : Test) → is_printed_test site shows lits test ≡ true → is_optional test ≡ true
  test_optional (Proto set) h = refl
  test_optional (Src set) h = refl
  test_optional (Dst set) h = refl
  test_optional (Sport set) h = refl
  test_optional (Dport set) h = refl
  test_optional (Flags mask want) h = refl
  test_optional (Icmp set) h = refl
  test_optional (Recv set) h = refl
  test_optional Est h = refl
  test_optional (Tag n) h = refl
  test_optional (AnyFlag mask) h = never h
  test_optional (Xmit set) h = never h
  test_optional (Via set) h = never h
  test_optional Outward h = never h
  test_optional Never h = never h

  all_optional : (some : List Lit) → list_all printed some ≡ true → list_all (λ lit. is_optional lit.test) some ≡ true
  all_optional [] h = refl
  all_optional (lit ∷ some) h =
      let parts = and_parts (printed lit) (list_all printed some) h in
      and_from (is_optional lit.test) (list_all (λ lit. is_optional lit.test) some) (test_optional lit.test (tested lit parts.0)) (all_optional some parts.1)

  -- all literals
  pub lits_taken : (some : List Lit) (t : Told) (rest : List (List ℕ)) → list_all printed some ≡ true → are_different some ≡ true → list_all (is_fresh t.given) some ≡ true
      → texts_read site table chains (shown t) (flat_map (literal_words site lits) some ++ rest) ≡ texts_read site table chains (shown (all_told some t)) rest
  lits_taken [] t rest h differ fresh = refl
  lits_taken (lit ∷ some) t rest h differ fresh =
      let a = and_parts (printed lit) (list_all printed some) h in
      let b = and_parts (list_all (λ other. not (nat_eq (option_of lit.test) (option_of other.test))) some) (are_different some) differ in
      let c = and_parts (is_fresh t.given lit) (list_all (is_fresh t.given) some) fresh in
      ap (texts_read site table chains (shown t)) (append_assoc (literal_words site lits lit) (flat_map (literal_words site lits) some) rest)
      ∙ test_taken lit.not lit.test t (flat_map (literal_words site lits) some ++ rest) a.0 (not-true (list_any (bytes_eq (key_of lit.test)) t.given) c.0)
      ∙ lits_taken some (told lit t) rest a.1 b.1
      (fresh_more t.given lit some (test_optional lit.test (tested lit a.0)) (all_optional some a.1) b.0 c.1)

  -- What the draft has

  pub told_lits : (some : List Lit) (t : Told) → (all_told some t).lits ≡ t.lits ++ some
  told_lits [] t = sym (append-nil t.lits)
  told_lits (lit ∷ some) t = told_lits some (told lit t) ∙ append_assoc t.lits (lit ∷ []) some

  pub told_known : (some : List Lit) (t : Told) → list_all printed some ≡ true → list_all is_known t.given ≡ true → list_all is_known (all_told some t).given ≡ true
  told_known [] t h k = k
  told_known (lit ∷ some) t h k =
      let parts = and_parts (printed lit) (list_all printed some) h in
      told_known some (told lit t) parts.1
      (list_all-append is_known t.given (key_of lit.test ∷ [])
      ∙ and_from (list_all is_known t.given) (list_all is_known (key_of lit.test ∷ [])) k
      (and_from (is_known (key_of lit.test)) true (key_known lit.test (test_optional lit.test (tested lit parts.0))) refl))

  ports_test : (test : Test) → is_printed_test site shows lits test ≡ true → is_port_test test ≡ true → asks_ports lits ≡ true
  ports_test (Sport set) h k = (and_parts (asks_ports lits) _ h).0
  ports_test (Dport set) h k = (and_parts (asks_ports lits) _ h).0
  ports_test (Proto set) h k = never k
  ports_test (Src set) h k = never k
  ports_test (Dst set) h k = never k
  ports_test (Flags mask want) h k = never k
  ports_test (Icmp set) h k = never k
  ports_test (Recv set) h k = never k
  ports_test Est h k = never k
  ports_test (Tag n) h k = never k
  ports_test (AnyFlag mask) h k = never k
  ports_test (Xmit set) h k = never k
  ports_test (Via set) h k = never k
  ports_test Outward h k = never k
  ports_test Never h k = never k

  flags_test : (test : Test) → is_printed_test site shows lits test ≡ true → is_flag_test test ≡ true → asks_protocol 6 lits ≡ true
  flags_test (Flags mask want) h k = (and_parts (asks_protocol 6 lits) (nat_le mask 63) (and_parts (asks_protocol 6 lits && nat_le mask 63) (nat_le want 63) h).0).0
  flags_test (Sport set) h k = never k
  flags_test (Dport set) h k = never k
  flags_test (Proto set) h k = never k
  flags_test (Src set) h k = never k
  flags_test (Dst set) h k = never k
  flags_test (Icmp set) h k = never k
  flags_test (Recv set) h k = never k
  flags_test Est h k = never k
  flags_test (Tag n) h k = never k
  flags_test (AnyFlag mask) h k = never k
  flags_test (Xmit set) h k = never k
  flags_test (Via set) h k = never k
  flags_test Outward h k = never k
  flags_test Never h k = never k

  icmp_test : (test : Test) → is_printed_test site shows lits test ≡ true → is_icmp_test test ≡ true → asks_protocol 1 lits ≡ true
  icmp_test (Icmp set) h k = (and_parts (asks_protocol 1 lits) _ h).0
  icmp_test (Flags mask want) h k = never k
  icmp_test (Sport set) h k = never k
  icmp_test (Dport set) h k = never k
  icmp_test (Proto set) h k = never k
  icmp_test (Src set) h k = never k
  icmp_test (Dst set) h k = never k
  icmp_test (Recv set) h k = never k
  icmp_test Est h k = never k
  icmp_test (Tag n) h k = never k
  icmp_test (AnyFlag mask) h k = never k
  icmp_test (Xmit set) h k = never k
  icmp_test (Via set) h k = never k
  icmp_test Outward h k = never k
  icmp_test Never h k = never k

  -- what one of the literals asks for
  asked_by : (has : Told → Bool) (test : Test → Bool) (asked : Bool) → ((lit : Lit) (t : Told) → has (told lit t) ≡ (has t || test lit.test))
      → ((each : Test) → is_printed_test site shows lits each ≡ true → test each ≡ true → asked ≡ true)
      → (some : List Lit) (t : Told) → list_all printed some ≡ true → (has t ≡ true → asked ≡ true) → has (all_told some t) ≡ true → asked ≡ true
  asked_by has test asked step each [] t h k e = k e
  asked_by has test asked step each (lit ∷ some) t h k e =
      let parts = and_parts (printed lit) (list_all printed some) h in
      asked_by has test asked step each some (told lit t) parts.1
      (λ told_so. elim (or_cases (has t) (test lit.test) (sym (step lit t) ∙ told_so)) [ inl before ↦ k before | inr now ↦ each lit.test (tested lit parts.0) now ]) e

  pub ports_asked : (some : List Lit) → list_all printed some ≡ true → (all_told some none_told).has_port ≡ true → asks_ports lits ≡ true
  ports_asked some h = asked_by (λ t. t.has_port) is_port_test (asks_ports lits) (λ lit t. refl) ports_test some none_told h never

  pub flags_asked : (some : List Lit) → list_all printed some ≡ true → (all_told some none_told).has_flags ≡ true → asks_protocol 6 lits ≡ true
  flags_asked some h = asked_by (λ t. t.has_flags) is_flag_test (asks_protocol 6 lits) (λ lit t. refl) flags_test some none_told h never

  pub icmp_asked : (some : List Lit) → list_all printed some ≡ true → (all_told some none_told).has_icmp ≡ true → asks_protocol 1 lits ≡ true
  icmp_asked some h = asked_by (λ t. t.has_icmp) is_icmp_test (asks_protocol 1 lits) (λ lit t. refl) icmp_test some none_told h never
