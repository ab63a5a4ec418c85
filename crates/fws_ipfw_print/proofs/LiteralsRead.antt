-- The words of literals are read as these, one after the other.
use Rattle.std.proofs.Common.{◌≡◌, ◌≢◌, ℕ, ◌+◌, ◌<◌, ◌≤◌, Bool, true, false, cond, ◌&&◌, not, nat_eq, nat_le, nat_lt, Ok, Err, List, [], ◌∷◌, ◌++◌, map, length, codes, decimal, refl, ap, ap₂, sym, ◌∙◌, append_assoc, append-nil, arith}
use Rattle.std.proofs.lemmas.Bool.{and_from, and_parts, leb-true, ltb-true, le-leb, eqb-true, eqb-false, cond_both, not-true}
use Rattle.std.proofs.lemmas.List.{map-append}
use Rattle.std.proofs.lemmas.List.Folds.{list_all-append}
use Rattle.std.specs.List.{flat_map, list_all, list_any}
use Rattle.std.specs.Option.{option_map_or}
use Rattle.std.specs.Str.{bytes_eq}
use Rattle.fws_num.specs.Named.{named_in}
use Rattle.fws_iv.specs.declared.iv.Iv.{Iv}
use Rattle.fws_net.specs.declared.cause.Cause.TheVariants.{Syntax}
use Rattle.fws_net.specs.declared.condition.Lit.{Lit}
use Rattle.fws_net.specs.declared.condition.Test.{Test}
use Rattle.fws_net.specs.declared.condition.Test.TheVariants.{Src, Dst, Sport, Dport, Proto, Icmp, Flags, AnyFlag, Recv, Xmit, Via, Outward, Est, Tag, Never}
use Rattle.fws_net.specs.declared.site.Site.{Site}
use Rattle.fws_net.specs.SiteLaws.{IsOrderly}
use Rattle.fws_net.specs.declared.packet.Lang.TheVariants.{Ipfw}
use Rattle.fws_rules.specs.Literals.{one, positive}
use Rattle.fws_rules.specs.Names.{interface_name}
use Rattle.fws_ipfw.specs.declared.draft.Defined.{Defined}
use Rattle.fws_ipfw.specs.declared.draft.RuleDraft.{RuleDraft}
use Rattle.fws_ipfw.specs.declared.words.TestOption.TheVariants as options
use Rattle.fws_ipfw.specs.Values.{set_meaning}
use Rattle.fws_print.specs.Sets.{are_flags, are_ranges, is_interface}
use Rattle.fws_ipfw_print.specs.Printable.{ascend, is_every_interface, is_printed_literal, place_of}
use Rattle.fws_ipfw_print.specs.PrintedText.{flag_words, flags_word, literal_words, name_word, numbers_word, ranges_word}
use Rattle.fws_ipfw_print.proofs.Basics.{all_weaker, never}
use Rattle.fws_ipfw_print.proofs.Laws.{Laws}
use Rattle.fws_ipfw_print.proofs.LineWords.{is_writable}
use Rattle.fws_ipfw_print.proofs.NamesRead.{interface_read, interface_writable}
use Rattle.fws_ipfw_print.proofs.OptionsRead.{IsOption, bare_then, below_more, flag_key, is_below, is_ranked, key_flags, key_fresh, key_in, key_of, key_out, key_ranked, key_recv, key_setup, key_sport, key_dport, key_tagged, key_types, literal_texts, negated_key, options_at, ranked_below, ranks, read, test_key, unreceived_then, value_then}
use Rattle.fws_ipfw_print.proofs.Tame.{is_tame, more, number_tame, tames_same, tames_writable}
use Rattle.fws_ipfw_print.proofs.ValuesRead.{counted_read, flags_read, flags_tame, numbers_read, ranges_read}

-- Interfaces

record IsEntry (site : Site) (iv : Iv) : Type 0 where
  some : 1 ≤ iv.lo
  within : iv.lo ≤ length site.faces + 1
  alone : one iv.lo iv.lo ≡ iv ∷ []

entry_known : (site : Site) (iv : Iv) → is_interface site (iv ∷ []) ≡ true → IsEntry site iv
entry_known site iv h =
    let most = length site.faces + 1 in
    let parts = and_parts (nat_eq iv.lo iv.hi && nat_le iv.hi most) (not (nat_eq iv.lo 0) && true) h in
    let first = and_parts (nat_eq iv.lo iv.hi) (nat_le iv.hi most) parts.0 in
    let other : iv.lo ≢ 0 = eqb-false iv.lo 0 (not-true (nat_eq iv.lo 0) (and_parts (not (nat_eq iv.lo 0)) true parts.1).0) in
    let same : iv.lo ≡ iv.hi = eqb-true iv.lo iv.hi first.0 in
    let high : iv.hi ≤ length site.faces + 1 = leb-true iv.hi most first.1 in
    record { some = omega arith; within = omega arith; alone = ap (λ (hi : ℕ). one iv.lo hi) same }

every_known : (site : Site) (iv : Iv) → is_every_interface site (iv ∷ []) ≡ true → one 1 (length site.faces + 1) ≡ iv ∷ []
every_known site iv h =
    let parts = and_parts (nat_eq iv.lo 1) (nat_eq iv.hi (length site.faces + 1)) h in
    ap₂ one (sym (eqb-true iv.lo 1 parts.0)) (sym (eqb-true iv.hi (length site.faces + 1) parts.1))

-- Sets of ports

ports_known : (set : List Iv) → (are_ranges 65535 set && nat_le (length set) 30) ≡ true → are_ranges 65535 set ≡ true
ports_known set h = (and_parts (are_ranges 65535 set) (nat_le (length set) 30) h).0

tag_known : (n : ℕ) → (nat_lt 0 n && nat_le n 65534) ≡ true → (1 ≤ n) × (n ≤ 65534)
tag_known n h = (let parts = and_parts (nat_lt 0 n) (nat_le n 65534) h in let low : 0 < n = ltb-true 0 n parts.0 in (omega arith, leb-true n 65534 parts.1))

module _ (laws : Laws) (site : Site) (orderly : IsOrderly site) where
  -- Words of options are written as they are, but for names

  record AreWritten (texts words : List (List ℕ)) : Type 0 where
    pub shown : map name_word texts ≡ words
    pub writable : list_all is_writable texts ≡ true

  tame_written : (words : List (List ℕ)) → list_all is_tame words ≡ true → AreWritten words words
  tame_written words h = record { shown = tames_same words h; writable = tames_writable words h }

  two_tame : (key word : List ℕ) → is_tame key ≡ true → is_tame word ≡ true → list_all is_tame (key ∷ word ∷ []) ≡ true
  two_tame key word h k = more key (word ∷ []) h (more word [] k refl)

  flags_written : (mask want : ℕ) → are_flags mask want ≡ true → list_all is_tame (flag_words mask want) ≡ true
  flags_written mask want h =
      cond_both (nat_eq mask 18 && nat_eq want 2) (codes "setup" ∷ []) (codes "tcpflags" ∷ flags_word mask want ∷ []) (λ words. list_all is_tame words ≡ true) (λ e. refl)
      (λ e. two_tame (codes "tcpflags") (flags_word mask want) refl (flags_tame mask want h))

  name_written : (name : List ℕ) → is_writable name ≡ true → AreWritten (codes "recv" ∷ name ∷ []) (codes "recv" ∷ name_word name ∷ [])
  name_written name h = record { shown = refl; writable = and_from (is_writable name) true h refl }

  written_by : (negated : Bool) (test : Test) → IsOption site negated test → AreWritten (literal_texts site (record { not = negated; test = test })) (literal_words site (record { not = negated; test = test }))
  written_by false Outward h = tame_written (codes "out" ∷ []) refl
  written_by false (Recv []) h = never h.printed
  written_by false (Recv (iv ∷ [])) h = (let is = entry_known site iv h.printed in name_written (interface_name Ipfw site iv.lo) (interface_writable site (laws.named Ipfw site orderly) iv.lo is.some is.within))
  written_by false (Recv (iv ∷ next ∷ set)) h = never h.printed
  written_by false (Sport set) h = tame_written (codes "src-port" ∷ ranges_word set ∷ []) (two_tame (codes "src-port") (ranges_word set) refl (ranges_read laws set (ports_known set h.printed)).1)
  written_by false (Dport set) h = tame_written (codes "dst-port" ∷ ranges_word set ∷ []) (two_tame (codes "dst-port") (ranges_word set) refl (ranges_read laws set (ports_known set h.printed)).1)
  written_by false (Flags mask want) h = tame_written (flag_words mask want) (flags_written mask want h.printed)
  written_by false (Icmp set) h = tame_written (codes "icmptypes" ∷ numbers_word set ∷ []) (two_tame (codes "icmptypes") (numbers_word set) refl (numbers_read laws set h.printed).1)
  written_by false (Tag n) h = tame_written (codes "tagged" ∷ decimal n ∷ []) (two_tame (codes "tagged") (decimal n) refl (number_tame laws n))
  written_by false (Proto set) h = never h.behind
  written_by false (Src set) h = never h.behind
  written_by false (Dst set) h = never h.behind
  written_by false (AnyFlag mask) h = never h.printed
  written_by false (Xmit set) h = never h.printed
  written_by false (Via set) h = never h.printed
  written_by false Est h = never h.printed
  written_by false Never h = never h.printed
  written_by true Outward h = tame_written (codes "in" ∷ []) refl
  written_by true (Recv set) h = tame_written (codes "not" ∷ codes "recv" ∷ codes "*" ∷ []) refl
  written_by true (Sport set) h = never h.printed
  written_by true (Dport set) h = never h.printed
  written_by true (Flags mask want) h = never h.printed
  written_by true (Icmp set) h = never h.printed
  written_by true (Tag n) h = never h.printed
  written_by true (Proto set) h = never h.printed
  written_by true (Src set) h = never h.printed
  written_by true (Dst set) h = never h.printed
  written_by true (AnyFlag mask) h = never h.printed
  written_by true (Xmit set) h = never h.printed
  written_by true (Via set) h = never h.printed
  written_by true Est h = never h.printed
  written_by true Never h = never h.printed

  -- An option is read as its literal

  module _ (known : List Defined) where
    abbrev Taken : Bool → Test → Bool → List (List ℕ) → List Lit → RuleDraft → List (List ℕ) → Type 0
    Taken negated test first given lits d rest =
        let lit : Lit = record { not = negated; test = test } in
        read site known (options_at first given lits d) (literal_texts site lit ++ rest) ≡ read site known (options_at false (given ++ key_of lit ∷ []) (lits ++ lit ∷ []) d) rest

    flags_then : (mask want : ℕ) (first : Bool) (given : List (List ℕ)) (lits : List Lit) (d : RuleDraft) (rest : List (List ℕ)) → are_flags mask want ≡ true
        → list_any (bytes_eq (key_of (positive (Flags mask want)))) given ≡ false → Taken false (Flags mask want) first given lits d rest
    unfolding flag_key test_key key_of
    flags_then mask want first given lits d rest h = by (nat_eq mask 18 && nat_eq want 2) refl
      where
        by : (b : Bool) → (nat_eq mask 18 && nat_eq want 2) ≡ b → list_any (bytes_eq (cond b (codes "setup") (codes "tcpflags"))) given ≡ false
            → read site known (options_at first given lits d) (cond b (codes "setup" ∷ []) (codes "tcpflags" ∷ flags_word mask want ∷ []) ++ rest)
            ≡ read site known (options_at false (given ++ cond b (codes "setup") (codes "tcpflags") ∷ []) (lits ++ positive (Flags mask want) ∷ []) d) rest
        by true e fresh =
            let parts = and_parts (nat_eq mask 18) (nat_eq want 2) e in
            bare_then site known (codes "setup") options.Setup (positive (Flags 18 2)) first given lits d rest key_setup (λ e. refl) fresh
            ∙ ap₂ (λ m w. read site known (options_at false (given ++ codes "setup" ∷ []) (lits ++ positive (Flags m w) ∷ []) d) rest) (sym (eqb-true mask 18 parts.0)) (sym (eqb-true want 2 parts.1))
        by false e fresh = value_then site known (codes "tcpflags") (flags_word mask want) options.TcpFlags (positive (Flags mask want)) first given lits d rest key_flags (λ e. refl) fresh (flags_read mask want h)

    taken_by : (negated : Bool) (test : Test) → IsOption site negated test → (first : Bool) (given : List (List ℕ)) (lits : List Lit) (d : RuleDraft) (rest : List (List ℕ))
        → list_any (bytes_eq (key_of (record { not = negated; test = test }))) given ≡ false → Taken negated test first given lits d rest
    unfolding flag_key test_key negated_key key_of
    taken_by false Outward h first given lits d rest fresh = bare_then site known (codes "out") options.Out (positive Outward) first given lits d rest key_out (λ e. refl) fresh
    taken_by false (Recv []) h first given lits d rest fresh = never h.printed
    taken_by false (Recv (iv ∷ [])) h first given lits d rest fresh =
        let is = entry_known site iv h.printed in
        value_then site known (codes "recv") (interface_name Ipfw site iv.lo) options.Recv (positive (Recv (one iv.lo iv.lo))) first given lits d rest key_recv (λ e. refl) fresh
        (interface_read site (laws.named Ipfw site orderly) iv.lo is.some is.within)
        ∙ ap (λ set. read site known (options_at false (given ++ codes "recv" ∷ []) (lits ++ positive (Recv set) ∷ []) d) rest) is.alone
    taken_by false (Recv (iv ∷ next ∷ set)) h first given lits d rest fresh = never h.printed
    taken_by false (Sport set) h first given lits d rest fresh =
        value_then site known (codes "src-port") (ranges_word set) options.SourcePort (positive (Sport set)) first given lits d rest key_sport (λ e. refl) fresh
        (ap (set_meaning Sport) (ranges_read laws set (ports_known set h.printed)).0)
    taken_by false (Dport set) h first given lits d rest fresh =
        value_then site known (codes "dst-port") (ranges_word set) options.DestinationPort (positive (Dport set)) first given lits d rest key_dport (λ e. refl) fresh
        (ap (set_meaning Dport) (ranges_read laws set (ports_known set h.printed)).0)
    taken_by false (Flags mask want) h first given lits d rest fresh = flags_then mask want first given lits d rest h.printed fresh
    taken_by false (Icmp set) h first given lits d rest fresh =
        value_then site known (codes "icmptypes") (numbers_word set) options.IcmpTypes (positive (Icmp set)) first given lits d rest key_types (λ e. refl) fresh
        (ap (set_meaning Icmp) (numbers_read laws set h.printed).0)
    taken_by false (Tag n) h first given lits d rest fresh =
        let is = tag_known n h.printed in
        value_then site known (codes "tagged") (decimal n) options.Tagged (positive (Tag n)) first given lits d rest key_tagged (λ e. refl) fresh
        (ap (λ o. option_map_or (λ n. Ok (positive (Tag n))) o (Err Syntax)) (counted_read laws n 65534 is.0 is.1 (omega arith)))
    taken_by false (Proto set) h first given lits d rest fresh = never h.behind
    taken_by false (Src set) h first given lits d rest fresh = never h.behind
    taken_by false (Dst set) h first given lits d rest fresh = never h.behind
    taken_by false (AnyFlag mask) h first given lits d rest fresh = never h.printed
    taken_by false (Xmit set) h first given lits d rest fresh = never h.printed
    taken_by false (Via set) h first given lits d rest fresh = never h.printed
    taken_by false Est h first given lits d rest fresh = never h.printed
    taken_by false Never h first given lits d rest fresh = never h.printed
    taken_by true Outward h first given lits d rest fresh =
        bare_then site known (codes "in") options.In (record { not = true; test = Outward }) first given lits d rest key_in (λ e. refl) fresh
    taken_by true (Recv []) h first given lits d rest fresh = never h.printed
    taken_by true (Recv (iv ∷ [])) h first given lits d rest fresh =
        unreceived_then site known first given lits d rest fresh
        ∙ ap (λ set. read site known (options_at false (given ++ codes "recv" ∷ []) (lits ++ record { not = true; test = Recv set } ∷ []) d) rest) (every_known site iv h.printed)
    taken_by true (Recv (iv ∷ next ∷ set)) h first given lits d rest fresh = never h.printed
    taken_by true (Sport set) h first given lits d rest fresh = never h.printed
    taken_by true (Dport set) h first given lits d rest fresh = never h.printed
    taken_by true (Flags mask want) h first given lits d rest fresh = never h.printed
    taken_by true (Icmp set) h first given lits d rest fresh = never h.printed
    taken_by true (Tag n) h first given lits d rest fresh = never h.printed
    taken_by true (Proto set) h first given lits d rest fresh = never h.printed
    taken_by true (Src set) h first given lits d rest fresh = never h.printed
    taken_by true (Dst set) h first given lits d rest fresh = never h.printed
    taken_by true (AnyFlag mask) h first given lits d rest fresh = never h.printed
    taken_by true (Xmit set) h first given lits d rest fresh = never h.printed
    taken_by true (Via set) h first given lits d rest fresh = never h.printed
    taken_by true Est h first given lits d rest fresh = never h.printed
    taken_by true Never h first given lits d rest fresh = never h.printed

    -- Options are read as their literals

    -- what follows an option
    abbrev stays_first : Bool → List Lit → Bool
    stays_first first [] = first
    stays_first first (lit ∷ lits) = false

    place_small : (negated : Bool) (test : Test) → IsOption site negated test → place_of test ≤ 9
    place_small negated Outward h = omega arith
    place_small negated (Recv set) h = omega arith
    place_small negated (Sport set) h = omega arith
    place_small negated (Dport set) h = omega arith
    place_small negated (Flags mask want) h = omega arith
    place_small negated (Icmp set) h = omega arith
    place_small negated (Tag n) h = omega arith
    place_small negated (Proto set) h = omega arith
    place_small negated (Src set) h = omega arith
    place_small negated (Dst set) h = omega arith
    place_small false (AnyFlag mask) h = never h.printed
    place_small false (Xmit set) h = never h.printed
    place_small false (Via set) h = never h.printed
    place_small false Est h = never h.printed
    place_small false Never h = never h.printed
    place_small true (AnyFlag mask) h = never h.printed
    place_small true (Xmit set) h = never h.printed
    place_small true (Via set) h = never h.printed
    place_small true Est h = never h.printed
    place_small true Never h = never h.printed

    -- the options behind a place, as they are read and written
    pub record AreTaken (first : Bool) (given : List (List ℕ)) (done lits : List Lit) (d : RuleDraft) : Type 0 where
      pub keys : List (List ℕ)
      pub below : list_all (is_below 10) keys ≡ true
      pub taken : (rest : List (List ℕ))
          → read site known (options_at first given done d) (flat_map (literal_texts site) lits ++ rest) ≡ read site known (options_at (stays_first first lits) keys (done ++ lits) d) rest
      pub shown : map name_word (flat_map (literal_texts site) lits) ≡ flat_map (literal_words site) lits
      pub writable : list_all is_writable (flat_map (literal_texts site) lits) ≡ true

    given_below : (n m : ℕ) (given : List (List ℕ)) → n ≤ m → list_all (is_below n) given ≡ true → list_all (is_below m) given ≡ true
    unfolding is_below
    given_below n m given le h = all_weaker (is_below n) (is_below m) (λ key. below_more n m (named_in ranks key) le) given h

    key_below : (n : ℕ) (key : List ℕ) → is_ranked n key ≡ true → is_below (n + 1) key ≡ true
    unfolding is_below is_ranked
    key_below n key h = ranked_below n (n + 1) (named_in ranks key) (omega arith) h

    pub lits_taken : (least : ℕ) (first : Bool) (given : List (List ℕ)) (done lits : List Lit) (d : RuleDraft) → 3 ≤ least → least ≤ 10 → ascend least lits ≡ true
        → list_all (is_printed_literal site) lits ≡ true → list_all (is_below least) given ≡ true → AreTaken first given done lits d
    lits_taken least first given done [] d from to rise printed fresh = record {
      keys = given;
      below = given_below least 10 given to fresh;
      taken = λ rest. ap (λ (l : List Lit). read site known (options_at first given l d) rest) (sym (append-nil done));
      shown = refl;
      writable = refl;
    }
    lits_taken least first given done (lit ∷ lits) d from to rise printed fresh =
        let place = place_of lit.test in
        let order = and_parts (nat_le least place) (ascend (place + 1) lits) rise in
        let each = and_parts (is_printed_literal site lit) (list_all (is_printed_literal site) lits) printed in
        let low : least ≤ place = leb-true least place order.0 in
        let behind : 3 ≤ place = omega arith in
        let is : IsOption site lit.not lit.test = record { behind = le-leb 3 place behind; printed = each.0 } in
        let small : place_of lit.test ≤ 9 = place_small lit.not lit.test is in
        let before = given_below least place given low fresh in
        let ranked = key_ranked site lit.not lit.test is in
        let next : 3 ≤ place + 1 = omega arith in
        let last : place + 1 ≤ 10 = omega arith in
        let later : place ≤ place + 1 = omega arith in
        let key = key_of lit in
        let below : list_all (is_below (place + 1)) (given ++ key ∷ []) ≡ true =
        list_all-append (is_below (place + 1)) given (key ∷ [])
        ∙ and_from (list_all (is_below (place + 1)) given) (list_all (is_below (place + 1)) (key ∷ [])) (given_below place (place + 1) given later before)
        (and_from (is_below (place + 1) key) true (key_below place key ranked) refl) in
        let others = lits_taken (place + 1) false (given ++ key ∷ []) (done ++ lit ∷ []) lits d next last order.1 each.1 below in
        let own = written_by lit.not lit.test is in
        let texts = literal_texts site lit in
        let more_texts = flat_map (literal_texts site) lits in
        let stay : stays_first false lits ≡ false = stays lits in
        record {
          keys = others.keys;
          below = others.below;
          taken = λ rest.
              ap (read site known (options_at first given done d)) (append_assoc texts more_texts rest)
              ∙ taken_by lit.not lit.test is first given done d (more_texts ++ rest) (key_fresh place key given ranked before)
              ∙ others.taken rest
              ∙ ap (λ b. read site known (options_at b others.keys ((done ++ lit ∷ []) ++ lits) d) rest) stay
              ∙ ap (λ (l : List Lit). read site known (options_at false others.keys l d) rest) (append_assoc done (lit ∷ []) lits);
          shown = map-append name_word texts more_texts ∙ ap₂ (λ a b. a ++ b) own.shown others.shown;
          writable = list_all-append is_writable texts more_texts ∙ and_from (list_all is_writable texts) (list_all is_writable more_texts) own.writable others.writable;
        }
      where
        stays : (lits : List Lit) → stays_first false lits ≡ false
        stays [] = refl
        stays (l ∷ ls) = refl
