-- The options of a rule are read as its literals.
use Rattle.std.proofs.Common.{◌≡◌, ℕ, ◌+◌, ◌<◌, ◌≤◌, Bool, true, false, cond, ◌&&◌, nat_eq, nat_le, nat_lt, Option, Some, None, Result, Ok, Err, List, [], ◌∷◌, ◌++◌, length, codes, refl, ap, sym, ◌∙◌, arith}
use Rattle.std.proofs.lemmas.Bool.{and_parts, or_from, ltb-true, lt-ltb, eqb-true, cond_both, false_from_ne_true}
use Rattle.std.proofs.lemmas.Slice.Eq.{bytes_eq-Decides}
use Rattle.std.specs.List.{list_all, list_any}
use Rattle.std.specs.Option.{option_map_or}
use Rattle.std.specs.Str.{bytes_eq}
use Rattle.fws_num.specs.Named.{named_in}
use Rattle.fws_num.specs.Services.{service_of}
use Rattle.fws_net.specs.declared.cause.Cause.{Cause}
use Rattle.fws_net.specs.declared.cause.Cause.TheVariants.{Syntax}
use Rattle.fws_net.specs.declared.condition.Lit.{Lit}
use Rattle.fws_net.specs.declared.condition.Test.{Test}
use Rattle.fws_net.specs.declared.condition.Test.TheVariants.{Src, Dst, Sport, Dport, Proto, Icmp, Flags, AnyFlag, Recv, Xmit, Via, Outward, Est, Tag, Never}
use Rattle.fws_net.specs.declared.site.Site.{Site}
use Rattle.fws_net.specs.Reading.{and_then}
use Rattle.fws_net.specs.declared.packet.Lang.TheVariants.{Ipfw}
use Rattle.fws_rules.specs.Literals.{literals, one}
use Rattle.fws_rules.specs.Names.{interface_name}
use Rattle.fws_ipfw.specs.declared.draft.Defined.{Defined}
use Rattle.fws_ipfw.specs.declared.draft.Expects.TheVariants as expect
use Rattle.fws_ipfw.specs.declared.draft.RuleDraft.{RuleDraft}
use Rattle.fws_ipfw.specs.declared.words.TestOption.{TestOption}
use Rattle.fws_ipfw.specs.declared.words.TestOption.TheVariants as options
use Rattle.fws_ipfw.specs.Options.{misplaced, test_option}
use Rattle.fws_ipfw.specs.RuleText.{destination_ports_step, expected_step, expecting, once, option_step, test_begun, with_literals}
use Rattle.fws_ipfw.specs.Values.{meaning_of}
use Rattle.fws_ipfw_print.specs.Printable.{is_printed_negation, is_printed_test, place_of}
use Rattle.fws_print.specs.Sets.{first_number}
use Rattle.fws_ipfw_print.specs.PrintedText.{negated_words, test_words}
use Rattle.fws_ipfw_print.proofs.Basics.{never}
use Rattle.fws_ipfw_print.proofs.LineWords.{texts_read, word_then}
use Rattle.fws_ipfw_print.proofs.NamesRead.{every_read}

-- Texts of options: their words without quotes

abbrev pub test_texts : Site → Test → List (List ℕ)
test_texts site (Recv set) = codes "recv" ∷ interface_name Ipfw site (first_number set) ∷ []
test_texts site test = test_words site test

abbrev pub literal_texts : Site → Lit → List (List ℕ)
literal_texts site lit = cond lit.not (negated_words lit.test) (test_texts site lit.test)

-- Options and their places

abbrev pub ranks : List (List ℕ × ℕ)
ranks =
    (codes "in", 3) ∷ (codes "out", 3) ∷ (codes "recv", 4) ∷ (codes "src-port", 5) ∷ (codes "dst-port", 6) ∷ (codes "setup", 7) ∷ (codes "tcpflags", 7) ∷
    (codes "icmptypes", 8) ∷ (codes "tagged", 9) ∷ (codes "keep-state", 10) ∷ []

unfoldable pub is_ranked : ℕ → List ℕ → Bool
is_ranked n key = option_map_or (nat_eq n) (named_in ranks key) false

unfoldable pub is_below : ℕ → List ℕ → Bool
is_below n key = option_map_or (λ m. nat_lt m n) (named_in ranks key) false

pub ranked_below : (n m : ℕ) (o : Option ℕ) → n < m → option_map_or (nat_eq n) o false ≡ true → option_map_or (λ k. nat_lt k m) o false ≡ true
ranked_below n m None lt h = never h
ranked_below n m (Some k) lt h = ap (λ i. nat_lt i m) (sym (eqb-true n k h)) ∙ lt-ltb n m lt

pub below_more : (n m : ℕ) (o : Option ℕ) → n ≤ m → option_map_or (λ k. nat_lt k n) o false ≡ true → option_map_or (λ k. nat_lt k m) o false ≡ true
below_more n m None le h = never h
below_more n m (Some k) le h = (let low : k < n = ltb-true k n h in let lt : k < m = omega arith in lt-ltb k m lt)

not_both : (n : ℕ) (o : Option ℕ) → option_map_or (nat_eq n) o false ≡ true → option_map_or (λ k. nat_lt k n) o false ≡ true → ⊥
not_both n None h k = never h
not_both n (Some m) h k = (let same : n ≡ m = eqb-true n m h in let low : m < n = ltb-true m n k in omega arith)

-- an option whose place comes behind those that were given is new
pub key_fresh : (n : ℕ) (key : List ℕ) (given : List (List ℕ)) → is_ranked n key ≡ true → list_all (is_below n) given ≡ true → list_any (bytes_eq key) given ≡ false
unfolding is_ranked is_below
key_fresh n key [] h k = refl
key_fresh n key (text ∷ given) h k =
    let parts = and_parts (is_below n text) (list_all (is_below n) given) k in
    or_from (bytes_eq key text) (list_any (bytes_eq key) given)
    (false_from_ne_true (bytes_eq key text) (λ e. not_both n (named_in ranks key) h (ap (is_below n) ((bytes_eq-Decides key text).0 e) ∙ parts.0))) (key_fresh n key given h parts.1)

pub keep_fresh : (given : List (List ℕ)) → list_all (is_below 10) given ≡ true → list_any (bytes_eq (codes "keep-state")) given ≡ false
unfolding is_ranked
keep_fresh given h = key_fresh 10 (codes "keep-state") given refl h

unfoldable pub flag_key : Bool → List ℕ
flag_key syn = cond syn (codes "setup") (codes "tcpflags")

unfoldable pub test_key : Test → List ℕ
test_key Outward = codes "out"
test_key (Recv set) = codes "recv"
test_key (Sport set) = codes "src-port"
test_key (Dport set) = codes "dst-port"
test_key (Flags mask want) = flag_key (nat_eq mask 18 && nat_eq want 2)
test_key (Icmp set) = codes "icmptypes"
test_key _ = codes "tagged"

unfoldable pub negated_key : Test → List ℕ
negated_key Outward = codes "in"
negated_key _ = codes "recv"

unfoldable pub key_of : Lit → List ℕ
key_of lit = cond lit.not (negated_key lit.test) (test_key lit.test)

-- a printed literal that is an option
pub record IsOption (site : Site) (negated : Bool) (test : Test) : Type 0 where
  pub behind : nat_le 3 (place_of test) ≡ true
  pub printed : cond negated (is_printed_negation site test) (is_printed_test site test) ≡ true

pub key_ranked : (site : Site) (negated : Bool) (test : Test) → IsOption site negated test → is_ranked (place_of test) (key_of (record { not = negated; test = test })) ≡ true
unfolding is_ranked flag_key test_key negated_key key_of
key_ranked site false Outward h = refl
key_ranked site false (Recv set) h = refl
key_ranked site false (Sport set) h = refl
key_ranked site false (Dport set) h = refl
key_ranked site false (Flags mask want) h = cond_both (nat_eq mask 18 && nat_eq want 2) (codes "setup") (codes "tcpflags") (λ key. is_ranked 7 key ≡ true) (λ e. refl) (λ e. refl)
key_ranked site false (Icmp set) h = refl
key_ranked site false (Tag n) h = refl
key_ranked site false (Proto set) h = never h.behind
key_ranked site false (Src set) h = never h.behind
key_ranked site false (Dst set) h = never h.behind
key_ranked site false (AnyFlag mask) h = never h.printed
key_ranked site false (Xmit set) h = never h.printed
key_ranked site false (Via set) h = never h.printed
key_ranked site false Est h = never h.printed
key_ranked site false Never h = never h.printed
key_ranked site true Outward h = refl
key_ranked site true (Recv set) h = refl
key_ranked site true (Sport set) h = never h.printed
key_ranked site true (Dport set) h = never h.printed
key_ranked site true (Flags mask want) h = never h.printed
key_ranked site true (Icmp set) h = never h.printed
key_ranked site true (Tag n) h = never h.printed
key_ranked site true (Proto set) h = never h.printed
key_ranked site true (Src set) h = never h.printed
key_ranked site true (Dst set) h = never h.printed
key_ranked site true (AnyFlag mask) h = never h.printed
key_ranked site true (Xmit set) h = never h.printed
key_ranked site true (Via set) h = never h.printed
key_ranked site true Est h = never h.printed
key_ranked site true Never h = never h.printed

-- Drafts behind the destination

-- a draft of which options were read; the first one may be ports too
abbrev pub options_at : Bool → List (List ℕ) → List Lit → RuleDraft → RuleDraft
options_at first given lits d = record d { expects = cond first expect.DestinationPorts expect.Option; given = given; cond = lits }

-- a word that is read as this option, wherever it stands
pub record IsKey (key : List ℕ) (option : TestOption) : Type 0 where
  ahead : (d : RuleDraft) → destination_ports_step key d ≡ and_then (once key d) (λ e. Ok (test_begun false option e))
  later : (d : RuleDraft) → option_step (misplaced key) key d ≡ and_then (once key d) (λ e. Ok (test_begun false option e))

pub key_in : IsKey (codes "in") options.In
unfolding service_of test_option
key_in = record { ahead = λ d. refl; later = λ d. refl }

pub key_out : IsKey (codes "out") options.Out
unfolding service_of test_option
key_out = record { ahead = λ d. refl; later = λ d. refl }

pub key_recv : IsKey (codes "recv") options.Recv
unfolding service_of test_option
key_recv = record { ahead = λ d. refl; later = λ d. refl }

pub key_sport : IsKey (codes "src-port") options.SourcePort
unfolding service_of test_option
key_sport = record { ahead = λ d. refl; later = λ d. refl }

pub key_dport : IsKey (codes "dst-port") options.DestinationPort
unfolding service_of test_option
key_dport = record { ahead = λ d. refl; later = λ d. refl }

pub key_setup : IsKey (codes "setup") options.Setup
unfolding service_of test_option
key_setup = record { ahead = λ d. refl; later = λ d. refl }

pub key_flags : IsKey (codes "tcpflags") options.TcpFlags
unfolding service_of test_option
key_flags = record { ahead = λ d. refl; later = λ d. refl }

pub key_types : IsKey (codes "icmptypes") options.IcmpTypes
unfolding service_of test_option
key_types = record { ahead = λ d. refl; later = λ d. refl }

pub key_tagged : IsKey (codes "tagged") options.Tagged
unfolding service_of test_option
key_tagged = record { ahead = λ d. refl; later = λ d. refl }

module _ (site : Site) (known : List Defined) where
  abbrev pub step : RuleDraft → List ℕ → Result RuleDraft Cause
  step d text = expected_step site known d.expects text d

  abbrev pub read : RuleDraft → List (List ℕ) → Result RuleDraft Cause
  read d texts = texts_read step d texts

  -- an option that wasn't given yet
  key_step : (key : List ℕ) (option : TestOption) (first : Bool) (given : List (List ℕ)) (lits : List Lit) (d : RuleDraft) → IsKey key option → list_any (bytes_eq key) given ≡ false
      → step (options_at first given lits d) key ≡ Ok (test_begun false option (options_at first (given ++ key ∷ []) lits d))
  key_step key option true given lits d is fresh =
      is.ahead (options_at true given lits d)
      ∙ ap (λ b. and_then (cond b (Err Syntax) (Ok (options_at true (given ++ key ∷ []) lits d))) (λ e. Ok (test_begun false option e))) fresh
  key_step key option false given lits d is fresh =
      is.later (options_at false given lits d)
      ∙ ap (λ b. and_then (cond b (Err Syntax) (Ok (options_at false (given ++ key ∷ []) lits d))) (λ e. Ok (test_begun false option e))) fresh

  -- an option without a value
  pub bare_then : (key : List ℕ) (option : TestOption) (lit : Lit) (first : Bool) (given : List (List ℕ)) (lits : List Lit) (d : RuleDraft) (rest : List (List ℕ)) → IsKey key option
      → ((e : RuleDraft) → test_begun false option e ≡ expecting expect.Option (with_literals (lit ∷ []) e)) → list_any (bytes_eq key) given ≡ false
      → read (options_at first given lits d) (key ∷ rest) ≡ read (options_at false (given ++ key ∷ []) (lits ++ lit ∷ []) d) rest
  bare_then key option lit first given lits d rest is bare fresh =
      word_then step key rest (options_at first given lits d) (options_at false (given ++ key ∷ []) (lits ++ lit ∷ []) d)
      (key_step key option first given lits d is fresh ∙ ap (λ e. Ok e) (bare (options_at first (given ++ key ∷ []) lits d)))

  -- an option with a value
  pub value_then : (key value : List ℕ) (option : TestOption) (lit : Lit) (first : Bool) (given : List (List ℕ)) (lits : List Lit) (d : RuleDraft) (rest : List (List ℕ)) → IsKey key option
      → ((e : RuleDraft) → test_begun false option e ≡ expecting (expect.Value option false) e) → list_any (bytes_eq key) given ≡ false → meaning_of site option value ≡ Ok lit
      → read (options_at first given lits d) (key ∷ value ∷ rest) ≡ read (options_at false (given ++ key ∷ []) (lits ++ lit ∷ []) d) rest
  value_then key value option lit first given lits d rest is begun fresh means =
      let opened : RuleDraft = expecting (expect.Value option false) (options_at first (given ++ key ∷ []) lits d) in
      word_then step key (value ∷ rest) (options_at first given lits d) opened
      (key_step key option first given lits d is fresh ∙ ap (λ e. Ok e) (begun (options_at first (given ++ key ∷ []) lits d)))
      ∙ word_then step value rest opened (options_at false (given ++ key ∷ []) (lits ++ lit ∷ []) d)
      (ap (λ o. and_then o (λ lit. Ok (expecting expect.Option (with_literals (literals false (Some lit)) opened)))) means)

  -- `not recv *`
  pub unreceived_then : (first : Bool) (given : List (List ℕ)) (lits : List Lit) (d : RuleDraft) (rest : List (List ℕ)) → list_any (bytes_eq (codes "recv")) given ≡ false
      → read (options_at first given lits d) (codes "not" ∷ codes "recv" ∷ codes "*" ∷ rest)
      ≡ read (options_at false (given ++ codes "recv" ∷ []) (lits ++ record { not = true; test = Recv (one 1 (length site.faces + 1)) } ∷ []) d) rest
  unfolding service_of test_option
  unreceived_then true given lits d rest fresh =
      let next = given ++ codes "recv" ∷ [] in
      let negated : RuleDraft = expecting expect.NegatedDestinationPorts (options_at true given lits d) in
      let opened : RuleDraft = expecting (expect.Value options.Recv true) (options_at true next lits d) in
      word_then step (codes "recv") (codes "*" ∷ rest) negated opened
      (ap (λ b. and_then (cond b (Err Syntax) (Ok (record negated { given = next }))) (λ e. Ok (test_begun true options.Recv e))) fresh)
      ∙ word_then step (codes "*") rest opened (options_at false next (lits ++ record { not = true; test = Recv (one 1 (length site.faces + 1)) } ∷ []) d)
      (ap (λ o. and_then o (λ lit. Ok (expecting expect.Option (with_literals (literals true (Some lit)) opened)))) (every_read site))
  unreceived_then false given lits d rest fresh =
      let next = given ++ codes "recv" ∷ [] in
      let negated : RuleDraft = expecting expect.Negated (options_at false given lits d) in
      let opened : RuleDraft = expecting (expect.Value options.Recv true) (options_at false next lits d) in
      word_then step (codes "recv") (codes "*" ∷ rest) negated opened
      (ap (λ b. and_then (cond b (Err Syntax) (Ok (record negated { given = next }))) (λ e. Ok (test_begun true options.Recv e))) fresh)
      ∙ word_then step (codes "*") rest opened (options_at false next (lits ++ record { not = true; test = Recv (one 1 (length site.faces + 1)) } ∷ []) d)
      (ap (λ o. and_then o (λ lit. Ok (expecting expect.Option (with_literals (literals true (Some lit)) opened)))) (every_read site))
