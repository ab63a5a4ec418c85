-- What a rule tests and writes, word by word: its tests have their protocols, and its networks their names.
use Rattle.std.proofs.Common.{◌≡◌, ℕ, Bool, true, false, cond, ◌&&◌, ◌||◌, not, nat_eq, nat_le, Option, Some, None, is_some, is_none, Result, Ok, Err, List, [], ◌∷◌, ◌++◌, codes, bytes_eq, ok_or, IfOk, refl, sym, subst, ◌∙◌}
use Rattle.std.proofs.lemmas.Bool.{false≢true, and_parts, and_from, or_parts, or_left, or_right, leb-true, le-leb, eqb-true, eq-eqb, not-false}
use Rattle.std.proofs.lemmas.List.Folds.{list_all-append, list_any-append}
use Rattle.std.specs.List.{list_all, list_any}
use Rattle.std.specs.Option.{option_map_or}
use Rattle.fws_num.specs.declared.prefix.Prefix.{Prefix}
use Rattle.fws_num.specs.declared.word.Word.{Word}
use Rattle.fws_num.specs.Numbers.{dec_of, prefix_of}
use Rattle.fws_num.specs.Pieces.{pieces_of}
use Rattle.fws_iv.specs.declared.iv.Iv.{Iv}
use Rattle.fws_net.specs.declared.condition.Test.{Test}
use Rattle.fws_net.specs.declared.condition.Test.TheVariants.{Src, Dst, Sport, Dport, Proto, Icmp, Flags, Recv, Xmit, Tag}
use Rattle.fws_net.specs.declared.condition.Lit.{Lit}
use Rattle.fws_net.specs.declared.packet.Lang.TheVariants.{Iptables}
use Rattle.fws_net.specs.declared.cause.Cause.{Cause}
use Rattle.fws_net.specs.declared.cause.Cause.TheVariants.{Syntax, LeftOut}
use Rattle.fws_net.specs.declared.site.Site.{Site}
use Rattle.fws_net.specs.Causes.{checked, words_read}
use Rattle.fws_net.specs.Ends.{host_end}
use Rattle.fws_net.specs.Faces.{prefix_parts}
use Rattle.fws_net.specs.Reading.{and_then}
use Rattle.fws_rules.specs.Interfaces.{interfaces_of}
use Rattle.fws_rules.specs.Literals.{positive, one, literals, protocol_literal}
use Rattle.fws_ipt.specs.declared.config.IptTable.{IptTable}
use Rattle.fws_ipt.specs.declared.config.IptGo.{IptGo}
use Rattle.fws_ipt.specs.declared.config.IptGo.TheVariants as acts
use Rattle.fws_ipt.specs.declared.config.IptRule.{IptRule}
use Rattle.fws_ipt.specs.declared.config.IptChain.{IptChain}
use Rattle.fws_ipt.specs.declared.hook.Hook.{Hook}
use Rattle.fws_ipt.specs.declared.words.Keyword.{Keyword}
use Rattle.fws_ipt.specs.declared.words.Keyword.TheVariants as keywords
use Rattle.fws_ipt.specs.declared.words.TestOption.{TestOption}
use Rattle.fws_ipt.specs.declared.words.TestOption.TheVariants as tests
use Rattle.fws_ipt.specs.declared.words.TargetOption.{TargetOption}
use Rattle.fws_ipt.specs.declared.words.TargetOption.TheVariants as options
use Rattle.fws_ipt.specs.declared.words.TargetWord.{TargetWord}
use Rattle.fws_ipt.specs.declared.words.TargetWord.TheVariants as targets
use Rattle.fws_ipt.specs.declared.draft.Expects.{Expects}
use Rattle.fws_ipt.specs.declared.draft.Expects.TheVariants as expect
use Rattle.fws_ipt.specs.declared.draft.RuleDraft.{RuleDraft}
use Rattle.fws_ipt.specs.Options.{keyword_of, is_module, target_word, is_left_out_target}
use Rattle.fws_ipt.specs.RuleText.{fresh_rule, closed, limited, once, asks_port, asks_flags, asks_icmp, noted, with_literals, test_begun, test_step, with_source, with_destination, with_protocol, compared_step, value_step, first_act, with_target, user_chain, other_target, target_step, goto_step, is_written, is_bare, behind_option, fits_target, option_step, target_value_step, target_begun, keyword_step, is_target_option, known_step, any_step, negated_keyword, module_step, expected_step, rule_step, is_complete, is_misplaced, logs, is_protocol, lacks_protocol, keeps_network, is_loose, rule_checks, rule_made, rule_of}
use Rattle.fws_ipt.specs.Spelled.{asks, tests_protocol, asks_protocol, asks_ports, may_stand, is_spelled_cond, may_write, is_spelled_rule, is_block, is_prefix_set, tests_src, tests_dst, names_block, is_network}
use Rattle.fws_ipt.specs.Values.{set_meaning, interface_meaning, is_address_type, type_meaning, prefix_literal, protocol_value, flags_of, syn_literal, is_type_and_code, numbered_type, icmp_meaning, is_state, is_translation_state, state_literal, states_meaning, mark_value, meaning_of, xmark_value, set_mark_value, place_of, to_port, network_of}
use Rattle.fws_ipt.specs.Walk.{writes_dst_at, writes_src_at}
use Rattle.fws_ipt.proofs.Drafts.{once_holds}
use Rattle.fws_ipt.proofs.Outcomes.{then_holds, then_known, either_holds, found_holds, ok_or_holds, passed_holds, words_hold}
use Rattle.fws_ipt.proofs.Prefixes.{IsClear, prefix_clear, prefix_block, block_of_prefix, network_spelled}
use Rattle.fws_ipt.proofs.Users.{all_weaker}

-- What holds of a rule so far

-- the addresses of a prefix of just this length
abbrev is_own : ℕ → List Iv → Bool
is_own len set = nat_le len 32 && is_block len set

abbrev writes_network : IptGo → Bool
writes_network (acts.Netmap net) = is_network net
writes_network _ = true

record Told (c : List Lit) (go : IptGo) (ports flags icmp : Bool) (protocol source destination : Option ℕ) : Type 0 where
  tests : list_all (λ lit. may_stand ports flags icmp lit.test) c ≡ true
  written : may_write ports go ≡ true
  network : writes_network go ≡ true
  protocol_asked : option_map_or (λ n. asks_protocol n c) protocol true ≡ true
  source_asked : option_map_or (λ n. asks (tests_src (is_own n)) c) source true ≡ true
  destination_asked : option_map_or (λ n. asks (tests_dst (is_own n)) c) destination true ≡ true

-- an option whose value comes next was noted
abbrev is_noted : Expects → Bool → Bool → Bool → Bool
is_noted (expect.Value option negated) ports flags icmp = (not (asks_port option) || ports) && (not (asks_flags option) || flags) && (not (asks_icmp option) || icmp)
is_noted (expect.Compared mask negated) ports flags icmp = flags
is_noted _ ports flags icmp = true

abbrev Telling : RuleDraft → Type 0
Telling d = Told d.cond d.go d.has_port d.has_flags d.has_icmp d.protocol d.source d.destination

record Kept (d : RuleDraft) : Type 0 where
  told : Telling d
  expected : is_noted d.expects d.has_port d.has_flags d.has_icmp ≡ true

-- More literals

either_found : (a b found_a found_b : Bool) → (a ≡ true → found_a ≡ true) → (b ≡ true → found_b ≡ true) → (a || b) ≡ true → (found_a || found_b) ≡ true
either_found true b found_a found_b f g h = or_left found_a found_b (f refl)
either_found false b found_a found_b f g h = or_right found_a found_b (g h)

any_weaker : {X : Type 0} (p q : X → Bool) → ((x : X) → p x ≡ true → q x ≡ true) → (xs : List X) → list_any p xs ≡ true → list_any q xs ≡ true
any_weaker p q step [] h = h
any_weaker p q step (x ∷ xs) h = either_found (p x) (list_any p xs) (q x) (list_any q xs) (step x) (any_weaker p q step xs) h

asks_weaker : (p q : Test → Bool) → ((t : Test) → p t ≡ true → q t ≡ true) → (c : List Lit) → asks p c ≡ true → asks q c ≡ true
asks_weaker p q step c h =
    any_weaker (λ lit. not lit.not && p lit.test) (λ lit. not lit.not && q lit.test)
    (λ lit k. let both = and_parts (not lit.not) (p lit.test) k in and_from (not lit.not) (q lit.test) both.0 (step lit.test both.1)) c h

asks_before : (test : Test → Bool) (c lits : List Lit) → asks test c ≡ true → asks test (c ++ lits) ≡ true
asks_before test c lits h = let p : Lit → Bool = λ lit. not lit.not && test lit.test in list_any-append p c lits ∙ or_left (list_any p c) (list_any p lits) h

asks_behind : (test : Test → Bool) (c : List Lit) (t : Test) → test t ≡ true → asks test (c ++ positive t ∷ []) ≡ true
asks_behind test c t h =
    let p : Lit → Bool = λ lit. not lit.not && test lit.test in
    list_any-append p c (positive t ∷ []) ∙ or_right (list_any p c) (test t || false) (or_left (test t) false h)

asked_before : (test : ℕ → Test → Bool) (o : Option ℕ) (c lits : List Lit) → option_map_or (λ n. asks (test n) c) o true ≡ true
    → option_map_or (λ n. asks (test n) (c ++ lits)) o true ≡ true
asked_before test None c lits h = refl
asked_before test (Some n) c lits h = asks_before (test n) c lits h

longer : (lits c : List Lit) (go : IptGo) (ports flags icmp : Bool) (protocol source destination : Option ℕ) → Told c go ports flags icmp protocol source destination
    → list_all (λ lit. may_stand ports flags icmp lit.test) lits ≡ true → Told (c ++ lits) go ports flags icmp protocol source destination
longer lits c go ports flags icmp protocol source destination h new =
    let p : Lit → Bool = λ lit. may_stand ports flags icmp lit.test in
    record {
      tests = list_all-append p c lits ∙ and_from (list_all p c) (list_all p lits) h.tests new;
      written = h.written;
      network = h.network;
      protocol_asked = asked_before tests_protocol protocol c lits h.protocol_asked;
      source_asked = asked_before (λ n. tests_src (is_own n)) source c lits h.source_asked;
      destination_asked = asked_before (λ n. tests_dst (is_own n)) destination c lits h.destination_asked;
    }

with_literals_told : (lits : List Lit) (d : RuleDraft) → Telling d → list_all (λ lit. may_stand d.has_port d.has_flags d.has_icmp lit.test) lits ≡ true
    → Telling (with_literals lits d)
with_literals_told lits d h new = longer lits d.cond d.go d.has_port d.has_flags d.has_icmp d.protocol d.source d.destination h new

-- a literal that an option means
abbrev Stands : Bool → Bool → Bool → Option Lit → Type 0
Stands ports flags icmp o = option_map_or (λ lit. may_stand ports flags icmp lit.test) o true ≡ true

literals_stand : (ports flags icmp negated : Bool) (o : Option Lit) → Stands ports flags icmp o → list_all (λ lit. may_stand ports flags icmp lit.test) (literals negated o) ≡ true
literals_stand ports flags icmp false None h = refl
literals_stand ports flags icmp true None h = refl
literals_stand ports flags icmp false (Some lit) h = and_from (may_stand ports flags icmp lit.test) true h refl
literals_stand ports flags icmp true (Some lit) h = and_from (may_stand ports flags icmp lit.test) true h refl

put_kept : (negated : Bool) (o : Option Lit) (d : RuleDraft) → Telling d → Stands d.has_port d.has_flags d.has_icmp o → Kept (with_literals (literals negated o) d)
put_kept negated o d h k =
    record { told = with_literals_told (literals negated o) d h (literals_stand d.has_port d.has_flags d.has_icmp negated o k); expected = refl }

-- More is noted

stand_more : (ports flags icmp more_ports more_flags more_icmp : Bool) → (ports ≡ true → more_ports ≡ true) → (flags ≡ true → more_flags ≡ true) → (icmp ≡ true → more_icmp ≡ true)
    → (t : Test) → may_stand ports flags icmp t ≡ true → may_stand more_ports more_flags more_icmp t ≡ true
stand_more ports flags icmp more_ports more_flags more_icmp a b c (Sport set) h = a h
stand_more ports flags icmp more_ports more_flags more_icmp a b c (Dport set) h = a h
stand_more ports flags icmp more_ports more_flags more_icmp a b c (Flags mask want) h = b h
stand_more ports flags icmp more_ports more_flags more_icmp a b c (Icmp set) h = c h
stand_more ports flags icmp more_ports more_flags more_icmp a b c _ h = h

or_more : (first ports more_ports : Bool) → (ports ≡ true → more_ports ≡ true) → (first || ports) ≡ true → (first || more_ports) ≡ true
or_more true ports more_ports a h = refl
or_more false ports more_ports a h = a h

write_more : (ports more_ports : Bool) → (ports ≡ true → more_ports ≡ true) → (go : IptGo) → may_write ports go ≡ true → may_write more_ports go ≡ true
write_more ports more_ports a (acts.Source e) h = or_more (is_none e.port) ports more_ports a h
write_more ports more_ports a (acts.Dest e) h = or_more (is_none e.port) ports more_ports a h
write_more ports more_ports a (acts.Redirect port) h = or_more (is_none port) ports more_ports a h
write_more ports more_ports a _ h = h

noting : (ports flags icmp more_ports more_flags more_icmp : Bool) → (ports ≡ true → more_ports ≡ true) → (flags ≡ true → more_flags ≡ true) → (icmp ≡ true → more_icmp ≡ true)
    → (c : List Lit) (go : IptGo) (protocol source destination : Option ℕ) → Told c go ports flags icmp protocol source destination
    → Told c go more_ports more_flags more_icmp protocol source destination
noting ports flags icmp more_ports more_flags more_icmp p f i c go protocol source destination h =
    record {
      tests =
          all_weaker (λ lit. may_stand ports flags icmp lit.test) (λ lit. may_stand more_ports more_flags more_icmp lit.test)
          (λ lit. stand_more ports flags icmp more_ports more_flags more_icmp p f i lit.test) c h.tests;
      written = write_more ports more_ports p go h.written;
      network = h.network;
      protocol_asked = h.protocol_asked;
      source_asked = h.source_asked;
      destination_asked = h.destination_asked;
    }

noted_told : (option : TestOption) (d : RuleDraft) → Telling d → Telling (noted option d)
noted_told option d h =
    noting d.has_port d.has_flags d.has_icmp (d.has_port || asks_port option) (d.has_flags || asks_flags option) (d.has_icmp || asks_icmp option)
    (or_left d.has_port (asks_port option)) (or_left d.has_flags (asks_flags option)) (or_left d.has_icmp (asks_icmp option)) d.cond d.go d.protocol d.source d.destination h

noted_now : (asked already : Bool) → (not asked || (already || asked)) ≡ true
noted_now true already = or_right already true refl
noted_now false already = refl

option_noted : (negated : Bool) (option : TestOption) (ports flags icmp : Bool)
    → is_noted (expect.Value option negated) (ports || asks_port option) (flags || asks_flags option) (icmp || asks_icmp option) ≡ true
option_noted negated option ports flags icmp =
    let a = not (asks_port option) || (ports || asks_port option) in
    let b = not (asks_flags option) || (flags || asks_flags option) in
    let c = not (asks_icmp option) || (icmp || asks_icmp option) in
    and_from (a && b) c (and_from a b (noted_now (asks_port option) ports) (noted_now (asks_flags option) flags)) (noted_now (asks_icmp option) icmp)

-- Options

begun_kept : (negated : Bool) (option : TestOption) (d : RuleDraft) → Telling d → Kept (test_begun negated option (noted option d))
begun_kept negated tests.Syn d h = put_kept negated (Some syn_literal) (noted tests.Syn d) (noted_told tests.Syn d h) (or_right d.has_flags true refl)
begun_kept negated option d h = record { told = noted_told option d h; expected = option_noted negated option d.has_port d.has_flags d.has_icmp }

test_kept : (negated : Bool) (text : List ℕ) (option : TestOption) (d : RuleDraft) → Telling d → IfOk (test_step negated text option d) Kept
test_kept negated text option d h =
    once_holds Kept text d (λ e. Ok (test_begun negated option (noted option (closed e))))
    (begun_kept negated option (closed (record d { given = d.given ++ text ∷ [] })) h)

-- Values of options

source_kept : (negated : Bool) (net : Prefix) (d : RuleDraft) → IsClear net → Telling d
    → Telling (with_literals (literals negated (Some (prefix_literal Src net))) (with_source negated net d))
source_kept true net d clear h = with_literals_told (literals true (Some (prefix_literal Src net))) d h refl
source_kept false net d clear h =
    let more = with_literals_told (literals false (Some (prefix_literal Src net))) d h refl in
    record {
      tests = more.tests;
      written = more.written;
      network = more.network;
      protocol_asked = more.protocol_asked;
      source_asked =
          asks_behind (tests_src (is_own net.len)) d.cond (prefix_literal Src net).test
          (and_from (nat_le net.len 32) (is_block net.len (prefix_parts net)) (le-leb net.len 32 clear.short) (prefix_block net));
      destination_asked = more.destination_asked;
    }

destination_kept : (negated : Bool) (net : Prefix) (d : RuleDraft) → IsClear net → Telling d
    → Telling (with_literals (literals negated (Some (prefix_literal Dst net))) (with_destination negated net d))
destination_kept true net d clear h = with_literals_told (literals true (Some (prefix_literal Dst net))) d h refl
destination_kept false net d clear h =
    let more = with_literals_told (literals false (Some (prefix_literal Dst net))) d h refl in
    record {
      tests = more.tests;
      written = more.written;
      network = more.network;
      protocol_asked = more.protocol_asked;
      source_asked = more.source_asked;
      destination_asked =
          asks_behind (tests_dst (is_own net.len)) d.cond (prefix_literal Dst net).test
          (and_from (nat_le net.len 32) (is_block net.len (prefix_parts net)) (le-leb net.len 32 clear.short) (prefix_block net));
    }

protocol_stands : (ports flags icmp : Bool) (protocol : Option ℕ) → Stands ports flags icmp (protocol_literal protocol)
protocol_stands ports flags icmp None = refl
protocol_stands ports flags icmp (Some n) = refl

protocol_given : (protocol : Option ℕ) (c : List Lit) → option_map_or (λ n. asks_protocol n (c ++ literals false (protocol_literal protocol))) protocol true ≡ true
protocol_given None c = refl
protocol_given (Some n) c = asks_behind (tests_protocol n) c (Proto (one n n)) (and_from (nat_eq n n) (nat_eq n n) (eq-eqb n n refl) (eq-eqb n n refl))

protocol_kept : (negated : Bool) (protocol : Option ℕ) (d : RuleDraft) → Telling d
    → Telling (with_literals (literals negated (protocol_literal protocol)) (with_protocol negated protocol d))
protocol_kept true protocol d h =
    with_literals_told (literals true (protocol_literal protocol)) d h
    (literals_stand d.has_port d.has_flags d.has_icmp true (protocol_literal protocol) (protocol_stands d.has_port d.has_flags d.has_icmp protocol))
protocol_kept false protocol d h =
    let more =
    with_literals_told (literals false (protocol_literal protocol)) d h
    (literals_stand d.has_port d.has_flags d.has_icmp false (protocol_literal protocol) (protocol_stands d.has_port d.has_flags d.has_icmp protocol)) in
    record {
      tests = more.tests;
      written = more.written;
      network = more.network;
      protocol_asked = protocol_given protocol d.cond;
      source_asked = more.source_asked;
      destination_asked = more.destination_asked;
    }

set_stands : (ports flags icmp : Bool) (test : List Iv → Test) (set : Option (List Iv)) → ((s : List Iv) → may_stand ports flags icmp (test s) ≡ true)
    → IfOk (set_meaning test set) (Stands ports flags icmp)
set_stands ports flags icmp test set h = found_holds (Stands ports flags icmp) set (λ s. Ok (Some (positive (test s)))) (Err Syntax) (λ s e. h s) tt

interface_stands : (ports flags icmp : Bool) (site : Site) (test : List Iv → Test) (text : List ℕ) → ((s : List Iv) → may_stand ports flags icmp (test s) ≡ true)
    → IfOk (interface_meaning site test text) (Stands ports flags icmp)
interface_stands ports flags icmp site test text h = then_holds (Stands ports flags icmp) (interfaces_of Iptables 43 site text) (λ set. Ok (Some (positive (test set)))) h

type_stands : (ports flags icmp : Bool) (site : Site) (test : List Iv → Test) (text : List ℕ) → ((s : List Iv) → may_stand ports flags icmp (test s) ≡ true)
    → IfOk (type_meaning site test text) (Stands ports flags icmp)
type_stands ports flags icmp site test text h =
    either_holds (Stands ports flags icmp) (bytes_eq text (codes "LOCAL")) _ _ (λ e. h _)
    (λ e. either_holds (Stands ports flags icmp) (list_all is_address_type (pieces_of 44 text)) (Err LeftOut) (Err Syntax) (λ k. tt) (λ k. tt))

icmp_stands : (ports flags : Bool) (text : List ℕ) → IfOk (icmp_meaning text) (Stands ports flags true)
icmp_stands ports flags text =
    either_holds (Stands ports flags true) (bytes_eq text (codes "any")) (Ok None) _ (λ e. refl)
    (λ e. found_holds (Stands ports flags true) (dec_of text 255) numbered_type _
    (λ n k. either_holds (Stands ports flags true) (nat_eq n 255) (Err LeftOut) (Ok (Some (positive (Icmp (one n n))))) (λ l. tt) (λ l. refl))
    (either_holds (Stands ports flags true) (is_type_and_code text) (Err LeftOut) (Err Syntax) (λ k. tt) (λ k. tt)))

state_stands : (ports flags icmp fresh established : Bool) → Stands ports flags icmp (state_literal fresh established)
state_stands ports flags icmp true true = refl
state_stands ports flags icmp true false = refl
state_stands ports flags icmp false true = refl
state_stands ports flags icmp false false = refl

states_stand : (ports flags icmp : Bool) (items : List (List ℕ)) → IfOk (states_meaning items) (Stands ports flags icmp)
states_stand ports flags icmp items =
    either_holds (Stands ports flags icmp) (not (list_all is_state items)) (Err Syntax) _ (λ e. tt)
    (λ e. either_holds (Stands ports flags icmp) (list_any is_translation_state items) (Err LeftOut) (Ok _) (λ k. tt)
    (λ k. state_stands ports flags icmp (list_any (bytes_eq (codes "NEW")) items) (list_any (bytes_eq (codes "ESTABLISHED")) items)))

-- the test of an option stands, where the option was noted
meaning_stands : (ports flags icmp negated : Bool) (site : Site) (option : TestOption) (text : List ℕ) → is_noted (expect.Value option negated) ports flags icmp ≡ true
    → IfOk (meaning_of site option text) (Stands ports flags icmp)
meaning_stands ports flags icmp negated site tests.InInterface text h = interface_stands ports flags icmp site Recv text (λ s. refl)
meaning_stands ports flags icmp negated site tests.OutInterface text h = interface_stands ports flags icmp site Xmit text (λ s. refl)
meaning_stands ports flags icmp negated site tests.SourcePort text h =
    set_stands ports flags icmp Sport _ (λ s. (and_parts ports true (and_parts (ports && true) true h).0).0)
meaning_stands ports flags icmp negated site tests.DestinationPort text h =
    set_stands ports flags icmp Dport _ (λ s. (and_parts ports true (and_parts (ports && true) true h).0).0)
meaning_stands ports flags icmp negated site tests.SourcePorts text h =
    set_stands ports flags icmp Sport _ (λ s. (and_parts ports true (and_parts (ports && true) true h).0).0)
meaning_stands ports flags icmp negated site tests.DestinationPorts text h =
    set_stands ports flags icmp Dport _ (λ s. (and_parts ports true (and_parts (ports && true) true h).0).0)
meaning_stands ports flags icmp negated site tests.IcmpType text h = subst (λ b. IfOk (icmp_meaning text) (Stands ports flags b)) (sym h) (icmp_stands ports flags text)
meaning_stands ports flags icmp negated site tests.State text h = states_stand ports flags icmp (pieces_of 44 text)
meaning_stands ports flags icmp negated site tests.ConnectionState text h = states_stand ports flags icmp (pieces_of 44 text)
meaning_stands ports flags icmp negated site tests.Mark text h = then_holds (Stands ports flags icmp) (mark_value text) (λ v. Ok (Some (positive (Tag v)))) (λ v. refl)
meaning_stands ports flags icmp negated site tests.SourceRange text h = set_stands ports flags icmp Src _ (λ s. refl)
meaning_stands ports flags icmp negated site tests.DestinationRange text h = set_stands ports flags icmp Dst _ (λ s. refl)
meaning_stands ports flags icmp negated site tests.SourceType text h = type_stands ports flags icmp site Src text (λ s. refl)
meaning_stands ports flags icmp negated site tests.DestinationType text h = type_stands ports flags icmp site Dst text (λ s. refl)
meaning_stands ports flags icmp negated site _ text h = tt

value_kept : (site : Site) (option : TestOption) (negated : Bool) (text : List ℕ) (d : RuleDraft) → is_noted (expect.Value option negated) d.has_port d.has_flags d.has_icmp ≡ true
    → Telling d → IfOk (value_step site option negated text d) Kept
value_kept site tests.Source negated text d e h =
    then_known IsClear Kept (ok_or (prefix_of text) Syntax) _ (ok_or_holds IsClear (prefix_of text) Syntax (prefix_clear text))
    (λ net clear. record { told = source_kept negated net d clear h; expected = refl })
value_kept site tests.Destination negated text d e h =
    then_known IsClear Kept (ok_or (prefix_of text) Syntax) _ (ok_or_holds IsClear (prefix_of text) Syntax (prefix_clear text))
    (λ net clear. record { told = destination_kept negated net d clear h; expected = refl })
value_kept site tests.Protocol negated text d e h =
    then_holds Kept (protocol_value text) _ (λ protocol. record { told = protocol_kept negated protocol d h; expected = refl })
value_kept site tests.TcpFlags negated text d e h =
    then_holds Kept (ok_or (flags_of text) Syntax) _ (λ mask. record { told = h; expected = (and_parts d.has_flags true e).0 })
value_kept site option negated text d e h =
    then_known (Stands d.has_port d.has_flags d.has_icmp) Kept (meaning_of site option text) (λ lit. Ok (with_literals (literals negated lit) d))
    (meaning_stands d.has_port d.has_flags d.has_icmp negated site option text e) (λ lit k. put_kept negated lit d h k)

compared_kept : (mask : ℕ) (negated : Bool) (text : List ℕ) (d : RuleDraft) → d.has_flags ≡ true → Telling d → IfOk (compared_step mask negated text d) Kept
compared_kept mask negated text d e h = then_holds Kept (ok_or (flags_of text) Syntax) _ (λ want. put_kept negated (Some (positive (Flags mask want))) d h e)

-- Targets

acting : (after go : IptGo) (c : List Lit) (ports flags icmp : Bool) (protocol source destination : Option ℕ) → may_write ports after ≡ true → writes_network after ≡ true
    → Told c go ports flags icmp protocol source destination → Told c after ports flags icmp protocol source destination
acting after go c ports flags icmp protocol source destination write net h =
    record {
      tests = h.tests;
      written = write;
      network = net;
      protocol_asked = h.protocol_asked;
      source_asked = h.source_asked;
      destination_asked = h.destination_asked;
    }

acted : (after : IptGo) (d : RuleDraft) → may_write d.has_port after ≡ true → writes_network after ≡ true → Telling d → Telling (record d { go = after })
acted after d write net h = acting after d.go d.cond d.has_port d.has_flags d.has_icmp d.protocol d.source d.destination write net h

-- an end with a port is noted
ended : (after : IptGo) (has_port : Bool) (d : RuleDraft) → may_write (d.has_port || has_port) after ≡ true → writes_network after ≡ true → Telling d
    → Told d.cond after (d.has_port || has_port) d.has_flags d.has_icmp d.protocol d.source d.destination
ended after has_port d write net h =
    acting after d.go d.cond (d.has_port || has_port) d.has_flags d.has_icmp d.protocol d.source d.destination write net
    (noting d.has_port d.has_flags d.has_icmp (d.has_port || has_port) d.has_flags d.has_icmp (or_left d.has_port has_port) (λ e. e) (λ e. e) d.cond d.go d.protocol d.source
    d.destination h)

port_noted : (port : Option ℕ) (ports : Bool) → (is_none port || (ports || is_some port)) ≡ true
port_noted None ports = refl
port_noted (Some n) ports = or_right ports true refl

first_writes : (ports : Bool) (target : TargetWord) → may_write ports (first_act target) ≡ true
first_writes ports targets.Redirect = refl
first_writes ports _ = refl

first_network : (target : TargetWord) → writes_network (first_act target) ≡ true
first_network targets.Redirect = refl
first_network _ = refl

target_kept : (table : IptTable) (chains : List IptChain) (text : List ℕ) (d : RuleDraft) → Telling d → IfOk (target_step table chains text d) Kept
target_kept table chains text d h =
    found_holds Kept (target_word text) (λ target. Ok (with_target target (first_act target) d)) (other_target table chains text d)
    (λ target e. record { told = acted (first_act target) d (first_writes d.has_port target) (first_network target) h; expected = refl })
    (either_holds Kept (is_left_out_target text) (Err LeftOut) (and_then (user_chain table chains text) (λ c. Ok (with_target targets.Chain (acts.Jump c) d))) (λ e. tt)
    (λ e. then_holds Kept (user_chain table chains text) (λ c. Ok (with_target targets.Chain (acts.Jump c) d)) (λ c. record { told = acted (acts.Jump c) d refl refl h; expected = refl })))

goto_kept : (table : IptTable) (chains : List IptChain) (text : List ℕ) (d : RuleDraft) → Telling d → IfOk (goto_step table chains text d) Kept
goto_kept table chains text d h =
    then_holds Kept (user_chain table chains text) (λ c. Ok (with_target targets.Chain (acts.Goto c) d)) (λ c. record { told = acted (acts.Goto c) d refl refl h; expected = refl })

behind_noted : (bare written : Bool) (option : TargetOption) (ports flags icmp : Bool)
    → is_noted (cond bare expect.Keyword (cond written (expect.TargetValue option) expect.Unused)) ports flags icmp ≡ true
behind_noted true written option ports flags icmp = refl
behind_noted false true option ports flags icmp = refl
behind_noted false false option ports flags icmp = refl

option_kept : (text : List ℕ) (option : TargetOption) (d : RuleDraft) → Telling d → IfOk (option_step text option d) Kept
option_kept text option d h =
    let next : RuleDraft → Result RuleDraft Cause = λ e. Ok (record e { expects = behind_option option; owes = false }) in
    either_holds Kept (fits_target option d) (and_then (once text d) next) (Err Syntax)
    (λ e. once_holds Kept text d next (record { told = h; expected = behind_noted (is_bare option) (is_written option) option d.has_port d.has_flags d.has_icmp })) (λ e. tt)

target_value_kept : (option : TargetOption) (text : List ℕ) (d : RuleDraft) → Telling d → IfOk (target_value_step option text d) Kept
target_value_kept options.SetXmark text d h = then_holds Kept (xmark_value text) _ (λ v. record { told = acted (acts.Mark v) d refl refl h; expected = refl })
target_value_kept options.SetMark text d h = then_holds Kept (set_mark_value text) _ (λ v. record { told = acted (acts.Mark v) d refl refl h; expected = refl })
target_value_kept options.ToSource text d h =
    then_holds Kept (place_of text) _
    (λ end. record { told = ended (acts.Source (host_end end.0 end.1)) (is_some end.1) d (port_noted end.1 d.has_port) refl h; expected = refl })
target_value_kept options.ToDestination text d h =
    then_holds Kept (place_of text) _
    (λ end. record { told = ended (acts.Dest (host_end end.0 end.1)) (is_some end.1) d (port_noted end.1 d.has_port) refl h; expected = refl })
target_value_kept options.ToPorts text d h =
    then_holds Kept (to_port text) _ (λ port. record { told = ended (acts.Redirect (Some port)) true d (port_noted (Some port) d.has_port) refl h; expected = refl })
target_value_kept options.ToNetwork text d h =
    then_known (λ net. is_network net ≡ true) Kept (network_of text) _ (network_spelled text) (λ net k. record { told = acted (acts.Netmap net) d refl k h; expected = refl })
target_value_kept _ text d h = record { told = h; expected = refl }

-- Words

target_begun_kept : (next : Expects) (d : RuleDraft) → is_noted next d.has_port d.has_flags d.has_icmp ≡ true → Telling d → IfOk (target_begun next d) Kept
target_begun_kept next d e h =
    either_holds Kept (is_some d.target) (Err Syntax) (Ok (record d { expects = next })) (λ k. tt) (λ k. record { told = h; expected = e })

keyword_kept : (text : List ℕ) (keyword : Keyword) (d : RuleDraft) → Telling d → IfOk (keyword_step text keyword d) Kept
keyword_kept text keywords.Not d h = record { told = h; expected = refl }
keyword_kept text keywords.Match d h = record { told = h; expected = refl }
keyword_kept text keywords.Jump d h = target_begun_kept expect.Target d refl h
keyword_kept text keywords.Goto d h = target_begun_kept expect.Chain d refl h
keyword_kept text keywords.Comment d h = once_holds Kept text d _ (record { told = h; expected = refl })
keyword_kept text keywords.Limit d h = once_holds Kept text d _ (record { told = h; expected = refl })
keyword_kept text keywords.Line d h = tt
keyword_kept text (keywords.Test option) d h = test_kept false text option d h
keyword_kept text (keywords.Target option) d h = option_kept text option d h

any_kept : (text : List ℕ) (d : RuleDraft) → Telling d → IfOk (any_step text d) Kept
any_kept text d h =
    found_holds Kept (keyword_of text) (λ keyword. known_step text keyword d) (Err LeftOut)
    (λ keyword e. either_holds Kept (d.owes && not (is_target_option keyword)) (Err Syntax) (keyword_step text keyword d) (λ k. tt) (λ k. keyword_kept text keyword d h)) tt

negated_kept : (text : List ℕ) (keyword : Keyword) (d : RuleDraft) → Telling d → IfOk (negated_keyword text keyword d) Kept
negated_kept text (keywords.Test option) d h = test_kept true text option d h
negated_kept text _ d h = tt

module_kept : (text : List ℕ) (d : RuleDraft) → Telling d → IfOk (module_step text d) Kept
module_kept text d h =
    either_holds Kept (not (is_module text)) (Err LeftOut) _ (λ e. tt)
    (λ e. either_holds Kept (bytes_eq text (codes "limit")) (Ok (record (limited d) { expects = expect.Keyword })) (Ok (record d { expects = expect.Keyword }))
    (λ k. record { told = h; expected = refl }) (λ k. record { told = h; expected = refl }))

expected_kept : (site : Site) (table : IptTable) (chains : List IptChain) (expects : Expects) (text : List ℕ) (d : RuleDraft)
    → is_noted expects d.has_port d.has_flags d.has_icmp ≡ true → Telling d → IfOk (expected_step site table chains expects text d) Kept
expected_kept site table chains expect.Keyword text d e h = any_kept text d h
expected_kept site table chains expect.Negated text d e h =
    found_holds Kept (keyword_of text) (λ keyword. negated_keyword text keyword d) (Err LeftOut) (λ keyword k. negated_kept text keyword d h) tt
expected_kept site table chains (expect.Value option negated) text d e h = value_kept site option negated text d e h
expected_kept site table chains (expect.Compared mask negated) text d e h = compared_kept mask negated text d e h
expected_kept site table chains expect.Module text d e h = module_kept text d h
expected_kept site table chains expect.Unused text d e h = record { told = h; expected = refl }
expected_kept site table chains expect.Target text d e h = target_kept table chains text d h
expected_kept site table chains expect.Chain text d e h = goto_kept table chains text d h
expected_kept site table chains (expect.TargetValue option) text d e h = target_value_kept option text d h

-- The whole rule

-- NETMAP names its addresses at the hook of its chain
abbrev pub maps_at : Option Hook → List Lit → IptGo → Bool
maps_at hook c (acts.Netmap net) = is_network net && option_map_or (λ at. names_block at net.len c) hook false
maps_at hook c _ = true

-- what is known of a rule, by itself and by the hook of its chain
abbrev pub is_told : Option Hook → IptRule → Bool
is_told hook rule = is_spelled_rule rule && maps_at hook rule.cond rule.go

protocol_found : (n : ℕ) (protocol : Option ℕ) (c : List Lit) → option_map_or (λ m. asks_protocol m c) protocol true ≡ true → is_protocol n protocol ≡ true
    → asks_protocol n c ≡ true
protocol_found n None c h e = absurd (false≢true e)
protocol_found n (Some m) c h e = subst (λ k. asks_protocol k c ≡ true) (sym (eqb-true n m e)) h

-- what is asked for is there where nothing lacks
asked_one : (asked is : Bool) → (asked && not is) ≡ false → asked ≡ true → is ≡ true
asked_one true is h e = not-false is h
asked_one false is h e = absurd (false≢true e)

src_within : (len n : ℕ) → nat_le len n ≡ true → (t : Test) → tests_src (is_own n) t ≡ true → tests_src (is_prefix_set len) t ≡ true
src_within len n e (Src set) h =
    let both = and_parts (nat_le n 32) (is_block n set) h in block_of_prefix set len n (leb-true len n e) (leb-true n 32 both.0) both.1
src_within len n e _ h = absurd (false≢true h)

dst_within : (len n : ℕ) → nat_le len n ≡ true → (t : Test) → tests_dst (is_own n) t ≡ true → tests_dst (is_prefix_set len) t ≡ true
dst_within len n e (Dst set) h =
    let both = and_parts (nat_le n 32) (is_block n set) h in block_of_prefix set len n (leb-true len n e) (leb-true n 32 both.0) both.1
dst_within len n e _ h = absurd (false≢true h)

source_named : (len : ℕ) (source : Option ℕ) (c : List Lit) → option_map_or (λ n. asks (tests_src (is_own n)) c) source true ≡ true
    → option_map_or (nat_le len) source false ≡ true → asks (tests_src (is_prefix_set len)) c ≡ true
source_named len None c h e = absurd (false≢true e)
source_named len (Some n) c h e = asks_weaker (tests_src (is_own n)) (tests_src (is_prefix_set len)) (src_within len n e) c h

destination_named : (len : ℕ) (destination : Option ℕ) (c : List Lit) → option_map_or (λ n. asks (tests_dst (is_own n)) c) destination true ≡ true
    → option_map_or (nat_le len) destination false ≡ true → asks (tests_dst (is_prefix_set len)) c ≡ true
destination_named len None c h e = absurd (false≢true e)
destination_named len (Some n) c h e = asks_weaker (tests_dst (is_own n)) (tests_dst (is_prefix_set len)) (dst_within len n e) c h

named_where : (writes_dst writes_src : Bool) (len : ℕ) (d : RuleDraft) → Telling d
    → option_map_or (nat_le len) (cond writes_dst d.destination (cond writes_src d.source None)) false ≡ true
    → cond writes_dst (asks (tests_dst (is_prefix_set len)) d.cond) (cond writes_src (asks (tests_src (is_prefix_set len)) d.cond) false) ≡ true
named_where true writes_src len d h e = destination_named len d.destination d.cond h.destination_asked e
named_where false true len d h e = source_named len d.source d.cond h.source_asked e
named_where false false len d h e = absurd (false≢true e)

block_named : (hook : Option Hook) (net : Prefix) (d : RuleDraft) → Telling d → keeps_network hook d net ≡ true → option_map_or (λ at. names_block at net.len d.cond) hook false ≡ true
block_named None net d h e = absurd (false≢true e)
block_named (Some at) net d h e = named_where (writes_dst_at at) (writes_src_at at) net.len d h e

maps_found : (hook : Option Hook) (go : IptGo) (d : RuleDraft) → Telling d → writes_network go ≡ true → is_loose hook d go ≡ false → maps_at hook d.cond go ≡ true
maps_found hook (acts.Netmap net) d h net_is e =
    and_from (is_network net) (option_map_or (λ at. names_block at net.len d.cond) hook false) net_is
    (block_named hook net d h (not-false (keeps_network hook d net) e))
maps_found hook _ d h net_is e = refl

rule_told : (d : RuleDraft) → Telling d → lacks_protocol d ≡ false → is_spelled_rule (record { cond = d.cond; go = d.go }) ≡ true
rule_told d h lacks =
    let port = d.has_port && not (is_protocol 6 d.protocol || is_protocol 17 d.protocol) in
    let flag = d.has_flags && not (is_protocol 6 d.protocol) in
    let icmp = d.has_icmp && not (is_protocol 1 d.protocol) in
    let outer = or_parts (port || flag) icmp lacks in
    let inner = or_parts port flag outer.0 in
    let found : (n : ℕ) → is_protocol n d.protocol ≡ true → asks_protocol n d.cond ≡ true = λ n. protocol_found n d.protocol d.cond h.protocol_asked in
    let ports : d.has_port ≡ true → asks_ports d.cond ≡ true =
    λ e. either_found (is_protocol 6 d.protocol) (is_protocol 17 d.protocol) (asks_protocol 6 d.cond) (asks_protocol 17 d.cond) (found 6) (found 17)
    (asked_one d.has_port (is_protocol 6 d.protocol || is_protocol 17 d.protocol) inner.0 e) in
    let flags : d.has_flags ≡ true → asks_protocol 6 d.cond ≡ true = λ e. found 6 (asked_one d.has_flags (is_protocol 6 d.protocol) inner.1 e) in
    let types : d.has_icmp ≡ true → asks_protocol 1 d.cond ≡ true = λ e. found 1 (asked_one d.has_icmp (is_protocol 1 d.protocol) outer.1 e) in
    and_from (is_spelled_cond d.cond) (may_write (asks_ports d.cond) d.go)
    (all_weaker (λ lit. may_stand d.has_port d.has_flags d.has_icmp lit.test) (λ lit. may_stand (asks_ports d.cond) (asks_protocol 6 d.cond) (asks_protocol 1 d.cond) lit.test)
    (λ lit. stand_more d.has_port d.has_flags d.has_icmp (asks_ports d.cond) (asks_protocol 6 d.cond) (asks_protocol 1 d.cond) ports flags types lit.test) d.cond h.tests)
    (write_more d.has_port (asks_ports d.cond) ports d.go h.written)

made_told : (table : IptTable) (hook : Option Hook) (d : RuleDraft) → Telling d → IfOk (rule_made table hook d) (λ rule. is_told hook rule ≡ true)
made_told table hook d h =
    let P : IptRule → Type 0 = λ rule. is_told hook rule ≡ true in
    let rule : IptRule = record { cond = d.cond; go = d.go } in
    let misplaced = option_map_or (is_misplaced table) d.target false in
    let loose = is_loose hook d d.go in
    either_holds P (is_complete d) (checked (rule_checks table hook d) rule) (Err Syntax)
    (λ e. passed_holds P (rule_checks table hook d) rule
    (λ left shape.
    let fits = (or_parts misplaced loose (or_parts (misplaced || loose) (d.is_limited && not (option_map_or logs d.target false)) left).0).1 in
    and_from (is_spelled_rule rule) (maps_at hook d.cond d.go) (rule_told d h shape) (maps_found hook d.go d h h.network fits)))
    (λ e. tt)

-- a rule that is read is told of
pub rule_is_told : (site : Site) (table : IptTable) (hook : Option Hook) (chains : List IptChain) (ws : List Word)
    → IfOk (rule_of site table hook chains ws) (λ rule. is_told hook rule ≡ true)
rule_is_told site table hook chains ws =
    then_known Kept (λ rule. is_told hook rule ≡ true) (words_read (rule_step site table chains) fresh_rule ws) (rule_made table hook)
    (words_hold Kept (rule_step site table chains) (λ d w h. expected_kept site table chains d.expects w.text d h.expected h.told) fresh_rule ws
    (record {
      told = record { tests = refl; written = refl; network = refl; protocol_asked = refl; source_asked = refl; destination_asked = refl };
      expected = refl;
    }))
    (λ d h. made_told table hook d h.told)
