-- A rule behind its number: an action, a protocol, two addresses, and options in any order (ipfw(8)).
use Rattle.std.specs.Prelude.{ℕ, ◌-◌, ◌^◌, Bool, true, false, ◌&&◌, ◌||◌, not, nat_eq, nat_le, Option, Some, None, is_some, option_map, Result, Ok, Err, List, [], ◌∷◌, ◌++◌, codes, if◌then◌else◌}
use Rattle.std.specs.List.{list_any}
use Rattle.std.specs.Option.{option_map_or}
use Rattle.std.specs.Str.{bytes_eq}
use Rattle.fws_iv.specs.declared.iv.Iv.{Iv}
use Rattle.fws_num.specs.declared.word.Word.{Word}
use Rattle.fws_num.specs.Numbers.{dec_of}
use Rattle.fws_net.specs.declared.condition.Lit.{Lit}
use Rattle.fws_net.specs.declared.condition.Test.{Test}
use Rattle.fws_net.specs.declared.condition.Test.TheVariants as tests
use Rattle.fws_net.specs.declared.cause.Cause.{Cause}
use Rattle.fws_net.specs.declared.cause.Cause.TheVariants.{Syntax, LeftOut, NoName}
use Rattle.fws_net.specs.declared.cause.Checks.{Checks}
use Rattle.fws_net.specs.declared.site.Site.{Site}
use Rattle.fws_net.specs.Causes.{words_read}
use Rattle.fws_net.specs.Ports.{ports_of}
use Rattle.fws_net.specs.Reading.{and_then}
use Rattle.fws_rules.specs.Literals.{positive, literals, protocol_literal}
use Rattle.fws_ipfw.specs.declared.config.IpfwAct.{IpfwAct}
use Rattle.fws_ipfw.specs.declared.config.IpfwAct.TheVariants as acts
use Rattle.fws_ipfw.specs.declared.config.IpfwTag.TheVariants as tags
use Rattle.fws_ipfw.specs.declared.config.IpfwRule.{IpfwRule}
use Rattle.fws_ipfw.specs.declared.words.ActionWord.{ActionWord}
use Rattle.fws_ipfw.specs.declared.words.ActionWord.TheVariants as actions
use Rattle.fws_ipfw.specs.declared.words.TestOption.{TestOption}
use Rattle.fws_ipfw.specs.declared.draft.Defined.{Defined}
use Rattle.fws_ipfw.specs.declared.draft.Expects.{Expects}
use Rattle.fws_ipfw.specs.declared.draft.Expects.TheVariants as expect
use Rattle.fws_ipfw.specs.declared.draft.RuleDraft.{RuleDraft}
use Rattle.fws_ipfw.specs.Options.{action_word, test_option, misplaced, misspelled}
use Rattle.fws_ipfw.specs.Values.{counted, protocol_value, addresses_of, bare_meaning, meaning_of}

-- a rule before its first word
abbrev pub fresh_rule : RuleDraft
fresh_rule = record {
  expects = expect.Action;
  given = [];
  cond = [];
  protocol = None;
  has_ports = false;
  act = acts.Deny;
  tag = tags.Nothing;
  keep = false;
}

-- the next word is taken for this
abbrev pub expecting : Expects → RuleDraft → RuleDraft
expecting next d = record d { expects = next }

abbrev pub is : List ℕ → List ℕ → Bool
is text word = bytes_eq text word

-- an option that may come once
abbrev pub once : List ℕ → RuleDraft → Result RuleDraft Cause
once text d = if list_any (bytes_eq text) d.given then Err Syntax else Ok (record d { given = d.given ++ text ∷ [] })

abbrev pub with_literals : List Lit → RuleDraft → RuleDraft
with_literals lits d = record d { cond = d.cond ++ lits }

-- Actions

-- a rule that acts like this, behind whose action the next word is taken for this
abbrev pub acting : IpfwAct → Expects → RuleDraft → RuleDraft
acting act next d = record d { act = act; expects = next }

abbrev pub action_begun : ActionWord → RuleDraft → RuleDraft
action_begun actions.Allow d = acting acts.Allow expect.Log d
action_begun actions.Deny d = acting acts.Deny expect.Log d
action_begun actions.Unreach d = acting acts.Deny expect.Code d
action_begun actions.Count d = acting acts.Count expect.Log d
action_begun actions.SkipTo d = expecting expect.SkipTo d
action_begun actions.Nat d = expecting expect.Instance d
action_begun actions.CheckState d = acting acts.Check expect.Flow d

abbrev pub action_step : List ℕ → RuleDraft → Result RuleDraft Cause
action_step text d = option_map_or (λ word. Ok (action_begun word d)) (action_word text) (Err (misplaced text))

-- the number behind `skipto`
abbrev pub skip_step : List ℕ → RuleDraft → Result RuleDraft Cause
skip_step text d = option_map_or (λ n. Ok (acting (acts.Skip n) expect.Log d)) (counted 65534 text) (Err Syntax)

-- some line defines the instance with this number
abbrev pub is_defined : List Defined → ℕ → Bool
is_defined known n = list_any (λ each. nat_eq each.number n) known

-- the number of an instance
abbrev pub instance_step : List Defined → List ℕ → RuleDraft → Result RuleDraft Cause
instance_step known text d =
    option_map_or (λ n. if is_defined known n then Ok (acting (acts.Nat n) expect.Log d) else Err NoName) (counted 65535 text) (Err Syntax)

-- behind `check-state`
abbrev pub flow_step : List ℕ → RuleDraft → Result RuleDraft Cause
flow_step text d = if is text (codes ":default") then Ok (expecting expect.Nothing d) else Err (misplaced text)

-- Logging, tags and protocols

abbrev pub with_protocol : Option ℕ → RuleDraft → RuleDraft
with_protocol protocol d = with_literals (literals false (protocol_literal protocol)) (record d { protocol = protocol; expects = expect.From })

-- a protocol
abbrev pub protocol_step : List ℕ → RuleDraft → Result RuleDraft Cause
protocol_step text d = option_map_or (λ protocol. Ok (with_protocol protocol d)) (protocol_value text) (Err (misspelled text))

abbrev pub tag_step : List ℕ → RuleDraft → Result RuleDraft Cause
tag_step text d =
    if is text (codes "tag") then Ok (expecting (expect.TagNumber true) d)
    else if is text (codes "untag") then Ok (expecting (expect.TagNumber false) d)
    else protocol_step text d

abbrev pub log_step : List ℕ → RuleDraft → Result RuleDraft Cause
log_step text d = if is text (codes "log") then Ok (expecting expect.Logged d) else tag_step text d

abbrev pub logged_step : List ℕ → RuleDraft → Result RuleDraft Cause
logged_step text d = if is text (codes "logamount") then Ok (expecting expect.LogAmount d) else tag_step text d

-- the number behind `logamount`
abbrev pub amount_step : List ℕ → RuleDraft → Result RuleDraft Cause
amount_step text d = if is_some (dec_of text (2 ^ 64 - 1)) then Ok (expecting expect.Tag d) else Err Syntax

abbrev pub with_tag : Bool → ℕ → RuleDraft → RuleDraft
with_tag true n d = record d { tag = tags.Add n; expects = expect.Protocol }
with_tag false n d = record d { tag = tags.Remove n; expects = expect.Protocol }

-- the number behind `tag` and `untag`
abbrev pub tag_number_step : Bool → List ℕ → RuleDraft → Result RuleDraft Cause
tag_number_step adds text d = option_map_or (λ n. Ok (with_tag adds n d)) (counted 65534 text) (Err Syntax)

-- Addresses and ports

-- a word that stands alone at its place
abbrev pub word_step : List ℕ → Expects → List ℕ → RuleDraft → Result RuleDraft Cause
word_step word next text d = if is text word then Ok (expecting next d) else Err (misplaced text)

-- the literals of addresses; none where a packet may have every one
abbrev pub address_literals : (List Iv → Test) → Bool → Option (List Iv) → List Lit
address_literals test negated set = literals negated (option_map (λ s. positive (test s)) set)

-- an address, behind which the next word is taken for this
abbrev pub address_step : Site → (List Iv → Test) → Bool → Expects → List ℕ → RuleDraft → Result RuleDraft Cause
address_step site test negated next text d =
    option_map_or (λ set. Ok (expecting next (with_literals (address_literals test negated set) d))) (addresses_of site text) (Err (misspelled text))

abbrev pub source_step : Site → Bool → List ℕ → RuleDraft → Result RuleDraft Cause
source_step site true text d = address_step site tests.Src true expect.SourcePorts text d
source_step site false text d =
    if is text (codes "not") then Ok (expecting (expect.Source true) d) else address_step site tests.Src false expect.SourcePorts text d

abbrev pub destination_step : Site → Bool → List ℕ → RuleDraft → Result RuleDraft Cause
destination_step site true text d = address_step site tests.Dst true expect.DestinationPorts text d
destination_step site false text d =
    if is text (codes "not") then Ok (expecting (expect.Destination true) d) else address_step site tests.Dst false expect.DestinationPorts text d

-- ports behind an address
abbrev pub with_ports : (List Iv → Test) → Bool → Expects → List Iv → RuleDraft → RuleDraft
with_ports test negated next set d = expecting next (with_literals (literals negated (Some (positive (test set)))) (record d { has_ports = true }))

-- ports, or else what another step makes of the word
abbrev pub ports_step : (List Iv → Test) → Bool → Expects → (List ℕ → RuleDraft → Result RuleDraft Cause) → List ℕ → RuleDraft → Result RuleDraft Cause
ports_step test negated next other text d = option_map_or (λ set. Ok (with_ports test negated next set d)) (ports_of 45 text) (other text d)

abbrev pub source_ports_step : List ℕ → RuleDraft → Result RuleDraft Cause
source_ports_step text d =
    if is text (codes "to") then Ok (expecting (expect.Destination false) d)
    else if is text (codes "not") then Ok (expecting expect.NegatedSourcePorts d)
    else ports_step tests.Sport false expect.To (λ text d. Err (misspelled text)) text d

abbrev pub negated_source_ports_step : List ℕ → RuleDraft → Result RuleDraft Cause
negated_source_ports_step text d = ports_step tests.Sport true expect.To (λ text d. Err Syntax) text d

-- Options

-- an option that tests: its literal, or what its value is taken for
abbrev pub test_begun : Bool → TestOption → RuleDraft → RuleDraft
test_begun negated option d =
    option_map_or (λ lit. expecting expect.Option (with_literals (literals negated (Some lit)) d)) (bare_meaning option) (expecting (expect.Value option negated) d)

-- an option that tests; any other word is refused for this cause
abbrev pub test_step : Bool → Cause → List ℕ → RuleDraft → Result RuleDraft Cause
test_step negated cause text d =
    option_map_or (λ option. and_then (once text d) (λ e. Ok (test_begun negated option e))) (test_option text) (Err cause)

abbrev pub allows : IpfwAct → Bool
allows acts.Allow = true
allows _ = false

-- `keep-state`, which an action other than allow leaves out
abbrev pub keep_step : List ℕ → RuleDraft → Result RuleDraft Cause
keep_step text d = if allows d.act then and_then (once text d) (λ e. Ok (record e { keep = true; expects = expect.KeptFlow })) else Err LeftOut

-- an option, or `not` before one; any other word is refused for this cause
abbrev pub option_step : Cause → List ℕ → RuleDraft → Result RuleDraft Cause
option_step cause text d =
    if is text (codes "not") then Ok (expecting expect.Negated d)
    else if is text (codes "keep-state") then keep_step text d
    else test_step false cause text d

abbrev pub kept_flow_step : List ℕ → RuleDraft → Result RuleDraft Cause
kept_flow_step text d = if is text (codes ":default") then Ok (expecting expect.Option d) else option_step (misplaced text) text d

abbrev pub destination_ports_step : List ℕ → RuleDraft → Result RuleDraft Cause
destination_ports_step text d =
    if is text (codes "not") then Ok (expecting expect.NegatedDestinationPorts d)
    else ports_step tests.Dport false expect.Option (λ text d. option_step (misspelled text) text d) text d

abbrev pub negated_destination_ports_step : List ℕ → RuleDraft → Result RuleDraft Cause
negated_destination_ports_step text d = ports_step tests.Dport true expect.Option (λ text d. test_step true (misspelled text) text d) text d

-- the value of an option
abbrev pub value_step : Site → TestOption → Bool → List ℕ → RuleDraft → Result RuleDraft Cause
value_step site option negated text d =
    and_then (meaning_of site option text) (λ lit. Ok (expecting expect.Option (with_literals (literals negated (Some lit)) d)))

-- Words

-- a word of a rule, by what it is taken for
abbrev pub expected_step : Site → List Defined → Expects → List ℕ → RuleDraft → Result RuleDraft Cause
expected_step site known expect.Action text d = action_step text d
expected_step site known expect.Code text d = Ok (expecting expect.Log d)
expected_step site known expect.SkipTo text d = skip_step text d
expected_step site known expect.Instance text d = instance_step known text d
expected_step site known expect.Flow text d = flow_step text d
expected_step site known expect.Nothing text d = Err Syntax
expected_step site known expect.Log text d = log_step text d
expected_step site known expect.Logged text d = logged_step text d
expected_step site known expect.LogAmount text d = amount_step text d
expected_step site known expect.Tag text d = tag_step text d
expected_step site known (expect.TagNumber adds) text d = tag_number_step adds text d
expected_step site known expect.Protocol text d = protocol_step text d
expected_step site known expect.From text d = word_step (codes "from") (expect.Source false) text d
expected_step site known (expect.Source negated) text d = source_step site negated text d
expected_step site known expect.SourcePorts text d = source_ports_step text d
expected_step site known expect.NegatedSourcePorts text d = negated_source_ports_step text d
expected_step site known expect.To text d = word_step (codes "to") (expect.Destination false) text d
expected_step site known (expect.Destination negated) text d = destination_step site negated text d
expected_step site known expect.DestinationPorts text d = destination_ports_step text d
expected_step site known expect.NegatedDestinationPorts text d = negated_destination_ports_step text d
expected_step site known expect.Option text d = option_step (misplaced text) text d
expected_step site known expect.Negated text d = test_step true (misplaced text) text d
expected_step site known (expect.Value option negated) text d = value_step site option negated text d
expected_step site known expect.KeptFlow text d = kept_flow_step text d

abbrev pub rule_step : Site → List Defined → RuleDraft → Word → Result RuleDraft Cause
rule_step site known d w = expected_step site known d.expects w.text d

-- The whole rule

-- the line may end here
abbrev pub may_end : Expects → Bool
may_end expect.Flow = true
may_end expect.Nothing = true
may_end expect.DestinationPorts = true
may_end expect.Option = true
may_end expect.KeptFlow = true
may_end _ = false

-- TCP or UDP
abbrev pub has_ports : Option ℕ → Bool
has_ports protocol = option_map_or (λ n. nat_eq n 6 || nat_eq n 17) protocol false

-- a skip that doesn't go forward
abbrev pub goes_back : ℕ → IpfwAct → Bool
goes_back number (acts.Skip n) = nat_le n number
goes_back number _ = false

-- the checks of the whole line; the last rule is there already, and whether there are too many redirects is known of the
-- text
abbrev pub rule_checks : ℕ → Bool → RuleDraft → Checks
rule_checks number is_full d = record {
  left_out = nat_eq number 65535;
  backward = goes_back number d.act;
  shape = d.has_ports && not (has_ports d.protocol);
  expand = is_full;
}

abbrev pub rule_drawn : ℕ → RuleDraft → IpfwRule
rule_drawn number d = record { number = number; cond = d.cond; act = d.act; tag = d.tag; keep = d.keep }

-- the draft of these words; a line that ends too early is Syntax
abbrev pub rule_draft : Site → List Defined → List Word → Result RuleDraft Cause
rule_draft site known ws = and_then (words_read (rule_step site known) fresh_rule ws) (λ d. if may_end d.expects then Ok d else Err Syntax)
