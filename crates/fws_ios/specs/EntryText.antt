-- An entry of an access list (Cisco IOS).
use Rattle.std.specs.Prelude.{ℕ, Bool, true, false, ◌&&◌, ◌||◌, not, nat_eq, nat_le, Option, Some, None, is_some, Result, Ok, Err, List, [], ◌∷◌, ◌++◌, codes, if◌then◌else◌}
use Rattle.std.specs.Option.{option_map_or}
use Rattle.fws_num.specs.declared.word.Word.{Word}
use Rattle.fws_num.specs.Numbers.{quad_of}
use Rattle.fws_num.specs.Services.{port_of}
use Rattle.fws_net.specs.declared.cause.Cause.{Cause}
use Rattle.fws_net.specs.declared.cause.Cause.TheVariants.{Syntax, LeftOut}
use Rattle.fws_net.specs.declared.cause.Checks.{Checks}
use Rattle.fws_net.specs.declared.condition.Lit.{Lit}
use Rattle.fws_net.specs.declared.condition.Test.TheVariants as tests
use Rattle.fws_net.specs.Causes.{checked, words_read}
use Rattle.fws_net.specs.Reading.{and_then}
use Rattle.fws_rules.specs.Literals.{literals, one, positive, protocol_literal}
use Rattle.fws_ios.specs.declared.config.IosEntry.{IosEntry}
use Rattle.fws_ios.specs.declared.draft.EntryDraft.{EntryDraft}
use Rattle.fws_ios.specs.declared.draft.Expects.{Expects}
use Rattle.fws_ios.specs.declared.draft.Expects.TheVariants as expect
use Rattle.fws_ios.specs.declared.draft.Place.{Place}
use Rattle.fws_ios.specs.declared.draft.Place.TheVariants.{Source, Destination}
use Rattle.fws_ios.specs.declared.words.PortWord.{PortWord}
use Rattle.fws_ios.specs.declared.words.PortWord.TheVariants as ports
use Rattle.fws_ios.specs.Keywords.{begins_with_digit, is, misplaced, misspelled, port_word}
use Rattle.fws_ios.specs.Values.{address_literal, has_ports, icmp_type_of, is_number, port_literal, protocol_value, range_literal, wildcard_len}

-- an entry before its first word; a number may stand before it in a list that was opened
abbrev pub fresh_entry : Bool → Bool → EntryDraft
fresh_entry extended opened = record {
  expects = if opened then expect.Sequence else expect.Action;
  extended = extended;
  opened = opened;
  permit = false;
  cond = [];
  protocol = None;
  scattered = false;
  has_ports = false;
  has_type = false;
  has_established = false;
  reflect = false;
}

-- the next word is taken for this
abbrev pub expecting : Expects → EntryDraft → EntryDraft
expecting next d = record d { expects = next }

abbrev pub with_literal : Lit → EntryDraft → EntryDraft
with_literal lit d = record d { cond = d.cond ++ lit ∷ [] }

-- What an entry begins with

-- reflexive lists are used in extended lists that were opened
abbrev pub may_reflect : EntryDraft → Bool
may_reflect d = d.extended && d.opened

-- behind `permit` and `deny`: in an extended list a protocol, else the source
abbrev pub deciding : Bool → EntryDraft → EntryDraft
deciding permit d = record d { permit = permit; expects = if d.extended then expect.Protocol else expect.Address Source }

abbrev pub evaluate_step : EntryDraft → Result EntryDraft Cause
evaluate_step d = if may_reflect d then Ok (expecting expect.EvaluateName d) else Err LeftOut

abbrev pub action_step : List ℕ → EntryDraft → Result EntryDraft Cause
action_step text d =
    if is text (codes "permit") then Ok (deciding true d)
    else if is text (codes "deny") then Ok (deciding false d)
    else if is text (codes "evaluate") then evaluate_step d
    else Err (misplaced text)

-- a first word that begins with a digit is the entry's number
abbrev pub sequence_step : List ℕ → EntryDraft → Result EntryDraft Cause
sequence_step text d =
    if begins_with_digit text then (if is_number text then Ok (expecting expect.Action d) else Err Syntax) else action_step text d

-- established packets are permitted
abbrev pub evaluated : EntryDraft → EntryDraft
evaluated d = record d { permit = true; cond = positive tests.Est ∷ []; expects = expect.Nothing }

-- Protocols and addresses

abbrev pub with_protocol : Option ℕ → EntryDraft → EntryDraft
with_protocol protocol d = record d {
  protocol = protocol;
  cond = d.cond ++ literals false (protocol_literal protocol);
  expects = expect.Address Source;
}

abbrev pub protocol_step : List ℕ → EntryDraft → Result EntryDraft Cause
protocol_step text d = option_map_or (λ protocol. Ok (with_protocol protocol d)) (protocol_value text) (Err (misspelled text))

-- what follows an address: in an extended list ports, else what may stand behind them
abbrev pub behind_address : Place → EntryDraft → Expects
behind_address place d = if d.extended then expect.Ports place else expect.Reflect

-- an address by itself
abbrev pub with_host : Place → ℕ → EntryDraft → EntryDraft
with_host place addr d = expecting (behind_address place d) (with_literal (address_literal place 32 addr) d)

-- an address, behind which a wildcard stands in an extended list and may stand in another
abbrev pub with_address : Place → ℕ → EntryDraft → EntryDraft
with_address place addr d =
    if d.extended then expecting (expect.Wildcard place addr) d else expecting (expect.MaybeWildcard addr) (with_host place addr d)

abbrev pub address_step : Place → List ℕ → EntryDraft → Result EntryDraft Cause
address_step place text d =
    if is text (codes "any") then Ok (expecting (behind_address place d) d)
    else if is text (codes "host") then Ok (expecting (expect.Host place) d)
    else option_map_or (λ addr. Ok (with_address place addr d)) (quad_of text) (Err (misspelled text))

abbrev pub host_step : Place → List ℕ → EntryDraft → Result EntryDraft Cause
host_step place text d = option_map_or (λ addr. Ok (with_host place addr d)) (quad_of text) (Err Syntax)

-- the addresses that agree with one in the bits that the wildcard doesn't cover
abbrev pub with_wildcard : Place → ℕ → Option ℕ → EntryDraft → EntryDraft
with_wildcard place addr (Some len) d = expecting (behind_address place d) (with_literal (address_literal place len addr) d)
with_wildcard place addr None d = record d { scattered = true; expects = behind_address place d }

abbrev pub wildcard_step : Place → ℕ → List ℕ → EntryDraft → Result EntryDraft Cause
wildcard_step place addr text d = option_map_or (λ wildcard. Ok (with_wildcard place addr (wildcard_len wildcard) d)) (quad_of text) (Err Syntax)

-- Logging

-- `log`, in an extended list `log-input` too
abbrev pub is_log : Bool → List ℕ → Bool
is_log extended text = is text (codes "log") || (extended && is text (codes "log-input"))

-- any other word is refused for this cause
abbrev pub log_step : Cause → List ℕ → EntryDraft → Result EntryDraft Cause
log_step cause text d = if is_log d.extended text then Ok (expecting expect.Nothing d) else Err cause

-- What stands behind the destination

abbrev pub timeout_step : List ℕ → EntryDraft → Result EntryDraft Cause
timeout_step text d = if is text (codes "timeout") then Ok (expecting expect.TimeoutValue d) else log_step (misplaced text) text d

abbrev pub timeout_value_step : List ℕ → EntryDraft → Result EntryDraft Cause
timeout_value_step text d = if is_number text then Ok (expecting expect.Log d) else Err Syntax

-- any other word is refused for this cause
abbrev pub reflect_step : Cause → List ℕ → EntryDraft → Result EntryDraft Cause
reflect_step cause text d =
    if is text (codes "reflect") then (if may_reflect d && d.permit then Ok (expecting expect.ReflectName d) else Err LeftOut)
    else log_step cause text d

-- behind an address of a standard list: a wildcard for it, or what may stand behind one
abbrev pub maybe_wildcard_step : ℕ → List ℕ → EntryDraft → Result EntryDraft Cause
maybe_wildcard_step addr text d =
    option_map_or (λ wildcard. Ok (with_wildcard Source addr (wildcard_len wildcard) (record d { cond = [] }))) (quad_of text)
    (reflect_step (misspelled text) text d)

abbrev pub reflecting : EntryDraft → EntryDraft
reflecting d = record d { reflect = true; expects = expect.Timeout }

-- TCP packets with ACK or RST
abbrev pub with_established : EntryDraft → EntryDraft
with_established d = expecting expect.Reflect (with_literal (positive (tests.AnyFlag 20)) (record d { has_established = true }))

abbrev pub established_step : Cause → List ℕ → EntryDraft → Result EntryDraft Cause
established_step cause text d = if is text (codes "established") then Ok (with_established d) else reflect_step cause text d

-- a number behind a type is a code
abbrev pub code_step : List ℕ → EntryDraft → Result EntryDraft Cause
code_step text d = if is_number text then Err LeftOut else established_step (misplaced text) text d

abbrev pub with_type : ℕ → EntryDraft → EntryDraft
with_type n d = expecting expect.Code (with_literal (positive (tests.Icmp (one n n))) (record d { has_type = true }))

abbrev pub type_step : List ℕ → EntryDraft → Result EntryDraft Cause
type_step text d = option_map_or (λ n. Ok (with_type n d)) (icmp_type_of text) (established_step (misspelled text) text d)

-- Ports

-- what stands behind the ports of an end: the destination behind those of the source, a type behind those of the destination
abbrev pub behind_ports : Place → Expects
behind_ports Source = expect.Address Destination
behind_ports Destination = expect.Type

abbrev pub behind_ports_step : Place → List ℕ → EntryDraft → Result EntryDraft Cause
behind_ports_step Source text d = address_step Destination text d
behind_ports_step Destination text d = type_step text d

abbrev pub ports_step : Place → List ℕ → EntryDraft → Result EntryDraft Cause
ports_step place text d =
    option_map_or (λ word. Ok (expecting (expect.Port place word) (record d { has_ports = true }))) (port_word text) (behind_ports_step place text d)

-- a port that is compared so
abbrev pub compared : Place → PortWord → ℕ → EntryDraft → EntryDraft
compared place ports.Equal port d = expecting (expect.FurtherPort place) (with_literal (port_literal place ports.Equal port) d)
compared place ports.Range port d = expecting (expect.LastPort place port) d
compared place word port d = expecting (behind_ports place) (with_literal (port_literal place word port) d)

abbrev pub port_step : Place → PortWord → List ℕ → EntryDraft → Result EntryDraft Cause
port_step place word text d = option_map_or (λ port. Ok (compared place word port d)) (port_of text) (Err Syntax)

-- the last port of a range isn't below its first
abbrev pub last_port_step : Place → ℕ → List ℕ → EntryDraft → Result EntryDraft Cause
last_port_step place first text d =
    option_map_or
    (λ last. if nat_le first last then Ok (expecting (behind_ports place) (with_literal (range_literal place first last) d)) else Err Syntax)
    (port_of text) (Err Syntax)

-- a second port behind `eq` is left out
abbrev pub further_port_step : Place → List ℕ → EntryDraft → Result EntryDraft Cause
further_port_step place text d = if is_some (port_of text) then Err LeftOut else behind_ports_step place text d

-- Words

-- a word of an entry, by what it is taken for
abbrev pub expected_step : Expects → List ℕ → EntryDraft → Result EntryDraft Cause
expected_step expect.Sequence text d = sequence_step text d
expected_step expect.Action text d = action_step text d
expected_step expect.EvaluateName text d = Ok (evaluated d)
expected_step expect.Protocol text d = protocol_step text d
expected_step (expect.Address place) text d = address_step place text d
expected_step (expect.Host place) text d = host_step place text d
expected_step (expect.Wildcard place addr) text d = wildcard_step place addr text d
expected_step (expect.MaybeWildcard addr) text d = maybe_wildcard_step addr text d
expected_step (expect.Ports place) text d = ports_step place text d
expected_step (expect.Port place word) text d = port_step place word text d
expected_step (expect.LastPort place first) text d = last_port_step place first text d
expected_step (expect.FurtherPort place) text d = further_port_step place text d
expected_step expect.Type text d = type_step text d
expected_step expect.Code text d = code_step text d
expected_step expect.Reflect text d = reflect_step (misplaced text) text d
expected_step expect.ReflectName text d = Ok (reflecting d)
expected_step expect.Timeout text d = timeout_step text d
expected_step expect.TimeoutValue text d = timeout_value_step text d
expected_step expect.Log text d = log_step (misplaced text) text d
expected_step expect.Nothing text d = Err Syntax

abbrev pub entry_step : EntryDraft → Word → Result EntryDraft Cause
entry_step d w = expected_step d.expects w.text d

-- The whole entry

-- the line may end here
abbrev pub may_end : Expects → Bool
may_end (expect.MaybeWildcard addr) = true
may_end (expect.Ports Destination) = true
may_end (expect.FurtherPort Destination) = true
may_end expect.Type = true
may_end expect.Code = true
may_end expect.Reflect = true
may_end expect.Timeout = true
may_end expect.Log = true
may_end expect.Nothing = true
may_end _ = false

abbrev pub is_protocol : ℕ → Option ℕ → Bool
is_protocol n protocol = option_map_or (nat_eq n) protocol false

-- the checks of the whole line: a wildcard of zeros followed by ones, ports with TCP or UDP, `established` with TCP, and a type with ICMP
abbrev pub entry_checks : EntryDraft → Checks
entry_checks d = record {
  left_out = false;
  backward = false;
  shape = d.scattered || (d.has_ports && not (has_ports d.protocol)) || (d.has_established && not (is_protocol 6 d.protocol))
      || (d.has_type && not (is_protocol 1 d.protocol));
  expand = false;
}

abbrev pub entry_drawn : EntryDraft → IosEntry
entry_drawn d = record { permit = d.permit; cond = d.cond; reflect = d.reflect }

abbrev pub entry_made : EntryDraft → Result IosEntry Cause
entry_made d = if may_end d.expects then checked (entry_checks d) (entry_drawn d) else Err Syntax

-- the entry of these words, in an extended list or another, that was opened or has a number; a line that ends too early is Syntax
abbrev pub entry_of : Bool → Bool → List Word → Result IosEntry Cause
entry_of extended opened ws = and_then (words_read entry_step (fresh_entry extended opened) ws) entry_made
