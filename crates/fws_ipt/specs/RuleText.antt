-- A rule behind its chain's name: options in any order, and at most one target with its options behind it.
use Rattle.std.specs.Prelude.{ℕ, suc, Bool, true, false, ◌&&◌, ◌||◌, not, nat_eq, nat_le, Option, Some, None, is_some, option_and_then, Result, Ok, Err, List, [], ◌∷◌, ◌++◌, codes, if◌then◌else◌}
use Rattle.std.specs.List.{list_any}
use Rattle.std.specs.Option.{option_map_or, ok_or}
use Rattle.std.specs.Str.{bytes_eq}
use Rattle.fws_num.specs.declared.prefix.Prefix.{Prefix}
use Rattle.fws_num.specs.declared.word.Word.{Word}
use Rattle.fws_num.specs.Numbers.{prefix_of}
use Rattle.fws_net.specs.declared.condition.Lit.{Lit}
use Rattle.fws_net.specs.declared.condition.Test.TheVariants as tests
use Rattle.fws_net.specs.declared.cause.Cause.{Cause}
use Rattle.fws_net.specs.declared.cause.Cause.TheVariants.{Syntax, LeftOut, NoName}
use Rattle.fws_net.specs.declared.cause.Checks.{Checks}
use Rattle.fws_net.specs.declared.site.Site.{Site}
use Rattle.fws_net.specs.Ends.{host_end}
use Rattle.fws_net.specs.Causes.{checked, words_read}
use Rattle.fws_net.specs.Reading.{and_then}
use Rattle.fws_rules.specs.Literals.{positive, literals, protocol_literal}
use Rattle.fws_ipt.specs.declared.config.IptTable.{IptTable}
use Rattle.fws_ipt.specs.declared.config.IptTable.TheVariants.{Filter, Nat, Mangle}
use Rattle.fws_ipt.specs.declared.config.IptGo.{IptGo}
use Rattle.fws_ipt.specs.declared.config.IptGo.TheVariants as acts
use Rattle.fws_ipt.specs.declared.config.IptRule.{IptRule}
use Rattle.fws_ipt.specs.declared.config.IptChain.{IptChain}
use Rattle.fws_ipt.specs.declared.hook.Hook.{Hook}
use Rattle.fws_ipt.specs.declared.words.Keyword.{Keyword}
use Rattle.fws_ipt.specs.declared.words.Keyword.TheVariants.{Not, Match, Jump, Goto, Comment, Limit, Line, Test, Target}
use Rattle.fws_ipt.specs.declared.words.TestOption.{TestOption}
use Rattle.fws_ipt.specs.declared.words.TestOption.TheVariants as words
use Rattle.fws_ipt.specs.declared.words.TestOption.TheVariants.{Protocol, SourcePort, DestinationPort, SourcePorts, DestinationPorts, TcpFlags, Syn, IcmpType}
use Rattle.fws_ipt.specs.declared.words.TargetOption.{TargetOption}
use Rattle.fws_ipt.specs.declared.words.TargetOption.TheVariants as options
use Rattle.fws_ipt.specs.declared.words.TargetWord.{TargetWord}
use Rattle.fws_ipt.specs.declared.words.TargetWord.TheVariants as targets
use Rattle.fws_ipt.specs.declared.draft.Expects.{Expects}
use Rattle.fws_ipt.specs.declared.draft.Expects.TheVariants as expect
use Rattle.fws_ipt.specs.declared.draft.RuleDraft.{RuleDraft}
use Rattle.fws_ipt.specs.Options.{keyword_of, is_module, target_word, is_left_out_target, belongs, needs_option}
use Rattle.fws_ipt.specs.Values.{meaning_of, protocol_value, flags_of, syn_literal, xmark_value, set_mark_value, place_of, to_port, prefix_literal, network_of}
use Rattle.fws_ipt.specs.Hooks.{has_hook, hook_named}
use Rattle.fws_ipt.specs.Walk.{is_table, writes_dst_at, writes_src_at}

-- a rule before its first word
abbrev pub fresh_rule : RuleDraft
fresh_rule = record {
  expects = expect.Keyword;
  given = [];
  cond = [];
  source = None;
  destination = None;
  protocol = None;
  has_port = false;
  has_flags = false;
  has_icmp = false;
  is_limited = false;
  target = None;
  go = acts.Next;
  is_open = false;
  owes = false;
}

-- the next word is taken for this
abbrev pub expecting : Expects → RuleDraft → RuleDraft
expecting next d = record d { expects = next }

-- the options of the target can't follow any more
abbrev pub closed : RuleDraft → RuleDraft
closed d = record d { is_open = false }

-- an option that may come once
abbrev pub once : List ℕ → RuleDraft → Result RuleDraft Cause
once text d = if list_any (bytes_eq text) d.given then Err Syntax else Ok (record d { given = d.given ++ text ∷ [] })

-- Options of tests

-- a test of this option asks for a protocol
abbrev pub asks_port : TestOption → Bool
asks_port SourcePort = true
asks_port DestinationPort = true
asks_port SourcePorts = true
asks_port DestinationPorts = true
asks_port _ = false

abbrev pub asks_flags : TestOption → Bool
asks_flags TcpFlags = true
asks_flags Syn = true
asks_flags _ = false

abbrev pub asks_icmp : TestOption → Bool
asks_icmp IcmpType = true
asks_icmp _ = false

abbrev pub noted : TestOption → RuleDraft → RuleDraft
noted option d = record d {
  has_port = d.has_port || asks_port option;
  has_flags = d.has_flags || asks_flags option;
  has_icmp = d.has_icmp || asks_icmp option;
}

-- a rule with more literals, whose next word is a keyword
abbrev pub with_literals : List Lit → RuleDraft → RuleDraft
with_literals lits d = record d { expects = expect.Keyword; cond = d.cond ++ lits }

-- an option that tests; `--syn` has no value
abbrev pub test_begun : Bool → TestOption → RuleDraft → RuleDraft
test_begun negated Syn d = with_literals (literals negated (Some syn_literal)) d
test_begun negated option d = expecting (expect.Value option negated) d

abbrev pub test_step : Bool → List ℕ → TestOption → RuleDraft → Result RuleDraft Cause
test_step negated text option d = and_then (once text d) (λ e. Ok (test_begun negated option (noted option (closed e))))

-- the length of the prefix of an unnegated `-s`
abbrev pub with_source : Bool → Prefix → RuleDraft → RuleDraft
with_source true net d = d
with_source false net d = record d { source = Some net.len }

-- the value of `-s`
abbrev pub from_step : Bool → List ℕ → RuleDraft → Result RuleDraft Cause
from_step negated text d =
    and_then (ok_or (prefix_of text) Syntax) (λ net. Ok (with_literals (literals negated (Some (prefix_literal tests.Src net))) (with_source negated net d)))

-- the length of the prefix of an unnegated `-d`
abbrev pub with_destination : Bool → Prefix → RuleDraft → RuleDraft
with_destination true net d = d
with_destination false net d = record d { destination = Some net.len }

-- the value of `-d`
abbrev pub toward_step : Bool → List ℕ → RuleDraft → Result RuleDraft Cause
toward_step negated text d =
    and_then (ok_or (prefix_of text) Syntax) (λ net. Ok (with_literals (literals negated (Some (prefix_literal tests.Dst net))) (with_destination negated net d)))

-- the protocol of an unnegated `-p`
abbrev pub with_protocol : Bool → Option ℕ → RuleDraft → RuleDraft
with_protocol true protocol d = d
with_protocol false protocol d = record d { protocol = protocol }

-- the value of `-p`
abbrev pub protocol_step : Bool → List ℕ → RuleDraft → Result RuleDraft Cause
protocol_step negated text d =
    and_then (protocol_value text) (λ protocol. Ok (with_literals (literals negated (protocol_literal protocol)) (with_protocol negated protocol d)))

-- the mask of `--tcp-flags`
abbrev pub mask_step : Bool → List ℕ → RuleDraft → Result RuleDraft Cause
mask_step negated text d = and_then (ok_or (flags_of text) Syntax) (λ mask. Ok (expecting (expect.Compared mask negated) d))

-- the flags of `--tcp-flags` that are set
abbrev pub compared_step : ℕ → Bool → List ℕ → RuleDraft → Result RuleDraft Cause
compared_step mask negated text d =
    and_then (ok_or (flags_of text) Syntax) (λ want. Ok (with_literals (literals negated (Some (positive (tests.Flags mask want)))) d))

abbrev pub plain_step : Site → Bool → TestOption → List ℕ → RuleDraft → Result RuleDraft Cause
plain_step site negated option text d = and_then (meaning_of site option text) (λ lit. Ok (with_literals (literals negated lit) d))

-- the value of an option
abbrev pub value_step : Site → TestOption → Bool → List ℕ → RuleDraft → Result RuleDraft Cause
value_step site words.Source negated text d = from_step negated text d
value_step site words.Destination negated text d = toward_step negated text d
value_step site Protocol negated text d = protocol_step negated text d
value_step site TcpFlags negated text d = mask_step negated text d
value_step site option negated text d = plain_step site negated option text d

-- Targets

-- what a target does, before its options
abbrev pub first_act : TargetWord → IptGo
first_act targets.Accept = acts.Accept
first_act targets.Drop = acts.Drop
first_act targets.Return = acts.Return
first_act targets.Reject = acts.Drop
first_act targets.Masquerade = acts.Masquerade
first_act targets.Redirect = acts.Redirect None
first_act _ = acts.Next

-- a rule whose target was named
abbrev pub with_target : TargetWord → IptGo → RuleDraft → RuleDraft
with_target target go d = record d { expects = expect.Keyword; target = Some target; go = go; is_open = true; owes = needs_option target }

-- a chain of this table and name
abbrev pub is_chain : IptTable → List ℕ → IptChain → Bool
is_chain table name chain = is_table table chain.table && bytes_eq chain.name name

-- the number of the chain with this name in the table, counted from n
abbrev pub chain_from : ℕ → IptTable → List ℕ → List IptChain → Option ℕ
chain_from n table name [] = None
chain_from n table name (chain ∷ chains) = if is_chain table name chain then Some n else chain_from (suc n) table name chains

-- the name is that of a built-in chain of the table
abbrev pub is_builtin_name : IptTable → List ℕ → Bool
is_builtin_name table name = option_map_or (has_hook table) (hook_named name) false

-- the chain of the user's with this name
abbrev pub user_chain : IptTable → List IptChain → List ℕ → Result ℕ Cause
user_chain table chains name = if is_builtin_name table name then Err NoName else ok_or (chain_from 0 table name chains) NoName

-- the word behind `-j`
abbrev pub other_target : IptTable → List IptChain → List ℕ → RuleDraft → Result RuleDraft Cause
other_target table chains text d =
    if is_left_out_target text then Err LeftOut
    else and_then (user_chain table chains text) (λ c. Ok (with_target targets.Chain (acts.Jump c) d))

abbrev pub target_step : IptTable → List IptChain → List ℕ → RuleDraft → Result RuleDraft Cause
target_step table chains text d =
    option_map_or (λ target. Ok (with_target target (first_act target) d)) (target_word text) (other_target table chains text d)

-- the word behind `-g`
abbrev pub goto_step : IptTable → List IptChain → List ℕ → RuleDraft → Result RuleDraft Cause
goto_step table chains text d = and_then (user_chain table chains text) (λ c. Ok (with_target targets.Chain (acts.Goto c) d))

-- an option that says what its target writes
abbrev pub is_written : TargetOption → Bool
is_written options.SetXmark = true
is_written options.SetMark = true
is_written options.ToSource = true
is_written options.ToDestination = true
is_written options.ToPorts = true
is_written options.ToNetwork = true
is_written _ = false

-- an option of LOG that has no value
abbrev pub is_bare : TargetOption → Bool
is_bare options.LogTcpSequence = true
is_bare options.LogTcpOptions = true
is_bare options.LogIpOptions = true
is_bare options.LogUid = true
is_bare _ = false

-- what the word behind a target's option is taken for
abbrev pub behind_option : TargetOption → Expects
behind_option option = if is_bare option then expect.Keyword else if is_written option then expect.TargetValue option else expect.Unused

-- the option belongs to the target that is open; where the target needs just one, it is the first
abbrev pub fits_target : TargetOption → RuleDraft → Bool
fits_target option d = d.is_open && option_map_or (λ target. belongs option target && (d.owes || not (needs_option target))) d.target false

-- an option of the target, directly behind it
abbrev pub option_step : List ℕ → TargetOption → RuleDraft → Result RuleDraft Cause
option_step text option d =
    if fits_target option d then and_then (once text d) (λ e. Ok (record e { expects = behind_option option; owes = false })) else Err Syntax

abbrev pub with_act : IptGo → RuleDraft → RuleDraft
with_act go d = record d { expects = expect.Keyword; go = go }

-- an act that writes an end; its port asks for a protocol
abbrev pub with_end : IptGo → Bool → RuleDraft → RuleDraft
with_end go has_port d = with_act go (record d { has_port = d.has_port || has_port })

abbrev pub source_step : List ℕ → RuleDraft → Result RuleDraft Cause
source_step text d = and_then (place_of text) (λ end. Ok (with_end (acts.Source (host_end end.0 end.1)) (is_some end.1) d))

abbrev pub destination_step : List ℕ → RuleDraft → Result RuleDraft Cause
destination_step text d = and_then (place_of text) (λ end. Ok (with_end (acts.Dest (host_end end.0 end.1)) (is_some end.1) d))

abbrev pub redirect_step : List ℕ → RuleDraft → Result RuleDraft Cause
redirect_step text d = and_then (to_port text) (λ port. Ok (with_end (acts.Redirect (Some port)) true d))

abbrev pub network_step : List ℕ → RuleDraft → Result RuleDraft Cause
network_step text d = and_then (network_of text) (λ net. Ok (with_act (acts.Netmap net) d))

abbrev pub xmark_step : List ℕ → RuleDraft → Result RuleDraft Cause
xmark_step text d = and_then (xmark_value text) (λ v. Ok (with_act (acts.Mark v) d))

abbrev pub set_mark_step : List ℕ → RuleDraft → Result RuleDraft Cause
set_mark_step text d = and_then (set_mark_value text) (λ v. Ok (with_act (acts.Mark v) d))

-- the value of a target's option
abbrev pub target_value_step : TargetOption → List ℕ → RuleDraft → Result RuleDraft Cause
target_value_step options.SetXmark text d = xmark_step text d
target_value_step options.SetMark text d = set_mark_step text d
target_value_step options.ToSource text d = source_step text d
target_value_step options.ToDestination text d = destination_step text d
target_value_step options.ToPorts text d = redirect_step text d
target_value_step options.ToNetwork text d = network_step text d
target_value_step _ text d = Ok (expecting expect.Keyword d)

-- Words

-- `-j` and `-g` are one option
abbrev pub target_begun : Expects → RuleDraft → Result RuleDraft Cause
target_begun next d = if is_some d.target then Err Syntax else Ok (expecting next d)

-- a limit is noted
abbrev pub limited : RuleDraft → RuleDraft
limited d = record d { is_limited = true }

-- a keyword that no `!` negates
abbrev pub keyword_step : List ℕ → Keyword → RuleDraft → Result RuleDraft Cause
keyword_step text Not d = Ok (expecting expect.Negated (closed d))
keyword_step text Match d = Ok (expecting expect.Module (closed d))
keyword_step text Jump d = target_begun expect.Target d
keyword_step text Goto d = target_begun expect.Chain d
keyword_step text Comment d = and_then (once text d) (λ e. Ok (expecting expect.Unused (closed e)))
keyword_step text Limit d = and_then (once text d) (λ e. Ok (expecting expect.Unused (closed (limited e))))
keyword_step text Line d = Err Syntax
keyword_step text (Test option) d = test_step false text option d
keyword_step text (Target option) d = option_step text option d

abbrev pub is_target_option : Keyword → Bool
is_target_option (Target option) = true
is_target_option _ = false

-- a target that still needs its option has it next
abbrev pub known_step : List ℕ → Keyword → RuleDraft → Result RuleDraft Cause
known_step text keyword d = if d.owes && not (is_target_option keyword) then Err Syntax else keyword_step text keyword d

-- where a keyword may stand; an unknown word is left out
abbrev pub any_step : List ℕ → RuleDraft → Result RuleDraft Cause
any_step text d = option_map_or (λ keyword. known_step text keyword d) (keyword_of text) (Err LeftOut)

-- behind `!` an option that tests
abbrev pub negated_keyword : List ℕ → Keyword → RuleDraft → Result RuleDraft Cause
negated_keyword text (Test option) d = test_step true text option d
negated_keyword text _ d = Err Syntax

abbrev pub negated_step : List ℕ → RuleDraft → Result RuleDraft Cause
negated_step text d = option_map_or (λ keyword. negated_keyword text keyword d) (keyword_of text) (Err LeftOut)

-- the module `limit` counts as a limit
abbrev pub module_step : List ℕ → RuleDraft → Result RuleDraft Cause
module_step text d =
    if not (is_module text) then Err LeftOut
    else if bytes_eq text (codes "limit") then Ok (expecting expect.Keyword (limited d)) else Ok (expecting expect.Keyword d)

-- a word of a rule, by what it is taken for
abbrev pub expected_step : Site → IptTable → List IptChain → Expects → List ℕ → RuleDraft → Result RuleDraft Cause
expected_step site table chains expect.Keyword text d = any_step text d
expected_step site table chains expect.Negated text d = negated_step text d
expected_step site table chains (expect.Value option negated) text d = value_step site option negated text d
expected_step site table chains (expect.Compared mask negated) text d = compared_step mask negated text d
expected_step site table chains expect.Module text d = module_step text d
expected_step site table chains expect.Unused text d = Ok (expecting expect.Keyword d)
expected_step site table chains expect.Target text d = target_step table chains text d
expected_step site table chains expect.Chain text d = goto_step table chains text d
expected_step site table chains (expect.TargetValue option) text d = target_value_step option text d

abbrev pub rule_step : Site → IptTable → List IptChain → RuleDraft → Word → Result RuleDraft Cause
rule_step site table chains d w = expected_step site table chains d.expects w.text d

-- The whole rule

abbrev pub is_keyword_next : Expects → Bool
is_keyword_next expect.Keyword = true
is_keyword_next _ = false

-- no value and no option of a target lacks
abbrev pub is_complete : RuleDraft → Bool
is_complete d = is_keyword_next d.expects && not d.owes

-- a target that is left out in this table
abbrev pub is_misplaced : IptTable → TargetWord → Bool
is_misplaced Nat targets.Drop = true
is_misplaced Nat targets.Reject = true
is_misplaced Mangle targets.Reject = true
is_misplaced Filter targets.Mark = true
is_misplaced Nat targets.Mark = true
is_misplaced Filter targets.Source = true
is_misplaced Mangle targets.Source = true
is_misplaced Filter targets.Destination = true
is_misplaced Mangle targets.Destination = true
is_misplaced Filter targets.Masquerade = true
is_misplaced Mangle targets.Masquerade = true
is_misplaced Filter targets.Redirect = true
is_misplaced Mangle targets.Redirect = true
is_misplaced Filter targets.Netmap = true
is_misplaced Mangle targets.Netmap = true
is_misplaced _ _ = false

-- a rate may be limited where packets are logged
abbrev pub logs : TargetWord → Bool
logs targets.Log = true
logs targets.Nflog = true
logs _ = false

-- the protocol is this one
abbrev pub is_protocol : ℕ → Option ℕ → Bool
is_protocol n protocol = option_map_or (nat_eq n) protocol false

-- a test or a target asks for a protocol that the rule doesn't name
abbrev pub lacks_protocol : RuleDraft → Bool
lacks_protocol d =
    (d.has_port && not (is_protocol 6 d.protocol || is_protocol 17 d.protocol))
    || (d.has_flags && not (is_protocol 6 d.protocol))
    || (d.has_icmp && not (is_protocol 1 d.protocol))

-- the length of the prefix that names the addresses over which NETMAP writes at a hook
abbrev pub named_len : RuleDraft → Hook → Option ℕ
named_len d hook = if writes_dst_at hook then d.destination else if writes_src_at hook then d.source else None

-- in a built-in chain, and its addresses are named by a prefix that is as long as the network or longer
abbrev pub keeps_network : Option Hook → RuleDraft → Prefix → Bool
keeps_network hook d net = option_map_or (nat_le net.len) (option_and_then (named_len d) hook) false

-- NETMAP is left out elsewhere; the hook is that of a built-in chain
abbrev pub is_loose : Option Hook → RuleDraft → IptGo → Bool
is_loose hook d (acts.Netmap net) = not (keeps_network hook d net)
is_loose hook d _ = false

abbrev pub is_rule_left_out : IptTable → Option Hook → RuleDraft → Bool
is_rule_left_out table hook d =
    option_map_or (is_misplaced table) d.target false || is_loose hook d d.go || (d.is_limited && not (option_map_or logs d.target false))

-- the checks of the whole line
abbrev pub rule_checks : IptTable → Option Hook → RuleDraft → Checks
rule_checks table hook d = record { left_out = is_rule_left_out table hook d; backward = false; shape = lacks_protocol d; expand = false }

abbrev pub rule_made : IptTable → Option Hook → RuleDraft → Result IptRule Cause
rule_made table hook d =
    if is_complete d then checked (rule_checks table hook d) (record { cond = d.cond; go = d.go }) else Err Syntax

-- the rule of these words, in a table with these chains; the hook is that of its chain, if this is built in
abbrev pub rule_of : Site → IptTable → Option Hook → List IptChain → List Word → Result IptRule Cause
rule_of site table hook chains ws = and_then (words_read (rule_step site table chains) fresh_rule ws) (rule_made table hook)
