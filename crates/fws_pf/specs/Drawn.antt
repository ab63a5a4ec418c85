-- What a whole rule or translation says: one rule for each choice of its lists, unless a check of the whole statement fails
-- (pf.conf(5)).
use Rattle.std.specs.Prelude.{ℕ, ◌+◌, ◌*◌, Bool, true, false, ◌&&◌, ◌||◌, not, nat_eq, nat_le, nat_lt, option_map, Result, Ok, Err, List, [], ◌∷◌, ◌++◌, length, map, if◌then◌else◌}
use Rattle.std.specs.List.{list_all}
use Rattle.std.specs.Option.{option_map_or}
use Rattle.fws_iv.specs.declared.iv.Iv.{Iv}
use Rattle.fws_iv.specs.Prefixes.{agree}
use Rattle.fws_net.specs.declared.cause.Cause.{Cause}
use Rattle.fws_net.specs.declared.cause.Cause.TheVariants.{Syntax, LeftOut}
use Rattle.fws_net.specs.declared.cause.Checks.{Checks}
use Rattle.fws_net.specs.declared.condition.Lit.{Lit}
use Rattle.fws_net.specs.declared.condition.Test.{Test}
use Rattle.fws_net.specs.declared.condition.Test.TheVariants as tests
use Rattle.fws_net.specs.declared.outcome.End.{End}
use Rattle.fws_net.specs.Ends.{host_end}
use Rattle.fws_net.specs.Reading.{and_then}
use Rattle.fws_rules.specs.Literals.{negative}
use Rattle.fws_rules.specs.Networks.{net_end}
use Rattle.fws_pf.specs.declared.config.PfNat.{PfNat}
use Rattle.fws_pf.specs.declared.config.PfRule.{PfRule}
use Rattle.fws_pf.specs.declared.rule_draft.Choice.{Choice}
use Rattle.fws_pf.specs.declared.rule_draft.Expects.{Expects}
use Rattle.fws_pf.specs.declared.rule_draft.Expects.TheVariants as expect
use Rattle.fws_pf.specs.declared.rule_draft.RuleDraft.{RuleDraft}
use Rattle.fws_pf.specs.declared.rule_draft.Target.{Target}
use Rattle.fws_pf.specs.declared.rule_draft.Verb.{Verb}
use Rattle.fws_pf.specs.declared.rule_draft.Verb.TheVariants as verbs
use Rattle.fws_pf.specs.declared.tables.Table.{Table}
use Rattle.fws_pf.specs.declared.value_draft.Item.{Item}
use Rattle.fws_pf.specs.declared.value_draft.Part.{Part}
use Rattle.fws_pf.specs.declared.value_draft.Part.TheVariants as parts
use Rattle.fws_pf.specs.Drafts.{is_translation, passes}
use Rattle.fws_pf.specs.RuleText.{choice_of, only, valued}
use Rattle.fws_pf.specs.Tables.{part_set}
use Rattle.fws_pf.specs.Values.{ended_value}

-- The end of the words

-- a rule may end where what follows may be left out, and a translation that writes behind what it writes
abbrev pub is_open : Expects → Bool
is_open expect.Answer = true
is_open expect.Way = true
is_open expect.Log = true
is_open expect.Logged = true
is_open expect.Quick = true
is_open expect.Past = true
is_open expect.On = true
is_open expect.Inet = true
is_open expect.Proto = true
is_open expect.Hosts = true
is_open expect.SourcePorts = true
is_open expect.To = true
is_open expect.DestinationPorts = true
is_open expect.Option = true
is_open expect.Tagged = true
is_open expect.Arrow = true
is_open _ = false

abbrev pub is_written : Expects → Bool
is_written expect.Targeted = true
is_written expect.Ended = true
is_written _ = false

-- a translation without `no`
abbrev pub writes : RuleDraft → Bool
writes d = is_translation d.verb && not d.negated

abbrev pub may_end : RuleDraft → Bool
may_end d = if writes d then is_written d.expects else is_open d.expects

-- a network without `bitmask` is left out, and any other rule whose words end too early is Syntax
abbrev pub early : Expects → Cause
early expect.Bitmask = LeftOut
early _ = Syntax

-- the rule with the value at which its words end
abbrev pub last_valued : Expects → RuleDraft → Result RuleDraft Cause
last_valued (expect.Value place) d = option_map_or (λ v. Ok (valued place v d)) (ended_value d.value.expects d.value) (Err Syntax)
last_valued _ d = Ok d

abbrev pub closed : RuleDraft → Result RuleDraft Cause
closed d = if may_end d then Ok d else Err (early d.expects)

-- the rule of all its words
abbrev pub rule_ended : RuleDraft → Result RuleDraft Cause
rule_ended d = and_then (last_valued d.expects d) closed

-- Choices

-- the values of a place are a choice, unless it has none
abbrev pub value_choices : List Table → (List Iv → Test) → List Item → List Choice
value_choices tables test [] = []
value_choices tables test (item ∷ items) = choice_of tables test (item ∷ items) ∷ []

-- of SYN and ACK a packet of TCP has SYN alone: it isn't one with neither, with ACK alone or with both; packets of other protocols
-- pass
abbrev pub implied_flags : List Lit
implied_flags = negative (tests.Flags 18 0) ∷ negative (tests.Flags 18 16) ∷ negative (tests.Flags 18 18) ∷ []

-- of TCP a rule that keeps state and has no flags is for the first packets of connections alone
abbrev pub implies_flags : RuleDraft → Bool
implies_flags d = passes d.verb && not d.stateless && not d.has_flags

-- what a rule asks for, in the order of its words, and last what it implies
abbrev pub choices : List Table → RuleDraft → List Choice
choices tables d =
    value_choices tables tests.Via d.faces ++ value_choices tables tests.Proto d.protocols
    ++ value_choices tables tests.Src d.sources ++ value_choices tables tests.Sport d.source_ports
    ++ value_choices tables tests.Dst d.destinations ++ value_choices tables tests.Dport d.destination_ports
    ++ d.options ++ (if implies_flags d then only implied_flags ∷ [] else [])

-- the conditions that begin with one of these and go on with one of those
abbrev pub crossed : List (List Lit) → List (List Lit) → List (List Lit)
crossed [] rests = []
crossed (front ∷ fronts) rests = map (λ rest. front ++ rest) rests ++ crossed fronts rests

-- a condition for each choice, the first choice varying slowest
abbrev pub conditions : List Choice → List (List Lit)
conditions [] = [] ∷ []
conditions (c ∷ cs) = crossed c.conds (conditions cs)

-- how many these are
abbrev pub condition_count : List Choice → ℕ
condition_count [] = 1
condition_count (c ∷ cs) = length c.conds * condition_count cs

-- Checks of the whole statement

-- the protocols that are named pass the test, and there is one
abbrev pub protocol_passes : (ℕ → Bool) → Part → Bool
protocol_passes test (parts.Set (x ∷ xs)) = test x.lo
protocol_passes test _ = false

abbrev pub has_protocols : (ℕ → Bool) → List Item → Bool
has_protocols test items = nat_le 1 (length items) && list_all (λ item. protocol_passes test item.part) items

abbrev pub is_port_protocol : ℕ → Bool
is_port_protocol n = nat_eq n 6 || nat_eq n 17

abbrev pub has_target_port : RuleDraft → Bool
has_target_port d = option_map_or (λ (t : Target). option_map_or (λ port. true) t.port false) d.target false

abbrev pub has_ports : RuleDraft → Bool
has_ports d = nat_le 1 (length d.source_ports) || nat_le 1 (length d.destination_ports) || has_target_port d

-- a test of ports, flags or types without the protocol that has them
abbrev pub lacks_protocol : RuleDraft → Bool
lacks_protocol d =
    (has_ports d && not (has_protocols is_port_protocol d.protocols))
    || (d.tests_flags && not (has_protocols (nat_eq 6) d.protocols))
    || (d.has_icmp_type && not (has_protocols (nat_eq 1) d.protocols))

-- the addresses agree in their first n bits
abbrev pub are_one_block : ℕ → List Iv → Bool
are_one_block n [] = true
are_one_block n (x ∷ xs) = list_all (λ y. agree n x.lo y.lo && agree n x.lo y.hi) (x ∷ xs)

-- a value has addresses that agree in their first n bits, and isn't negated
abbrev pub is_one_block : List Table → ℕ → Item → Bool
is_one_block tables n item = not item.negated && option_map_or (are_one_block n) (part_set tables item.part) false

-- what a translation writes over is named so for a network of n bits
abbrev pub maps_blocks : List Table → ℕ → List Item → Bool
maps_blocks tables n items = nat_le 1 (length items) && list_all (is_one_block tables n) items

-- the addresses over which a translation writes
abbrev pub written_over : Verb → RuleDraft → List Item
written_over verbs.Nat d = d.sources
written_over _ d = d.destinations

-- a network is mapped from other addresses than those of one network as large
abbrev pub maps_too_many : List Table → RuleDraft → Bool
maps_too_many tables d =
    option_map_or (λ (t : Target). t.is_mapped && not (maps_blocks tables t.net.len (written_over d.verb d))) d.target false

-- the rules of statements that make more than one, with those of this one
abbrev pub expanded_with : ℕ → ℕ → ℕ
expanded_with expanded n = if nat_lt 1 n then expanded + n else expanded

abbrev pub rule_checks : List Table → ℕ → RuleDraft → Checks
rule_checks tables expanded d = record {
  left_out = maps_too_many tables d;
  backward = false;
  shape = lacks_protocol d;
  expand = nat_lt 200000 (expanded_with expanded (condition_count (choices tables d)));
}

-- Rules

abbrev pub filter_rule : RuleDraft → List Lit → PfRule
filter_rule d cond = record { pass = passes d.verb; way = d.way; quick = d.quick; cond = cond; tag = d.tag; keep = passes d.verb && not d.stateless }

-- the end that is written
abbrev pub target_end : Target → End
target_end t = if t.is_mapped then net_end t.net else host_end t.net.addr t.port

abbrev pub translation : RuleDraft → List Lit → PfNat
translation d cond = record { cond = cond; to = option_map target_end d.target; past = d.past; tag = d.tag }
