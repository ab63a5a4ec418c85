-- A filter rule or a translation behind its first word (pf.conf(5)).
use Rattle.std.specs.Prelude.{ℕ, suc, Bool, true, false, ◌&&◌, ◌||◌, not, nat_eq, bit_and, bit_or, Option, Some, None, is_some, option_map, Result, Ok, Err, List, [], ◌∷◌, ◌++◌, map, codes, if◌then◌else◌}
use Rattle.std.specs.List.{list_all, list_any}
use Rattle.std.specs.Option.{option_map_or}
use Rattle.std.specs.Str.{bytes_eq}
use Rattle.fws_iv.specs.declared.iv.Iv.{Iv}
use Rattle.fws_num.specs.declared.word.Word.{Word}
use Rattle.fws_num.specs.Numbers.{split_once}
use Rattle.fws_net.specs.declared.cause.Cause.{Cause}
use Rattle.fws_net.specs.declared.cause.Cause.TheVariants.{Syntax, LeftOut}
use Rattle.fws_net.specs.declared.condition.Lit.{Lit}
use Rattle.fws_net.specs.declared.condition.Test.{Test}
use Rattle.fws_net.specs.declared.condition.Test.TheVariants as tests
use Rattle.fws_net.specs.Reading.{and_then}
use Rattle.fws_rules.specs.Literals.{literals, positive}
use Rattle.fws_pf.specs.declared.config.Way.TheVariants as ways
use Rattle.fws_pf.specs.declared.rule_draft.Choice.{Choice}
use Rattle.fws_pf.specs.declared.rule_draft.Expects.{Expects}
use Rattle.fws_pf.specs.declared.rule_draft.Expects.TheVariants as expect
use Rattle.fws_pf.specs.declared.rule_draft.Place.{Place}
use Rattle.fws_pf.specs.declared.rule_draft.Place.TheVariants as places
use Rattle.fws_pf.specs.declared.rule_draft.RuleDraft.{RuleDraft}
use Rattle.fws_pf.specs.declared.rule_draft.Verb.{Verb}
use Rattle.fws_pf.specs.declared.tables.Table.{Table}
use Rattle.fws_pf.specs.declared.value_draft.Item.{Item}
use Rattle.fws_pf.specs.declared.value_draft.ValueDraft.{ValueDraft}
use Rattle.fws_pf.specs.declared.value_draft.ValueKind.{ValueKind}
use Rattle.fws_pf.specs.declared.value_draft.ValueKind.TheVariants as kinds
use Rattle.fws_pf.specs.declared.words.OptionWord.{OptionWord}
use Rattle.fws_pf.specs.declared.words.OptionWord.TheVariants as options
use Rattle.fws_pf.specs.Drafts.{going, is, is_translation, misplaced_word, passes}
use Rattle.fws_pf.specs.Keywords.{misplaced, option_word}
use Rattle.fws_pf.specs.Statements.{is_mark}
use Rattle.fws_pf.specs.Tables.{part_set}
use Rattle.fws_pf.specs.TargetText.{bitmask_step, ended_step, target_end_step, target_name_step, target_port_step, target_step, targeted_step}
use Rattle.fws_pf.specs.Values.{Setting, fresh_value, has_ended, no_mark, value_step}

-- a rule before its words
abbrev pub fresh_rule : Verb → Bool → Expects → List (List ℕ) → RuleDraft
fresh_rule verb negated next tags = record {
  verb = verb;
  negated = negated;
  expects = next;
  value = fresh_value kinds.Interface;
  past = false;
  way = ways.Both;
  quick = false;
  faces = [];
  protocols = [];
  sources = [];
  source_ports = [];
  destinations = [];
  destination_ports = [];
  options = [];
  has_flags = false;
  tests_flags = false;
  has_icmp_type = false;
  has_state = false;
  stateless = false;
  has_tag = false;
  has_tagged = false;
  has_label = false;
  tag = None;
  target = None;
  tags = tags;
}

-- Values

-- what stands at a place
abbrev pub kind_at : Place → ValueKind
kind_at places.On = kinds.Interface
kind_at places.Proto = kinds.Protocol
kind_at places.Source = kinds.Host
kind_at places.SourcePort = kinds.Port
kind_at places.Destination = kinds.Host
kind_at places.DestinationPort = kinds.Port
kind_at places.IcmpType = kinds.IcmpType

-- what the word behind a place is taken for
abbrev pub behind : Place → Expects
behind places.On = expect.Inet
behind places.Proto = expect.Hosts
behind places.Source = expect.SourcePorts
behind places.SourcePort = expect.To
behind places.Destination = expect.DestinationPorts
behind places.DestinationPort = expect.Option
behind places.IcmpType = expect.Option

-- a value follows
abbrev pub asking : Place → RuleDraft → Result RuleDraft Cause
asking place d = Ok (record d { expects = expect.Value place; value = fresh_value (kind_at place) })

-- the literals of a value: nothing where it has every number
abbrev pub item_literals : List Table → (List Iv → Test) → Item → List Lit
item_literals tables test item = literals item.negated (option_map (λ set. positive (test set)) (part_set tables item.part))

-- a condition for each value
abbrev pub choice_of : List Table → (List Iv → Test) → List Item → Choice
choice_of tables test items = record { conds = map (item_literals tables test) items }

-- a choice among one
abbrev pub only : List Lit → Choice
only cond = record { conds = cond ∷ [] }

abbrev pub with_choice : Choice → RuleDraft → RuleDraft
with_choice choice d = record d { options = d.options ++ choice ∷ [] }

-- the values of a place
abbrev pub with_items : Place → List Item → RuleDraft → RuleDraft
with_items places.On items d = record d { faces = items }
with_items places.Proto items d = record d { protocols = items }
with_items places.Source items d = record d { sources = items }
with_items places.SourcePort items d = record d { source_ports = items }
with_items places.Destination items d = record d { destinations = items }
with_items places.DestinationPort items d = record d { destination_ports = items }
with_items places.IcmpType items d = with_choice (choice_of [] tests.Icmp items) d

-- a value has ended, and nothing of it is kept but what it says
abbrev pub valued : Place → ValueDraft → RuleDraft → RuleDraft
valued place v d = with_items place v.items (record d { expects = behind place; value = fresh_value kinds.Interface })

-- a word was taken by a value
abbrev pub value_taken : Place → ValueDraft → RuleDraft → RuleDraft
value_taken place v d = if has_ended v.expects then valued place v d else record d { value = v }

-- Options

-- TCP flags and their bits
abbrev pub flag_of : ℕ → Option ℕ
flag_of c =
    if nat_eq c 70 then Some 1
    else if nat_eq c 83 then Some 2
    else if nat_eq c 82 then Some 4
    else if nat_eq c 80 then Some 8
    else if nat_eq c 65 then Some 16
    else if nat_eq c 85 then Some 32 else None

-- the letters E and W, whose flags are left out
abbrev pub is_congestion : ℕ → Bool
is_congestion c = nat_eq c 69 || nat_eq c 87

abbrev pub is_flag_letter : ℕ → Bool
is_flag_letter c = is_some (flag_of c) || is_congestion c

-- the bits of letters, beside those of the others
abbrev pub with_flags : ℕ → List ℕ → ℕ
with_flags bits [] = bits
with_flags bits (c ∷ cs) = with_flags (bit_or bits (option_map_or (λ bit. bit) (flag_of c) 0)) cs

-- of the flags of the mask exactly these are set, which are among them
abbrev pub flags_within : ℕ → ℕ → Result Test Cause
flags_within want mask = if nat_eq (bit_and want mask) want then Ok (tests.Flags mask want) else Err Syntax

abbrev pub flags_between : List ℕ × List ℕ → Result Test Cause
flags_between halves =
    if not (list_all is_flag_letter (halves.0 ++ halves.1)) then Err Syntax
    else if list_any is_congestion (halves.0 ++ halves.1) then Err LeftOut
    else flags_within (with_flags 0 halves.0) (with_flags 0 halves.1)

-- the test that flags with a mask behind a slash are
abbrev pub flags_test : List ℕ → Result Test Cause
flags_test text = option_map_or flags_between (split_once 47 text) (Err Syntax)

abbrev pub with_flags_test : Test → RuleDraft → RuleDraft
with_flags_test test d = with_choice (only (positive test ∷ [])) (record d { tests_flags = true; expects = expect.Option })

abbrev pub flags_step : Word → RuleDraft → Result RuleDraft Cause
flags_step w d =
    if is w (codes "any") then going expect.Option d else and_then (flags_test w.text) (λ test. Ok (with_flags_test test d))

-- the names of tags with one more, unless it is there
abbrev pub with_name : List (List ℕ) → List ℕ → List (List ℕ)
with_name names text = if list_any (bytes_eq text) names then names else names ++ text ∷ []

-- the place of a name among names; how many there are where it isn't among them
abbrev pub place_of : List (List ℕ) → List ℕ → ℕ
place_of [] text = 0
place_of (name ∷ names) text = if bytes_eq text name then 0 else suc (place_of names text)

-- behind the name of a tag that is put, and of one that is asked for
abbrev pub behind_tag : Verb → Expects
behind_tag verb = if is_translation verb then expect.Tagged else expect.Option

abbrev pub behind_tagged : Verb → Expects
behind_tagged verb = if is_translation verb then expect.Arrow else expect.Option

abbrev pub tag_name_step : Word → RuleDraft → Result RuleDraft Cause
tag_name_step w d =
    no_mark w (Ok (record d { tag = Some (place_of d.tags w.text); tags = with_name d.tags w.text; expects = behind_tag d.verb }))

abbrev pub tag_literals : Bool → ℕ → List Lit
tag_literals asked n = literals (not asked) (Some (positive (tests.Tag n)))

abbrev pub tagged_name_step : Bool → Word → RuleDraft → Result RuleDraft Cause
tagged_name_step asked w d =
    no_mark w (Ok (with_choice (only (tag_literals asked (place_of d.tags w.text))) (record d { tags = with_name d.tags w.text; expects = behind_tagged d.verb })))

-- an option that may come once
abbrev pub once : Bool → RuleDraft → Result RuleDraft Cause
once given d = if given then Err Syntax else Ok d

-- `state` follows, which only rules have that pass packets
abbrev pub state_begun : Bool → RuleDraft → Result RuleDraft Cause
state_begun keeps d = if passes d.verb then once d.has_state (record d { has_state = true; expects = expect.State keeps }) else Err Syntax

abbrev pub option_begun : OptionWord → RuleDraft → Result RuleDraft Cause
option_begun options.Flags d = once d.has_flags (record d { has_flags = true; expects = expect.Flags })
option_begun options.IcmpType d = and_then (once d.has_icmp_type (record d { has_icmp_type = true })) (asking places.IcmpType)
option_begun options.Keep d = state_begun true d
option_begun options.NoState d = state_begun false d
option_begun options.Tag d = once d.has_tag (record d { has_tag = true; expects = expect.TagName })
option_begun options.Tagged d = once d.has_tagged (record d { has_tagged = true; expects = expect.TaggedName true })
option_begun options.Label d = once d.has_label (record d { has_label = true; expects = expect.Label })

abbrev pub filter_option_step : Word → RuleDraft → Result RuleDraft Cause
filter_option_step w d =
    if is_mark w (codes "!") then going expect.NotTagged d
    else option_map_or (λ option. option_begun option d) (option_word w.text) (misplaced_word w)

-- `tagged` behind `!`
abbrev pub not_tagged_step : Word → RuleDraft → Result RuleDraft Cause
not_tagged_step w d =
    if is w (codes "tagged") then once d.has_tagged (record d { has_tagged = true; expects = expect.TaggedName false }) else misplaced_word w

abbrev pub state_step : Bool → Word → RuleDraft → Result RuleDraft Cause
state_step keeps w d = if is w (codes "state") then Ok (record d { stateless = not keeps; expects = expect.Option }) else misplaced_word w

-- the arrow of a translation, which one with `no` lacks; any other word is refused for this cause
abbrev pub arrow_step : Cause → Word → RuleDraft → Result RuleDraft Cause
arrow_step cause w d = if is_mark w (codes "->") && not d.negated then going expect.Target d else Err cause

abbrev pub tagged_step : Word → RuleDraft → Result RuleDraft Cause
tagged_step w d = if is w (codes "tagged") then going (expect.TaggedName true) d else arrow_step (misplaced w.text) w d

abbrev pub translation_option_step : Word → RuleDraft → Result RuleDraft Cause
translation_option_step w d = if is w (codes "tag") then going expect.TagName d else tagged_step w d

abbrev pub option_step : Word → RuleDraft → Result RuleDraft Cause
option_step w d = if is_translation d.verb then translation_option_step w d else filter_option_step w d

-- What stands ahead of options, of which each may be left out

abbrev pub destination_ports_step : Word → RuleDraft → Result RuleDraft Cause
destination_ports_step w d = if is w (codes "port") then asking places.DestinationPort d else option_step w d

abbrev pub to_step : Word → RuleDraft → Result RuleDraft Cause
to_step w d = if is w (codes "to") then asking places.Destination d else option_step w d

abbrev pub source_ports_step : Word → RuleDraft → Result RuleDraft Cause
source_ports_step w d = if is w (codes "port") then asking places.SourcePort d else to_step w d

abbrev pub hosts_step : Word → RuleDraft → Result RuleDraft Cause
hosts_step w d =
    if is w (codes "all") then going expect.Option d
    else if is w (codes "from") then asking places.Source d
    else to_step w d

abbrev pub proto_step : Word → RuleDraft → Result RuleDraft Cause
proto_step w d = if is w (codes "proto") then asking places.Proto d else hosts_step w d

abbrev pub inet_step : Word → RuleDraft → Result RuleDraft Cause
inet_step w d = if is w (codes "inet") then going expect.Proto d else proto_step w d

abbrev pub on_step : Word → RuleDraft → Result RuleDraft Cause
on_step w d = if is w (codes "on") then asking places.On d else inet_step w d

abbrev pub quick_step : Word → RuleDraft → Result RuleDraft Cause
quick_step w d = if is w (codes "quick") then Ok (record d { quick = true; expects = expect.On }) else on_step w d

abbrev pub logged_step : Word → RuleDraft → Result RuleDraft Cause
logged_step w d = if is_mark w (codes "(") then going expect.LogAll d else quick_step w d

abbrev pub log_step : Word → RuleDraft → Result RuleDraft Cause
log_step w d = if is w (codes "log") then going expect.Logged d else quick_step w d

abbrev pub way_step : Word → RuleDraft → Result RuleDraft Cause
way_step w d =
    if is w (codes "in") then Ok (record d { way = ways.Inward; expects = expect.Log })
    else if is w (codes "out") then Ok (record d { way = ways.Outward; expects = expect.Log })
    else log_step w d

-- what `block` answers, which makes no difference
abbrev pub answers : List (List ℕ)
answers = codes "drop" ∷ codes "return" ∷ codes "return-rst" ∷ codes "return-icmp" ∷ []

abbrev pub answer_step : Word → RuleDraft → Result RuleDraft Cause
answer_step w d = if list_any (is w) answers then going expect.Way d else way_step w d

abbrev pub log_all_step : Word → RuleDraft → Result RuleDraft Cause
log_all_step w d = if is w (codes "all") then going expect.LogEnd d else misplaced_word w

abbrev pub log_end_step : Word → RuleDraft → Result RuleDraft Cause
log_end_step w d = if is_mark w (codes ")") then going expect.Quick d else Err Syntax

abbrev pub past_step : Word → RuleDraft → Result RuleDraft Cause
past_step w d = if is w (codes "pass") then Ok (record d { past = true; expects = expect.On }) else on_step w d

-- Words

-- a word that belongs to no value
abbrev pub word_step : Setting → Expects → Word → RuleDraft → Result RuleDraft Cause
word_step setting expect.Answer w d = answer_step w d
word_step setting expect.Way w d = way_step w d
word_step setting expect.Log w d = log_step w d
word_step setting expect.Logged w d = logged_step w d
word_step setting expect.LogAll w d = log_all_step w d
word_step setting expect.LogEnd w d = log_end_step w d
word_step setting expect.Quick w d = quick_step w d
word_step setting expect.Past w d = past_step w d
word_step setting expect.On w d = on_step w d
word_step setting expect.Inet w d = inet_step w d
word_step setting expect.Proto w d = proto_step w d
word_step setting expect.Hosts w d = hosts_step w d
word_step setting expect.SourcePorts w d = source_ports_step w d
word_step setting expect.To w d = to_step w d
word_step setting expect.DestinationPorts w d = destination_ports_step w d
word_step setting expect.Option w d = option_step w d
word_step setting (expect.State keeps) w d = state_step keeps w d
word_step setting expect.Flags w d = flags_step w d
word_step setting expect.TagName w d = tag_name_step w d
word_step setting expect.NotTagged w d = not_tagged_step w d
word_step setting (expect.TaggedName asked) w d = tagged_name_step asked w d
word_step setting expect.Label w d = no_mark w (going expect.Option d)
word_step setting expect.Tagged w d = tagged_step w d
word_step setting expect.Arrow w d = arrow_step Syntax w d
word_step setting expect.Target w d = target_step setting.site w d
word_step setting expect.TargetName w d = target_name_step setting.site w d
word_step setting expect.TargetEnd w d = target_end_step w d
word_step setting expect.Bitmask w d = bitmask_step w d
word_step setting expect.Targeted w d = targeted_step w d
word_step setting expect.TargetPort w d = target_port_step w d
word_step setting expect.Ended w d = ended_step w d
word_step setting (expect.Value place) w d = Err Syntax

-- a word at which a value stands or has ended
abbrev pub value_word_step : Setting → Place → Word → RuleDraft → Result RuleDraft Cause
value_word_step setting place w d =
    and_then (value_step setting w d.value)
    (λ next. if next.1 then Ok (value_taken place next.0 d) else word_step setting (behind place) w (valued place next.0 d))

abbrev pub expected_step : Setting → Expects → Word → RuleDraft → Result RuleDraft Cause
expected_step setting (expect.Value place) w d = value_word_step setting place w d
expected_step setting next w d = word_step setting next w d

-- a word of a rule
abbrev pub rule_step : Setting → Word → RuleDraft → Result RuleDraft Cause
rule_step setting w d = expected_step setting d.expects w d
