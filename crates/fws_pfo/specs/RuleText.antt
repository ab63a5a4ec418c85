-- A rule behind its first word (pf.conf(5) of OpenBSD).
use Rattle.std.specs.Prelude.{ℕ, Bool, true, false, ◌&&◌, ◌||◌, Result, Ok, Err, List, [], ◌∷◌, codes, if◌then◌else◌}
use Rattle.std.specs.List.{list_any}
use Rattle.std.specs.Option.{option_map_or}
use Rattle.std.specs.Str.{bytes_eq}
use Rattle.fws_num.specs.declared.word.Word.{Word}
use Rattle.fws_net.specs.declared.cause.Cause.{Cause}
use Rattle.fws_net.specs.declared.cause.Cause.TheVariants.{Syntax, LeftOut}
use Rattle.fws_net.specs.Reading.{and_then}
use Rattle.fws_pf.specs.declared.rule_draft.Expects.{Expects}
use Rattle.fws_pf.specs.declared.rule_draft.Expects.TheVariants as expect
use Rattle.fws_pf.specs.declared.rule_draft.Place.{Place}
use Rattle.fws_pf.specs.declared.rule_draft.Verb.{Verb}
use Rattle.fws_pf.specs.declared.rule_draft.Verb.TheVariants as verbs
use Rattle.fws_pf.specs.Drafts.{expecting, is}
use Rattle.fws_pf.specs.Drawn.{is_open}
use Rattle.fws_pf.specs.RuleText.{fresh_rule as pf_fresh_rule, rule_step as pf_rule_step, value_taken, valued}
use Rattle.fws_pf.specs.Statements.{is_mark}
use Rattle.fws_pf.specs.Values.{Setting, value_step}
use Rattle.fws_pfo.specs.declared.config.PfoKind.{PfoKind}
use Rattle.fws_pfo.specs.declared.config.PfoKind.TheVariants as kinds
use Rattle.fws_pfo.specs.declared.rule_draft.PfoExpects.{PfoExpects}
use Rattle.fws_pfo.specs.declared.rule_draft.PfoExpects.TheVariants as own
use Rattle.fws_pfo.specs.declared.rule_draft.PfoRuleDraft.{PfoRuleDraft}
use Rattle.fws_pfo.specs.Drafts.{is_inward, is_match, is_outward, lifted, with_shared}
use Rattle.fws_pfo.specs.Keywords.{is_different, misplaced}
use Rattle.fws_pfo.specs.TargetText.{bitmask_step, end_begun, goes_past_port, target_name_step, target_step, targeted_by}

-- what both dialects have of a rule of this kind: `match` is read as `block`
abbrev pub verb_of : PfoKind → Verb
verb_of kinds.Pass = verbs.Pass
verb_of kinds.Block = verbs.Block
verb_of kinds.Match = verbs.Block

-- what `block` answers may stand behind it alone
abbrev pub first_expects : PfoKind → Expects
first_expects kinds.Pass = expect.Way
first_expects kinds.Block = expect.Answer
first_expects kinds.Match = expect.Way

-- a rule before its words
abbrev pub fresh_rule : PfoKind → List (List ℕ) → PfoRuleDraft
fresh_rule kind tags = record {
  kind = kind;
  expects = own.Shared;
  has_scrub = false;
  shared = pf_fresh_rule (verb_of kind) false (first_expects kind) tags;
}

-- Options

-- words in parentheses follow, once
abbrev pub scrub_begun : PfoRuleDraft → Result PfoRuleDraft Cause
scrub_begun d =
    if d.has_scrub then Err Syntax
    else Ok (record d { expects = own.Scrub; has_scrub = true; shared = expecting expect.Option d.shared })

abbrev pub scrub_step : Word → PfoRuleDraft → Result PfoRuleDraft Cause
scrub_step w d = if is_mark w (codes "(") then Ok (record d { expects = own.Scrubbed }) else Err Syntax

-- any word, up to the parenthesis
abbrev pub scrubbed_step : Word → PfoRuleDraft → Result PfoRuleDraft Cause
scrubbed_step w d = Ok (if is_mark w (codes ")") then record d { expects = own.Shared } else d)

-- `quick` may stand there in other rules than `match`
abbrev pub may_be_quick : Expects → Bool
may_be_quick expect.Way = true
may_be_quick expect.Log = true
may_be_quick expect.Logged = true
may_be_quick expect.Quick = true
may_be_quick _ = false

-- words with which options of state begin
abbrev pub state_words : List (List ℕ)
state_words = codes "keep" ∷ codes "modulate" ∷ codes "no" ∷ []

unfoldable pub is_state_word : List ℕ → Bool
is_state_word text = list_any (bytes_eq text) state_words

-- words of other rules that are left out on `match`
abbrev pub is_unmatched : Word → PfoRuleDraft → Bool
is_unmatched w d = is_match d.kind && ((is w (codes "quick") && may_be_quick d.shared.expects) || is_state_word w.text)

-- where a keyword may stand: the words that are keywords of one dialect alone stand nowhere but at the head of a rule or its end
abbrev pub keyword_step : Setting → Word → PfoRuleDraft → Result PfoRuleDraft Cause
keyword_step setting w d = if is_different w.text then Err (misplaced w.text) else lifted (pf_rule_step setting w d.shared) d

-- where an option may stand
abbrev pub open_step : Setting → Word → PfoRuleDraft → Result PfoRuleDraft Cause
open_step setting w d =
    if is w (codes "nat-to") then end_begun (is_outward d.shared.way) d
    else if is w (codes "rdr-to") then end_begun (is_inward d.shared.way) d
    else if is w (codes "scrub") then scrub_begun d
    else if is_unmatched w d then Err LeftOut
    else keyword_step setting w d

-- an option behind what is written
abbrev pub option_step : Setting → Word → PfoRuleDraft → Result PfoRuleDraft Cause
option_step setting w d = open_step setting w (with_shared (expecting expect.Option d.shared) d)

-- behind an end
abbrev pub targeted_step : Setting → Word → PfoRuleDraft → Result PfoRuleDraft Cause
targeted_step setting w d =
    option_map_or (targeted_by (is_outward d.shared.way) (option_step setting w d) w d) d.shared.target (Err Syntax)

-- behind a port
abbrev pub ported_step : Setting → Word → PfoRuleDraft → Result PfoRuleDraft Cause
ported_step setting w d = if goes_past_port w then Err LeftOut else option_step setting w d

-- Words

-- places at which one keyword alone may stand
abbrev pub wants_keyword : Expects → Bool
wants_keyword expect.LogAll = true
wants_keyword (expect.State keeps) = true
wants_keyword expect.NotTagged = true
wants_keyword _ = false

-- a word at any other place
abbrev pub closed_step : Setting → Expects → Word → PfoRuleDraft → Result PfoRuleDraft Cause
closed_step setting expect.Target w d = target_step setting w d
closed_step setting expect.TargetName w d = target_name_step setting w d
closed_step setting expect.Bitmask w d = bitmask_step w d
closed_step setting expect.Targeted w d = targeted_step setting w d
closed_step setting expect.Ended w d = ported_step setting w d
closed_step setting _ w d = lifted (pf_rule_step setting w d.shared) d

-- a word that belongs to no value
abbrev pub word_step : Setting → Word → PfoRuleDraft → Result PfoRuleDraft Cause
word_step setting w d =
    if is_open d.shared.expects then open_step setting w d
    else if wants_keyword d.shared.expects then keyword_step setting w d
    else closed_step setting d.shared.expects w d

-- a word at which a value stands or has ended
abbrev pub value_word_step : Setting → Place → Word → PfoRuleDraft → Result PfoRuleDraft Cause
value_word_step setting place w d =
    and_then (value_step setting w d.shared.value)
    (λ next.
    if next.1 then Ok (with_shared (value_taken place next.0 d.shared) d) else word_step setting w (with_shared (valued place next.0 d.shared) d))

abbrev pub shared_step : Setting → Expects → Word → PfoRuleDraft → Result PfoRuleDraft Cause
shared_step setting (expect.Value place) w d = value_word_step setting place w d
shared_step setting _ w d = word_step setting w d

abbrev pub expected_step : Setting → PfoExpects → Word → PfoRuleDraft → Result PfoRuleDraft Cause
expected_step setting own.Shared w d = shared_step setting d.shared.expects w d
expected_step setting own.Scrub w d = scrub_step w d
expected_step setting own.Scrubbed w d = scrubbed_step w d

-- a word of a rule
abbrev pub rule_step : Setting → Word → PfoRuleDraft → Result PfoRuleDraft Cause
rule_step setting w d = expected_step setting d.expects w d
