-- The end of a rule, behind `nat-to` and `rdr-to`, but for words that are taken as in FreeBSD's translations (pf.conf(5) of OpenBSD).
use Rattle.std.specs.Prelude.{ℕ, Bool, ◌&&◌, ◌||◌, not, is_some, Result, Ok, Err, List, codes, if◌then◌else◌}
use Rattle.std.specs.Option.{option_map_or}
use Rattle.std.specs.Str.{bytes_eq}
use Rattle.fws_num.specs.declared.word.Word.{Word}
use Rattle.fws_num.specs.Numbers.{split_once}
use Rattle.fws_net.specs.declared.cause.Cause.{Cause}
use Rattle.fws_net.specs.declared.cause.Cause.TheVariants.{Syntax, LeftOut}
use Rattle.fws_net.specs.declared.site.Site.{Site}
use Rattle.fws_net.specs.Reading.{and_then}
use Rattle.fws_pf.specs.declared.rule_draft.Expects.{Expects}
use Rattle.fws_pf.specs.declared.rule_draft.Expects.TheVariants as expect
use Rattle.fws_pf.specs.declared.rule_draft.RuleDraft.{RuleDraft}
use Rattle.fws_pf.specs.declared.rule_draft.Target.{Target}
use Rattle.fws_pf.specs.declared.rule_draft.Verb.TheVariants as verbs
use Rattle.fws_pf.specs.Drafts.{is}
use Rattle.fws_pf.specs.RuleText.{rule_step}
use Rattle.fws_pf.specs.Statements.{is_mark}
use Rattle.fws_pf.specs.TargetText.{bitmask_of, face_target, kept_static, mapped, may_be_mapped, with_target}
use Rattle.fws_pf.specs.Values.{Setting, begins_with_digit}
use Rattle.fws_pfo.specs.declared.rule_draft.PfoRuleDraft.{PfoRuleDraft}
use Rattle.fws_pfo.specs.Drafts.{going, is_block, is_outward, lifted, with_shared}

-- `nat-to` and `rdr-to`

-- an end follows, in a rule of the way along which it is written; one that blocks has none, nor has one that has an end already
abbrev pub end_begun : Bool → PfoRuleDraft → Result PfoRuleDraft Cause
end_begun is_along d =
    if is_block d.kind || not is_along then Err LeftOut
    else if is_some d.shared.target then Err Syntax
    else going expect.Target d

-- Addresses

-- the first address of an interface
abbrev pub first_target : Site → Expects → List ℕ → PfoRuleDraft → Result PfoRuleDraft Cause
first_target site next name d = and_then (face_target site name) (λ target. Ok (with_shared (with_target target next d.shared) d))

-- a name ahead of `:0`, which says that the first address is meant, as the name alone does; any other word is read so
abbrev pub named_first : Site → Expects → Result PfoRuleDraft Cause → PfoRuleDraft → List ℕ × List ℕ → Result PfoRuleDraft Cause
named_first site next other d halves = if bytes_eq halves.1 (codes "0") then first_target site next halves.0 d else other

-- in parentheses
abbrev pub target_name_step : Setting → Word → PfoRuleDraft → Result PfoRuleDraft Cause
target_name_step setting w d =
    option_map_or (named_first setting.site expect.TargetEnd (lifted (rule_step setting w d.shared) d) d) (split_once 58 w.text)
    (lifted (rule_step setting w d.shared) d)

-- outside of them a word that begins with a digit is no name
abbrev pub bare_first : Site → Result PfoRuleDraft Cause → PfoRuleDraft → List ℕ × List ℕ → Result PfoRuleDraft Cause
bare_first site other d halves =
    if begins_with_digit halves.0 && bytes_eq halves.1 (codes "0") then Err Syntax else named_first site expect.Targeted other d halves

abbrev pub target_step : Setting → Word → PfoRuleDraft → Result PfoRuleDraft Cause
target_step setting w d =
    option_map_or (bare_first setting.site (lifted (rule_step setting w d.shared) d) d) (split_once 58 w.text) (lifted (rule_step setting w d.shared) d)

-- What stands behind an address

-- a network is left out without `bitmask`, whatever follows; over a source `static-port` may stand before it
abbrev pub mask_step : Word → PfoRuleDraft → Target → Result RuleDraft Cause
mask_step w d t = if is_outward d.shared.way then bitmask_of verbs.Nat w d.shared t else bitmask_of verbs.Rdr w d.shared t

abbrev pub bitmask_step : Word → PfoRuleDraft → Result PfoRuleDraft Cause
bitmask_step w d = option_map_or (λ t. lifted (mask_step w d t) d) d.shared.target (Err Syntax)

abbrev pub targeting : Target → PfoRuleDraft → Result PfoRuleDraft Cause
targeting target d = Ok (with_shared (with_target target expect.Targeted d.shared) d)

-- behind a source, which keeps its port; any other word is read so
abbrev pub source_targeted : Result PfoRuleDraft Cause → Word → PfoRuleDraft → Target → Result PfoRuleDraft Cause
source_targeted other w d t =
    if is w (codes "port") then Err LeftOut
    else if is w (codes "static-port") && not t.is_static then targeting (kept_static t) d
    else if is w (codes "bitmask") && may_be_mapped t then targeting (mapped t) d
    else other

-- a port follows, which a mapped network lacks
abbrev pub port_begun : Target → PfoRuleDraft → Result PfoRuleDraft Cause
port_begun t d = if t.is_mapped then Err LeftOut else going expect.TargetPort d

-- behind a destination
abbrev pub destination_targeted : Result PfoRuleDraft Cause → Word → PfoRuleDraft → Target → Result PfoRuleDraft Cause
destination_targeted other w d t =
    if is w (codes "port") then port_begun t d
    else if is w (codes "bitmask") && may_be_mapped t then targeting (mapped t) d
    else other

abbrev pub targeted_by : Bool → Result PfoRuleDraft Cause → Word → PfoRuleDraft → Target → Result PfoRuleDraft Cause
targeted_by outward other w d t = if outward then source_targeted other w d t else destination_targeted other w d t

-- words behind a port with which ranges go on, and `bitmask`, which a port excludes
abbrev pub goes_past_port : Word → Bool
goes_past_port w = is_mark w (codes "><") || is_mark w (codes "<>") || is w (codes "bitmask")
