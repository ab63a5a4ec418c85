-- A text of iptables-save(8): its configuration, or its first refused line with the cause.
use Rattle.std.specs.Prelude.{ℕ, ◌-◌, ◌^◌, zero, suc, Bool, true, false, ◌&&◌, ◌||◌, nat_eq, Option, Some, None, is_some, Result, Ok, Err, List, [], ◌∷◌, ◌++◌, codes, if◌then◌else◌}
use Rattle.std.specs.List.{list_any}
use Rattle.std.specs.Option.{option_map_or, ok_or}
use Rattle.std.specs.Str.{bytes_eq}
use Rattle.fws_num.specs.declared.comments.Comments.TheVariants.{HashLine}
use Rattle.fws_num.specs.declared.lines.Line.{Line}
use Rattle.fws_num.specs.declared.word.Word.{Word}
use Rattle.fws_num.specs.Named.{named_in}
use Rattle.fws_num.specs.Numbers.{dec_of, split_once}
use Rattle.fws_net.specs.declared.cause.Cause.{Cause}
use Rattle.fws_net.specs.declared.cause.Cause.TheVariants.{Syntax, LeftOut, NoName}
use Rattle.fws_net.specs.declared.site.Site.{Site}
use Rattle.fws_net.specs.Causes.{judged}
use Rattle.fws_net.specs.Reading.{Refusal, and_then, text_read}
use Rattle.fws_ipt.specs.declared.config.IptTable.{IptTable}
use Rattle.fws_ipt.specs.declared.config.IptTable.TheVariants.{Filter, Nat, Mangle}
use Rattle.fws_ipt.specs.declared.config.IptRule.{IptRule}
use Rattle.fws_ipt.specs.declared.config.IptChain.{IptChain}
use Rattle.fws_ipt.specs.declared.config.IptConfig.{IptConfig}
use Rattle.fws_ipt.specs.declared.hook.Hook.{Hook}
use Rattle.fws_ipt.specs.declared.hook.Hook.TheVariants.{Prerouting, Input, Forward, Output, Postrouting}
use Rattle.fws_ipt.specs.declared.draft.Section.{Section}
use Rattle.fws_ipt.specs.declared.draft.Section.TheVariants.{Met, Raw, Security}
use Rattle.fws_ipt.specs.declared.draft.IptDraft.{IptDraft}
use Rattle.fws_ipt.specs.Hooks.{hook_named, section_has}
use Rattle.fws_ipt.specs.Options.{keyword_of}
use Rattle.fws_ipt.specs.RuleText.{chain_from, rule_of}
use Rattle.fws_ipt.specs.Walk.{is_table}

-- Tables

-- the tables of a text by their names
abbrev pub sections : List (List ℕ × Section)
sections = (codes "filter", Met Filter) ∷ (codes "nat", Met Nat) ∷ (codes "mangle", Met Mangle) ∷ (codes "raw", Raw) ∷ (codes "security", Security) ∷ []

-- the table of this name
unfoldable pub section_named : List ℕ → Option Section
section_named name = named_in sections name

abbrev pub is_section : Section → Section → Bool
is_section (Met a) (Met b) = is_table a b
is_section Raw Raw = true
is_section Security Security = true
is_section _ _ = false

abbrev pub is_hook : Hook → Hook → Bool
is_hook Prerouting Prerouting = true
is_hook Input Input = true
is_hook Forward Forward = true
is_hook Output Output = true
is_hook Postrouting Postrouting = true
is_hook _ _ = false

-- no word stands behind
abbrev pub alone : List Word → IptDraft → Result IptDraft Cause
alone [] d = Ok d
alone (w ∷ ws) d = Err Syntax

abbrev pub opened_at : Section → IptDraft → IptDraft
opened_at section d = record d { opened = d.opened ++ section ∷ []; within = Some section }

-- a table is opened outside a table, and once
abbrev pub opens : Section → List Word → IptDraft → Result IptDraft Cause
opens section ws d =
    if is_some d.within || list_any (is_section section) d.opened then Err Syntax else alone ws (opened_at section d)

-- `*T`, of which this is the name; an unknown table is left out
abbrev pub table_line : List ℕ → List Word → IptDraft → Result IptDraft Cause
table_line name ws d = option_map_or (λ section. opens section ws d) (section_named name) (Err LeftOut)

-- `COMMIT` closes the table
abbrev pub commit_line : List Word → IptDraft → Result IptDraft Cause
commit_line ws d = if is_some d.within then alone ws (record d { within = None }) else Err Syntax

-- Counters

-- a counter of packets or bytes
abbrev pub is_count : List ℕ → Bool
is_count text = is_some (dec_of text (2 ^ 64 - 1))

-- a counter, a closing bracket, and nothing more
abbrev pub closes_counter : List ℕ → Bool
closes_counter text = option_map_or (λ parts. is_count parts.0 && bytes_eq parts.1 []) (split_once 93 text) false

-- two counters with a colon between, up to the closing bracket
abbrev pub are_counters : List ℕ → Bool
are_counters text = option_map_or (λ parts. is_count parts.0 && closes_counter parts.1) (split_once 58 text) false

-- two counters in brackets, as in `[12:720]`
abbrev pub is_counters : List ℕ → Bool
is_counters [] = false
is_counters (c ∷ cs) = nat_eq c 91 && are_counters cs

-- Declarations

-- behind a policy its counters may stand, and nothing else
abbrev pub ends_declaration : List Word → IptDraft → Result IptDraft Cause
ends_declaration [] d = Ok d
ends_declaration (w ∷ ws) d = judged w (if is_counters w.text then alone ws d else Err Syntax)

abbrev pub with_chain : IptTable → List ℕ → Option Bool → IptDraft → IptDraft
with_chain table name policy d = record d { chains = d.chains ++ record { table = table; name = name; policy = policy; rules = [] } ∷ [] }

abbrev pub with_other : Section → Hook → IptDraft → IptDraft
with_other section hook d = record d { others = d.others ++ record { section = section; hook = hook } ∷ [] }

-- a built-in chain of the table
abbrev pub with_builtin : Section → Hook → List ℕ → Bool → IptDraft → IptDraft
with_builtin (Met table) hook name accepts d = with_chain table name (Some accepts) d
with_builtin Raw hook name accepts d = with_other Raw hook d
with_builtin Security hook name accepts d = with_other Security hook d

-- the policy DROP is read in filter and mangle
abbrev pub may_drop : Section → Bool
may_drop (Met Filter) = true
may_drop (Met Nat) = false
may_drop (Met Mangle) = true
may_drop Raw = false
may_drop Security = false

-- policies by their names: whether they accept
abbrev pub policies : List (List ℕ × Bool)
policies = (codes "ACCEPT", true) ∷ (codes "DROP", false) ∷ []

-- whether the policy of this name accepts
unfoldable pub policy_named : List ℕ → Option Bool
policy_named text = named_in policies text

-- the policy of a built-in chain
abbrev pub policy_of : Section → List ℕ → Result Bool Cause
policy_of section text =
    option_map_or (λ accepts. if accepts || may_drop section then Ok accepts else Err LeftOut) (policy_named text) (Err Syntax)

-- behind the name of a built-in chain
abbrev pub builtin_line : Section → Hook → List ℕ → List Word → IptDraft → Result IptDraft Cause
builtin_line section hook name [] d = Err Syntax
builtin_line section hook name (w ∷ ws) d =
    judged w (and_then (policy_of section w.text) (λ accepts. ends_declaration ws (with_builtin section hook name accepts d)))

-- behind the name of a chain of the user's
abbrev pub user_line : IptTable → List ℕ → List Word → IptDraft → Result IptDraft Cause
user_line table name [] d = Err Syntax
user_line table name (w ∷ ws) d =
    judged w (if bytes_eq w.text (codes "-") then ends_declaration ws (with_chain table name None d) else Err Syntax)

-- the chain was declared before
abbrev pub is_declared : Section → Hook → List ℕ → IptDraft → Bool
is_declared (Met table) hook name d = is_some (chain_from 0 table name d.chains)
is_declared section hook name d = list_any (λ other. is_section section other.section && is_hook hook other.hook) d.others

-- a chain of the table at a hook
abbrev pub builtin_declared : Section → Hook → List ℕ → List Word → IptDraft → Result IptDraft Cause
builtin_declared section hook name ws d = if is_declared section hook name d then Err Syntax else builtin_line section hook name ws d

-- a chain of the user's, which has a name and which raw and security don't have
abbrev pub user_declared : Section → List ℕ → List Word → IptDraft → Result IptDraft Cause
user_declared (Met table) name ws d =
    if bytes_eq name [] || is_some (chain_from 0 table name d.chains) then Err Syntax else user_line table name ws d
user_declared section name ws d = if bytes_eq name [] then Err Syntax else Err LeftOut

-- the hook of this name, if the table has a chain there
abbrev pub builtin_hook : Section → List ℕ → Option Hook
builtin_hook section name = option_map_or (λ hook. if section_has section hook then Some hook else None) (hook_named name) None

abbrev pub declared_in : Section → List ℕ → List Word → IptDraft → Result IptDraft Cause
declared_in section name ws d =
    option_map_or (λ hook. builtin_declared section hook name ws d) (builtin_hook section name) (user_declared section name ws d)

-- `:C POLICY`, of which this is the name, within a table
abbrev pub chain_line : List ℕ → List Word → IptDraft → Result IptDraft Cause
chain_line name ws d = option_map_or (λ section. declared_in section name ws d) d.within (Err Syntax)

-- Rules

-- the chains with a rule more at the end of one
abbrev pub with_rule : ℕ → IptRule → List IptChain → List IptChain
with_rule n rule [] = []
with_rule zero rule (chain ∷ chains) = record chain { rules = chain.rules ++ rule ∷ [] } ∷ chains
with_rule (suc n) rule (chain ∷ chains) = chain ∷ with_rule n rule chains

-- the words of a rule behind its chain, which has this number, and this hook if it is built in
abbrev pub rule_line : Site → IptTable → Option Hook → ℕ → List Word → IptDraft → Result IptDraft Cause
rule_line site table hook n ws d =
    and_then (rule_of site table hook d.chains ws) (λ rule. Ok (record d { chains = with_rule n rule d.chains }))

-- the chain of a rule was declared on an earlier line
abbrev pub chain_of_rule : IptTable → List ℕ → IptDraft → Result ℕ Cause
chain_of_rule table name d = ok_or (chain_from 0 table name d.chains) NoName

-- behind `-A` in a table whose chains packets meet
abbrev pub appended_in : Site → IptTable → List Word → IptDraft → Result IptDraft Cause
appended_in site table [] d = Err Syntax
appended_in site table (w ∷ ws) d =
    judged w (and_then (chain_of_rule table w.text d) (λ n. rule_line site table (builtin_hook (Met table) w.text) n ws d))

-- rules of raw and security are left out
abbrev pub appended_to : Site → Section → List Word → IptDraft → Result IptDraft Cause
appended_to site (Met table) ws d = appended_in site table ws d
appended_to site _ ws d = Err LeftOut

-- `-A`, within a table
abbrev pub append_line : Site → List Word → IptDraft → Result IptDraft Cause
append_line site ws d = option_map_or (λ section. appended_to site section ws d) d.within (Err Syntax)

-- a keyword that can't stand here is Syntax, and any other word is left out
abbrev pub out_of_place : List ℕ → Cause
out_of_place text = if is_some (keyword_of text) then Syntax else LeftOut

-- behind counters a rule stands
abbrev pub counted_line : Site → List Word → IptDraft → Result IptDraft Cause
counted_line site [] d = Err Syntax
counted_line site (w ∷ ws) d =
    judged w (if bytes_eq w.text (codes "-A") then append_line site ws d else Err (out_of_place w.text))

-- `[p:b]` before a rule, within a table
abbrev pub counters_line : Site → List ℕ → List Word → IptDraft → Result IptDraft Cause
counters_line site text ws d = if is_some d.within && is_counters text then counted_line site ws d else Err Syntax

-- Lines

-- what stands behind a first byte
abbrev pub behind : ℕ → List ℕ → Option (List ℕ)
behind byte [] = None
behind byte (c ∷ cs) = if nat_eq c byte then Some cs else None

-- a line that begins with a word
abbrev pub word_line : Site → List ℕ → List Word → IptDraft → Result IptDraft Cause
word_line site text ws d =
    if bytes_eq text (codes "-A") then append_line site ws d
    else if bytes_eq text (codes "COMMIT") then commit_line ws d
    else if is_some (behind 91 text) then counters_line site text ws d
    else Err (out_of_place text)

-- a line by its first word
abbrev pub first_step : Site → List ℕ → List Word → IptDraft → Result IptDraft Cause
first_step site text ws d =
    option_map_or (λ name. table_line name ws d) (behind 42 text)
    (option_map_or (λ name. chain_line name ws d) (behind 58 text) (word_line site text ws d))

abbrev pub words_step : Site → List Word → IptDraft → Result IptDraft Cause
words_step site [] d = Ok d
words_step site (w ∷ ws) d = judged w (first_step site w.text ws d)

-- a line of the text, after those before it
abbrev pub line_step : Site → IptDraft → Line → Result IptDraft Cause
line_step site d line = words_step site line.words d

-- a text before its first line
abbrev pub fresh_text : IptDraft
fresh_text = record { opened = []; within = None; chains = []; others = [] }

-- a text doesn't end within a table
abbrev pub ended : IptDraft → Result IptConfig Cause
ended d = if is_some d.within then Err Syntax else Ok (record { chains = d.chains })

-- the configuration that a text spells on a site
abbrev pub spelled : Site → List ℕ → Result IptConfig (Refusal Cause)
spelled site text = text_read HashLine (line_step site) ended fresh_text text
