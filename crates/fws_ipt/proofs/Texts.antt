-- What holds of a text, line by line.
use Rattle.std.proofs.Common.{◌≡◌, ℕ, Bool, true, false, ◌&&◌, ◌||◌, cond, Option, Some, None, is_some, is_none, Ok, Err, List, [], ◌∷◌, codes, bytes_eq, if◌then◌else◌, IfOk, refl, ap}
use Rattle.std.proofs.lemmas.Bool.{false≢true, and_parts, and_from, or_parts}
use Rattle.std.proofs.lemmas.Result.{IfOk-at_ok}
use Rattle.std.specs.List.{list_all}
use Rattle.std.specs.Option.{option_map_or}
use Rattle.fws_num.specs.declared.comments.Comments.TheVariants.{HashLine}
use Rattle.fws_num.specs.declared.word.Word.{Word}
use Rattle.fws_num.specs.Lines.{read_of}
use Rattle.fws_net.specs.declared.cause.Cause.TheVariants.{Syntax, LeftOut, NoName}
use Rattle.fws_net.specs.declared.condition.Lit.{Lit}
use Rattle.fws_net.specs.declared.site.Site.{Site}
use Rattle.fws_net.specs.Reading.{located, lines_read}
use Rattle.fws_ipt.specs.declared.config.IptTable.{IptTable}
use Rattle.fws_ipt.specs.declared.config.IptTable.TheVariants.{Nat}
use Rattle.fws_ipt.specs.declared.config.IptGo.{IptGo}
use Rattle.fws_ipt.specs.declared.config.IptGo.TheVariants as acts
use Rattle.fws_ipt.specs.declared.config.IptRule.{IptRule}
use Rattle.fws_ipt.specs.declared.config.IptChain.{IptChain}
use Rattle.fws_ipt.specs.declared.config.IptConfig.{IptConfig}
use Rattle.fws_ipt.specs.declared.hook.Hook.{Hook}
use Rattle.fws_ipt.specs.declared.draft.Section.{Section}
use Rattle.fws_ipt.specs.declared.draft.Section.TheVariants.{Met, Raw, Security}
use Rattle.fws_ipt.specs.declared.draft.IptDraft.{IptDraft}
use Rattle.fws_ipt.specs.FileText.{section_named, alone, opened_at, opens, table_line, commit_line, is_counters, ends_declaration, with_chain, with_builtin, policy_of, builtin_line, user_line, is_declared, builtin_declared, user_declared, builtin_hook, declared_in, chain_line, with_rule, rule_line, chain_of_rule, appended_in, appended_to, append_line, out_of_place, counted_line, counters_line, behind, word_line, first_step, words_step, line_step, fresh_text, ended, spelled}
use Rattle.fws_ipt.specs.Hooks.{hook_named, has_hook}
use Rattle.fws_ipt.specs.RuleText.{is_chain, chain_from, rule_of}
use Rattle.fws_ipt.specs.Soundness.{fits, chain_fits, is_fitting, SpelledFits, is_named, are_apart, SpelledChains}
use Rattle.fws_ipt.specs.Spelled.{is_spelled_rule, SpelledConditions, names_block, is_network, maps_named, SpelledNetworks}
use Rattle.fws_ipt.specs.Walk.{is_table}
use Rattle.fws_ipt.proofs.Apart.{unseen, longer_apart, ruled_apart}
use Rattle.fws_ipt.proofs.Drafts.{rule_fits}
use Rattle.fws_ipt.proofs.Outcomes.{then_holds, then_known, either_holds, both_hold, sought_holds, found_holds, ok_or_holds, judged_holds, located_holds, lines_hold}
use Rattle.fws_ipt.proofs.Told.{is_told, maps_at, rule_is_told}
use Rattle.fws_ipt.proofs.Users.{is_at, all_weaker, both_pass, chain_found, longer_fits, longer_named, longer_passes, rules_pass, ruled_fits, ruled_named, ruled_passes}

-- what is known of a rule by its chain's table and name
abbrev tells : IptTable → List ℕ → IptRule → Bool
tells table name rule = is_told (builtin_hook (Met table) name) rule

-- what holds of a text so far
record Standing (d : IptDraft) : Type 0 where
  named : list_all is_named d.chains ≡ true
  apart : are_apart d.chains ≡ true
  fitting : list_all (chain_fits d.chains) d.chains ≡ true
  told : list_all (rules_pass tells) d.chains ≡ true

-- what holds of a text that was read
record Stood (c : IptConfig) : Type 0 where
  all_named : list_all is_named c.chains ≡ true
  all_apart : are_apart c.chains ≡ true
  all_fit : is_fitting c ≡ true
  all_told : list_all (rules_pass tells) c.chains ≡ true

-- Tables

alone_stands : (ws : List Word) (d : IptDraft) → Standing d → IfOk (alone ws d) Standing
alone_stands [] d h = h
alone_stands (w ∷ ws) d h = tt

table_stands : (name : List ℕ) (ws : List Word) (d : IptDraft) → Standing d → IfOk (table_line name ws d) Standing
table_stands name ws d h =
    found_holds Standing (section_named name) (λ section. opens section ws d) (Err LeftOut)
    (λ section e. either_holds Standing _ (Err Syntax) (alone ws (opened_at section d)) (λ k. tt)
    (λ k. alone_stands ws (opened_at section d) (record { named = h.named; apart = h.apart; fitting = h.fitting; told = h.told }))) tt

commit_stands : (ws : List Word) (d : IptDraft) → Standing d → IfOk (commit_line ws d) Standing
commit_stands ws d h =
    let after : IptDraft = record d { within = None } in
    either_holds Standing (is_some d.within) (alone ws after) (Err Syntax) (λ e. alone_stands ws after (record { named = h.named; apart = h.apart; fitting = h.fitting; told = h.told })) (λ e. tt)

-- Declarations

ends_stands : (ws : List Word) (d : IptDraft) → Standing d → IfOk (ends_declaration ws d) Standing
ends_stands [] d h = h
ends_stands (w ∷ ws) d h =
    judged_holds Standing w _ (either_holds Standing (is_counters w.text) (alone ws d) (Err Syntax) (λ e. alone_stands ws d h) (λ e. tt))

with_chain_stands : (table : IptTable) (name : List ℕ) (policy : Option Bool) (d : IptDraft) → is_named (record { table = table; name = name; policy = policy; rules = [] }) ≡ true
    → is_some (chain_from 0 table name d.chains) ≡ false → Standing d → Standing (with_chain table name policy d)
with_chain_stands table name policy d here new h =
    let chain : IptChain = record { table = table; name = name; policy = policy; rules = [] } in
    record {
      named = longer_named d.chains chain here h.named;
      apart = longer_apart d.chains chain (unseen 0 table name d.chains new) h.apart;
      fitting = longer_fits d.chains chain refl h.fitting;
      told = longer_passes tells d.chains chain refl h.told;
    }

-- a hook that was found names a built-in chain
taken : (b : Bool) (x y : Hook) → (if b then Some x else None) ≡ Some y → b ≡ true
taken true x y h = refl
taken false x y h = cc

hook_found : (table : IptTable) (o : Option Hook) (hook : Hook) → option_map_or (λ x. if has_hook table x then Some x else None) o None ≡ Some hook
    → option_map_or (has_hook table) o false ≡ true
hook_found table None hook h = cc
hook_found table (Some found) hook h = taken (has_hook table found) found hook h

-- a name without a hook is no built-in chain's
untaken : (b : Bool) (x : Hook) → (if b then Some x else None) ≡ None → b ≡ false
untaken true x h = cc
untaken false x h = refl

no_hook : (table : IptTable) (o : Option Hook) → option_map_or (λ x. if has_hook table x then Some x else None) o None ≡ None → option_map_or (has_hook table) o false ≡ false
no_hook table None h = refl
no_hook table (Some found) h = untaken (has_hook table found) found h

with_builtin_stands : (section : Section) (hook : Hook) (name : List ℕ) (accepts : Bool) (d : IptDraft) → builtin_hook section name ≡ Some hook
    → is_declared section hook name d ≡ false → Standing d → Standing (with_builtin section hook name accepts d)
with_builtin_stands (Met table) hook name accepts d e new h =
    with_chain_stands table name (Some accepts) d (ap (λ b. cond b true false) (hook_found table (hook_named name) hook e)) new h
with_builtin_stands Raw hook name accepts d e new h = record { named = h.named; apart = h.apart; fitting = h.fitting; told = h.told }
with_builtin_stands Security hook name accepts d e new h = record { named = h.named; apart = h.apart; fitting = h.fitting; told = h.told }

builtin_stands : (section : Section) (hook : Hook) (name : List ℕ) (ws : List Word) (d : IptDraft) → builtin_hook section name ≡ Some hook
    → is_declared section hook name d ≡ false → Standing d → IfOk (builtin_line section hook name ws d) Standing
builtin_stands section hook name [] d e new h = tt
builtin_stands section hook name (w ∷ ws) d e new h =
    judged_holds Standing w _ (then_holds Standing (policy_of section w.text) (λ accepts. ends_declaration ws (with_builtin section hook name accepts d))
    (λ accepts. ends_stands ws (with_builtin section hook name accepts d) (with_builtin_stands section hook name accepts d e new h)))

user_stands : (table : IptTable) (name : List ℕ) (ws : List Word) (d : IptDraft) → builtin_hook (Met table) name ≡ None → is_some (chain_from 0 table name d.chains) ≡ false → Standing d
    → IfOk (user_line table name ws d) Standing
user_stands table name [] d e new h = tt
user_stands table name (w ∷ ws) d e new h =
    judged_holds Standing w _ (either_holds Standing (bytes_eq w.text (codes "-")) (ends_declaration ws (with_chain table name None d)) (Err Syntax)
    (λ k. ends_stands ws (with_chain table name None d) (with_chain_stands table name None d (ap (λ b. cond b false true) (no_hook table (hook_named name) e)) new h)) (λ k. tt))

user_declared_stands : (section : Section) (name : List ℕ) (ws : List Word) (d : IptDraft) → builtin_hook section name ≡ None → Standing d
    → IfOk (user_declared section name ws d) Standing
user_declared_stands (Met table) name ws d e h =
    either_holds Standing (bytes_eq name [] || is_some (chain_from 0 table name d.chains)) (Err Syntax) (user_line table name ws d) (λ k. tt)
    (λ k. user_stands table name ws d e (or_parts (bytes_eq name []) (is_some (chain_from 0 table name d.chains)) k).1 h)
user_declared_stands Raw name ws d e h = either_holds Standing (bytes_eq name []) (Err Syntax) (Err LeftOut) (λ k. tt) (λ k. tt)
user_declared_stands Security name ws d e h = either_holds Standing (bytes_eq name []) (Err Syntax) (Err LeftOut) (λ k. tt) (λ k. tt)

declared_stands : (section : Section) (name : List ℕ) (ws : List Word) (d : IptDraft) → Standing d → IfOk (declared_in section name ws d) Standing
declared_stands section name ws d h =
    sought_holds Standing (builtin_hook section name) (λ hook. builtin_declared section hook name ws d) (user_declared section name ws d)
    (λ hook e. either_holds Standing (is_declared section hook name d) (Err Syntax) (builtin_line section hook name ws d) (λ k. tt)
    (λ k. builtin_stands section hook name ws d e k h))
    (λ e. user_declared_stands section name ws d e h)

chain_stands : (name : List ℕ) (ws : List Word) (d : IptDraft) → Standing d → IfOk (chain_line name ws d) Standing
chain_stands name ws d h =
    found_holds Standing d.within (λ section. declared_in section name ws d) (Err Syntax) (λ section e. declared_stands section name ws d h) tt

-- Rules

rule_stands : (site : Site) (table : IptTable) (name : List ℕ) (n : ℕ) (ws : List Word) (d : IptDraft) → is_at (is_chain table name) d.chains n ≡ true → Standing d
    → IfOk (rule_line site table (builtin_hook (Met table) name) n ws d) Standing
rule_stands site table name n ws d found h =
    let hook = builtin_hook (Met table) name in
    let fit : IptRule → Type 0 = λ rule. fits table d.chains rule.go ≡ true in
    let telling : IptRule → Type 0 = λ rule. is_told hook rule ≡ true in
    then_known (λ rule. fit rule × telling rule) Standing (rule_of site table hook d.chains ws) (λ rule. Ok (record d { chains = with_rule n rule d.chains }))
    (both_hold fit telling (rule_of site table hook d.chains ws) (rule_fits site table hook d.chains ws h.named) (rule_is_told site table hook d.chains ws))
    (λ rule k.
    record {
      named = ruled_named n rule d.chains h.named;
      apart = ruled_apart n rule d.chains h.apart;
      fitting = ruled_fits table name n rule d.chains h.fitting found k.0;
      told = ruled_passes tells table name n rule d.chains h.told found k.1;
    })

appended_stands : (site : Site) (table : IptTable) (ws : List Word) (d : IptDraft) → Standing d → IfOk (appended_in site table ws d) Standing
appended_stands site table [] d h = tt
appended_stands site table (w ∷ ws) d h =
    judged_holds Standing w _ (then_known (λ n. is_at (is_chain table w.text) d.chains n ≡ true) Standing (chain_of_rule table w.text d) (λ n. rule_line site table (builtin_hook (Met table) w.text) n ws d)
    (ok_or_holds (λ n. is_at (is_chain table w.text) d.chains n ≡ true) (chain_from 0 table w.text d.chains) NoName (chain_found table w.text d.chains))
    (λ n found. rule_stands site table w.text n ws d found h))

appended_to_stands : (site : Site) (section : Section) (ws : List Word) (d : IptDraft) → Standing d → IfOk (appended_to site section ws d) Standing
appended_to_stands site (Met table) ws d h = appended_stands site table ws d h
appended_to_stands site _ ws d h = tt

append_stands : (site : Site) (ws : List Word) (d : IptDraft) → Standing d → IfOk (append_line site ws d) Standing
append_stands site ws d h =
    found_holds Standing d.within (λ section. appended_to site section ws d) (Err Syntax) (λ section e. appended_to_stands site section ws d h) tt

counted_stands : (site : Site) (ws : List Word) (d : IptDraft) → Standing d → IfOk (counted_line site ws d) Standing
counted_stands site [] d h = tt
counted_stands site (w ∷ ws) d h =
    judged_holds Standing w _ (either_holds Standing (bytes_eq w.text (codes "-A")) (append_line site ws d) (Err (out_of_place w.text)) (λ e. append_stands site ws d h) (λ e. tt))

counters_stand : (site : Site) (text : List ℕ) (ws : List Word) (d : IptDraft) → Standing d → IfOk (counters_line site text ws d) Standing
counters_stand site text ws d h =
    either_holds Standing (is_some d.within && is_counters text) (counted_line site ws d) (Err Syntax) (λ e. counted_stands site ws d h) (λ e. tt)

-- Lines

word_stands : (site : Site) (text : List ℕ) (ws : List Word) (d : IptDraft) → Standing d → IfOk (word_line site text ws d) Standing
word_stands site text ws d h =
    either_holds Standing (bytes_eq text (codes "-A")) (append_line site ws d) _ (λ e. append_stands site ws d h)
    (λ e. either_holds Standing (bytes_eq text (codes "COMMIT")) (commit_line ws d) _ (λ k. commit_stands ws d h)
    (λ k. either_holds Standing (is_some (behind 91 text)) (counters_line site text ws d) (Err (out_of_place text)) (λ l. counters_stand site text ws d h) (λ l. tt)))

first_stands : (site : Site) (text : List ℕ) (ws : List Word) (d : IptDraft) → Standing d → IfOk (first_step site text ws d) Standing
first_stands site text ws d h =
    found_holds Standing (behind 42 text) (λ name. table_line name ws d) _ (λ name e. table_stands name ws d h)
    (found_holds Standing (behind 58 text) (λ name. chain_line name ws d) (word_line site text ws d) (λ name e. chain_stands name ws d h) (word_stands site text ws d h))

words_stand : (site : Site) (ws : List Word) (d : IptDraft) → Standing d → IfOk (words_step site ws d) Standing
words_stand site [] d h = h
words_stand site (w ∷ ws) d h = judged_holds Standing w (first_step site w.text ws d) (first_stands site w.text ws d h)

-- The whole text

ended_stands : (d : IptDraft) → Standing d → IfOk (ended d) Stood
ended_stands d h =
    either_holds Stood (is_some d.within) (Err Syntax) (Ok (record { chains = d.chains })) (λ e. tt)
    (λ e. record { all_named = h.named; all_apart = h.apart; all_fit = h.fitting; all_told = h.told })

spelled_stands : (site : Site) (text : List ℕ) → IfOk (spelled site text) Stood
spelled_stands site text =
    let lines = read_of HashLine text in
    then_known Standing Stood (lines_read (line_step site) fresh_text lines.lines) (λ d. located lines.past (ended d))
    (lines_hold Standing (line_step site) (λ d l h. words_stand site l.words d h) fresh_text lines.lines (record { named = refl; apart = refl; fitting = refl; told = refl }))
    (λ d h. located_holds Stood lines.past (ended d) (ended_stands d h))

pub spelled_is_fitting : SpelledFits
spelled_is_fitting site text c e = (IfOk-at_ok Stood e (spelled_stands site text)).all_fit

pub chains_are_named : SpelledChains
chains_are_named site text c e = let all = IfOk-at_ok Stood e (spelled_stands site text) in (all.all_named, all.all_apart)

-- Conditions

pub conditions_are_spelled : SpelledConditions
conditions_are_spelled site text c e =
    all_weaker (rules_pass tells) (λ chain. list_all is_spelled_rule chain.rules)
    (λ chain. all_weaker (tells chain.table chain.name) is_spelled_rule
    (λ rule h. (and_parts (is_spelled_rule rule) (maps_at (builtin_hook (Met chain.table) chain.name) rule.cond rule.go) h).0) chain.rules)
    c.chains (IfOk-at_ok Stood e (spelled_stands site text)).all_told

-- Networks

-- a hook that was found for a rule is that of a built-in chain
built_in : (has : Bool) (at : Hook) (policy : Option Bool) (test : Hook → Bool) → cond has (is_some policy) (is_none policy) ≡ true
    → option_map_or test (cond has (Some at) None) false ≡ true → (is_some policy ≡ true) × (test at ≡ true)
built_in true at policy test h k = (h, k)
built_in false at policy test h k = absurd (false≢true k)

hook_of_chain : (table : IptTable) (o : Option Hook) (policy : Option Bool) (test : Hook → Bool) → cond (option_map_or (has_hook table) o false) (is_some policy) (is_none policy) ≡ true
    → option_map_or test (option_map_or (λ at. cond (has_hook table at) (Some at) None) o None) false ≡ true → (is_some policy ≡ true) × (option_map_or test o false ≡ true)
hook_of_chain table None policy test h k = absurd (false≢true k)
hook_of_chain table (Some at) policy test h k = built_in (has_hook table at) at policy test h k

rule_maps : (chains : List IptChain) (chain : IptChain) → is_named chain ≡ true → (c : List Lit) (go : IptGo) → fits chain.table chains go ≡ true
    → maps_at (builtin_hook (Met chain.table) chain.name) c go ≡ true → maps_named chain c go ≡ true
rule_maps chains chain named c (acts.Netmap net) fit told =
    let names : Hook → Bool = λ at. names_block at net.len c in
    let both = and_parts (is_network net) (option_map_or names (builtin_hook (Met chain.table) chain.name) false) told in
    let here = hook_of_chain chain.table (hook_named chain.name) chain.policy names named both.1 in
    and_from (is_table Nat chain.table && is_some chain.policy && is_network net) (option_map_or names (hook_named chain.name) false)
    (and_from (is_table Nat chain.table && is_some chain.policy) (is_network net) (and_from (is_table Nat chain.table) (is_some chain.policy) fit here.0) both.0) here.1
rule_maps chains chain named c _ fit told = refl

pub networks_are_named : SpelledNetworks
networks_are_named site text c e =
    let all = IfOk-at_ok Stood e (spelled_stands site text) in
    let fit_told : IptChain → Bool = λ chain. chain_fits c.chains chain && rules_pass tells chain in
    both_pass is_named fit_told (λ chain. list_all (λ rule. maps_named chain rule.cond rule.go) chain.rules)
    (λ chain named both.
    let parts = and_parts (chain_fits c.chains chain) (rules_pass tells chain) both in
    both_pass (λ rule. fits chain.table c.chains rule.go) (tells chain.table chain.name) (λ rule. maps_named chain rule.cond rule.go)
    (λ rule fit told.
    rule_maps c.chains chain named rule.cond rule.go fit
    (and_parts (is_spelled_rule rule) (maps_at (builtin_hook (Met chain.table) chain.name) rule.cond rule.go) told).1) chain.rules parts.0 parts.1) c.chains all.all_named
    (both_pass (chain_fits c.chains) (rules_pass tells) fit_told (λ chain. and_from (chain_fits c.chains chain) (rules_pass tells chain)) c.chains all.all_fit all.all_told)
