-- What a rule does, word by word, fits its table.
use Rattle.std.proofs.Common.{◌≡◌, ℕ, Bool, true, false, cond, ◌&&◌, ◌||◌, not, Option, Some, None, is_some, Result, Ok, Err, List, [], ◌∷◌, ◌++◌, codes, bytes_eq, ok_or, IfOk, refl, ap, sym, ◌∙◌}
use Rattle.std.proofs.lemmas.Bool.{false≢true, and_parts, or_parts, or_right}
use Rattle.std.specs.List.{list_all, list_any}
use Rattle.std.specs.Option.{option_map_or}
use Rattle.fws_num.specs.declared.prefix.Prefix.{Prefix}
use Rattle.fws_num.specs.declared.word.Word.{Word}
use Rattle.fws_num.specs.Numbers.{prefix_of}
use Rattle.fws_net.specs.declared.cause.Cause.{Cause}
use Rattle.fws_net.specs.declared.cause.Cause.TheVariants.{Syntax, LeftOut}
use Rattle.fws_net.specs.declared.site.Site.{Site}
use Rattle.fws_net.specs.Ends.{host_end}
use Rattle.fws_net.specs.Causes.{checked, words_read}
use Rattle.fws_net.specs.Reading.{and_then}
use Rattle.fws_rules.specs.Literals.{literals}
use Rattle.fws_ipt.specs.declared.config.IptTable.{IptTable}
use Rattle.fws_ipt.specs.declared.config.IptTable.TheVariants.{Filter, Nat, Mangle}
use Rattle.fws_ipt.specs.declared.config.IptGo.{IptGo}
use Rattle.fws_ipt.specs.declared.config.IptGo.TheVariants as acts
use Rattle.fws_ipt.specs.declared.config.IptRule.{IptRule}
use Rattle.fws_ipt.specs.declared.config.IptChain.{IptChain}
use Rattle.fws_ipt.specs.declared.hook.Hook.{Hook}
use Rattle.fws_ipt.specs.declared.words.Keyword.{Keyword}
use Rattle.fws_ipt.specs.declared.words.Keyword.TheVariants as keywords
use Rattle.fws_ipt.specs.declared.words.TestOption.{TestOption}
use Rattle.fws_ipt.specs.declared.words.TestOption.TheVariants as tests
use Rattle.fws_ipt.specs.declared.words.TargetOption.{TargetOption}
use Rattle.fws_ipt.specs.declared.words.TargetOption.TheVariants as options
use Rattle.fws_ipt.specs.declared.words.TargetWord.{TargetWord}
use Rattle.fws_ipt.specs.declared.words.TargetWord.TheVariants as targets
use Rattle.fws_ipt.specs.declared.draft.Expects.{Expects}
use Rattle.fws_ipt.specs.declared.draft.Expects.TheVariants as expect
use Rattle.fws_ipt.specs.declared.draft.RuleDraft.{RuleDraft}
use Rattle.fws_ipt.specs.Options.{keyword_of, is_module, target_word, is_left_out_target, belongs, needs_option}
use Rattle.fws_ipt.specs.RuleText.{fresh_rule, closed, limited, once, noted, with_literals, test_begun, test_step, with_source, with_destination, with_protocol, compared_step, value_step, first_act, with_target, user_chain, other_target, target_step, goto_step, is_written, is_bare, behind_option, fits_target, option_step, target_value_step, target_begun, keyword_step, is_target_option, known_step, any_step, negated_keyword, module_step, expected_step, rule_step, is_complete, is_misplaced, logs, is_loose, rule_checks, rule_made, rule_of}
use Rattle.fws_ipt.specs.Values.{meaning_of, protocol_value, flags_of, xmark_value, set_mark_value, place_of, to_port, network_of}
use Rattle.fws_ipt.specs.Soundness.{is_user_chain, fits, is_named}
use Rattle.fws_ipt.specs.Walk.{is_table}
use Rattle.fws_ipt.proofs.Outcomes.{then_holds, then_known, either_holds, found_holds, checked_holds, words_hold}
use Rattle.fws_ipt.proofs.Users.{user_found}

-- What holds of a rule so far

-- what a rule does fits, unless its target is left out in this table
abbrev pub may_act : IptTable → List IptChain → Option TargetWord → IptGo → Bool
may_act table chains target go = option_map_or (is_misplaced table) target false || fits table chains go

-- where the value of an option comes next, the target is the option's
abbrev pub is_owned : Expects → Option TargetWord → Bool
is_owned (expect.TargetValue option) target = option_map_or (belongs option) target false
is_owned _ target = true

pub record Fitting (table : IptTable) (chains : List IptChain) (d : RuleDraft) : Type 0 where
  pub act : may_act table chains d.target d.go ≡ true
  pub owned : is_owned d.expects d.target ≡ true

-- Targets and their acts

owner : TargetOption → TargetWord
owner options.RejectWith = targets.Reject
owner options.LogPrefix = targets.Log
owner options.LogLevel = targets.Log
owner options.LogTcpSequence = targets.Log
owner options.LogTcpOptions = targets.Log
owner options.LogIpOptions = targets.Log
owner options.LogUid = targets.Log
owner options.NflogGroup = targets.Nflog
owner options.NflogPrefix = targets.Nflog
owner options.SetXmark = targets.Mark
owner options.SetMark = targets.Mark
owner options.ToSource = targets.Source
owner options.ToDestination = targets.Destination
owner options.ToPorts = targets.Redirect
owner options.ToNetwork = targets.Netmap

belongs_owner : (option : TargetOption) (target : TargetWord) → belongs option target ≡ true → target ≡ owner option
unfolding owner
belongs_owner options.RejectWith targets.Reject h = refl
belongs_owner options.LogPrefix targets.Log h = refl
belongs_owner options.LogLevel targets.Log h = refl
belongs_owner options.LogTcpSequence targets.Log h = refl
belongs_owner options.LogTcpOptions targets.Log h = refl
belongs_owner options.LogIpOptions targets.Log h = refl
belongs_owner options.LogUid targets.Log h = refl
belongs_owner options.NflogGroup targets.Nflog h = refl
belongs_owner options.NflogPrefix targets.Nflog h = refl
belongs_owner options.SetXmark targets.Mark h = refl
belongs_owner options.SetMark targets.Mark h = refl
belongs_owner options.ToSource targets.Source h = refl
belongs_owner options.ToDestination targets.Destination h = refl
belongs_owner options.ToPorts targets.Redirect h = refl
belongs_owner options.ToNetwork targets.Netmap h = refl
belongs_owner _ _ h = absurd (false≢true h)

owned_target : (option : TargetOption) (target : Option TargetWord) → option_map_or (belongs option) target false ≡ true → target ≡ Some (owner option)
owned_target option None h = absurd (false≢true h)
owned_target option (Some target) h = ap Some (belongs_owner option target h)

mark_placed : (table : IptTable) → (is_misplaced table targets.Mark || is_table Mangle table) ≡ true
mark_placed Filter = refl
mark_placed _ = refl

source_placed : (table : IptTable) → (is_misplaced table targets.Source || is_table Nat table) ≡ true
source_placed Filter = refl
source_placed _ = refl

destination_placed : (table : IptTable) → (is_misplaced table targets.Destination || is_table Nat table) ≡ true
destination_placed Filter = refl
destination_placed _ = refl

redirect_placed : (table : IptTable) → (is_misplaced table targets.Redirect || is_table Nat table) ≡ true
redirect_placed Filter = refl
redirect_placed _ = refl

network_placed : (table : IptTable) → (is_misplaced table targets.Netmap || is_table Nat table) ≡ true
network_placed Filter = refl
network_placed _ = refl

-- an act behind the option of its target
placed : (table : IptTable) (chains : List IptChain) (target : Option TargetWord) (named : TargetWord) (go : IptGo) → target ≡ Some named
    → (is_misplaced table named || fits table chains go) ≡ true → may_act table chains target go ≡ true
placed table chains target named go e h = ap (λ t. may_act table chains t go) e ∙ h

first_placed : (table : IptTable) (chains : List IptChain) (target : TargetWord) → may_act table chains (Some target) (first_act target) ≡ true
first_placed Filter chains targets.Masquerade = refl
first_placed Nat chains targets.Drop = refl
first_placed Mangle chains targets.Masquerade = refl
first_placed _ chains _ = refl

-- Steps of options

once_at : (P : RuleDraft → Type 0) (b : Bool) (e : RuleDraft) (f : RuleDraft → Result RuleDraft Cause) → IfOk (f e) P → IfOk (and_then (cond b (Err Syntax) (Ok e)) f) P
once_at P true e f h = tt
once_at P false e f h = h

pub once_holds : (P : RuleDraft → Type 0) (text : List ℕ) (d : RuleDraft) (f : RuleDraft → Result RuleDraft Cause) → IfOk (f (record d { given = d.given ++ text ∷ [] })) P
    → IfOk (and_then (once text d) f) P
once_holds P text d f h = once_at P (list_any (bytes_eq text) d.given) (record d { given = d.given ++ text ∷ [] }) f h

test_begun_fits : (table : IptTable) (chains : List IptChain) (negated : Bool) (option : TestOption) (d : RuleDraft) → may_act table chains d.target d.go ≡ true
    → Fitting table chains (test_begun negated option d)
test_begun_fits table chains negated tests.Syn d h = record { act = h; owned = refl }
test_begun_fits table chains negated _ d h = record { act = h; owned = refl }

test_fits : (table : IptTable) (chains : List IptChain) (negated : Bool) (text : List ℕ) (option : TestOption) (d : RuleDraft) → Fitting table chains d
    → IfOk (test_step negated text option d) (Fitting table chains)
test_fits table chains negated text option d h =
    once_holds (Fitting table chains) text d (λ e. Ok (test_begun negated option (noted option (closed e))))
    (test_begun_fits table chains negated option (noted option (closed (record d { given = d.given ++ text ∷ [] }))) h.act)

-- what is owned is, whatever stands beside
fits_target-owned : (option : TargetOption) (is_open : Bool) (target : Option TargetWord) (owes : Bool)
    → (is_open && option_map_or (λ t. belongs option t && (owes || not (needs_option t))) target false) ≡ true → option_map_or (belongs option) target false ≡ true
fits_target-owned option is_open None owes h = (and_parts is_open false h).1
fits_target-owned option is_open (Some t) owes h = (and_parts (belongs option t) (owes || not (needs_option t)) (and_parts is_open (belongs option t && (owes || not (needs_option t))) h).1).0

behind_owned : (bare written : Bool) (option : TargetOption) (target : Option TargetWord) → option_map_or (belongs option) target false ≡ true
    → is_owned (cond bare expect.Keyword (cond written (expect.TargetValue option) expect.Unused)) target ≡ true
behind_owned true written option target h = refl
behind_owned false true option target h = h
behind_owned false false option target h = refl

option_fits : (table : IptTable) (chains : List IptChain) (text : List ℕ) (option : TargetOption) (d : RuleDraft) → Fitting table chains d
    → IfOk (option_step text option d) (Fitting table chains)
option_fits table chains text option d h =
    let next : RuleDraft → Result RuleDraft Cause = λ e. Ok (record e { expects = behind_option option; owes = false }) in
    either_holds (Fitting table chains) (fits_target option d) (and_then (once text d) next) (Err Syntax)
    (λ e. once_holds (Fitting table chains) text d next
    (record { act = h.act; owned = behind_owned (is_bare option) (is_written option) option d.target (fits_target-owned option d.is_open d.target d.owes e) }))
    (λ e. tt)

-- Values of options

protocol_kept : (table : IptTable) (chains : List IptChain) (negated : Bool) (protocol : Option ℕ) (d : RuleDraft) → may_act table chains d.target d.go ≡ true
    → may_act table chains (with_protocol negated protocol d).target (with_protocol negated protocol d).go ≡ true
protocol_kept table chains true protocol d h = h
protocol_kept table chains false protocol d h = h

source_kept : (table : IptTable) (chains : List IptChain) (negated : Bool) (net : Prefix) (d : RuleDraft) → may_act table chains d.target d.go ≡ true
    → may_act table chains (with_source negated net d).target (with_source negated net d).go ≡ true
source_kept table chains true net d h = h
source_kept table chains false net d h = h

destination_kept : (table : IptTable) (chains : List IptChain) (negated : Bool) (net : Prefix) (d : RuleDraft) → may_act table chains d.target d.go ≡ true
    → may_act table chains (with_destination negated net d).target (with_destination negated net d).go ≡ true
destination_kept table chains true net d h = h
destination_kept table chains false net d h = h

value_fits : (site : Site) (table : IptTable) (chains : List IptChain) (option : TestOption) (negated : Bool) (text : List ℕ) (d : RuleDraft) → Fitting table chains d
    → IfOk (value_step site option negated text d) (Fitting table chains)
value_fits site table chains tests.Source negated text d h =
    then_holds (Fitting table chains) (ok_or (prefix_of text) Syntax) _ (λ net. record { act = source_kept table chains negated net d h.act; owned = refl })
value_fits site table chains tests.Destination negated text d h =
    then_holds (Fitting table chains) (ok_or (prefix_of text) Syntax) _ (λ net. record { act = destination_kept table chains negated net d h.act; owned = refl })
value_fits site table chains tests.Protocol negated text d h =
    then_holds (Fitting table chains) (protocol_value text) _ (λ protocol. record { act = protocol_kept table chains negated protocol d h.act; owned = refl })
value_fits site table chains tests.TcpFlags negated text d h =
    then_holds (Fitting table chains) (ok_or (flags_of text) Syntax) _ (λ mask. record { act = h.act; owned = refl })
value_fits site table chains option negated text d h =
    then_holds (Fitting table chains) (meaning_of site option text) (λ lit. Ok (with_literals (literals negated lit) d)) (λ lit. record { act = h.act; owned = refl })

compared_fits : (table : IptTable) (chains : List IptChain) (mask : ℕ) (negated : Bool) (text : List ℕ) (d : RuleDraft) → Fitting table chains d
    → IfOk (compared_step mask negated text d) (Fitting table chains)
compared_fits table chains mask negated text d h = then_holds (Fitting table chains) (ok_or (flags_of text) Syntax) _ (λ want. record { act = h.act; owned = refl })

target_value_fits : (table : IptTable) (chains : List IptChain) (option : TargetOption) (text : List ℕ) (d : RuleDraft) → Fitting table chains d
    → option_map_or (belongs option) d.target false ≡ true → IfOk (target_value_step option text d) (Fitting table chains)
unfolding owner
target_value_fits table chains options.SetXmark text d h own =
    then_holds (Fitting table chains) (xmark_value text) _
    (λ v. record { act = placed table chains d.target targets.Mark (acts.Mark v) (owned_target options.SetXmark d.target own) (mark_placed table); owned = refl })
target_value_fits table chains options.SetMark text d h own =
    then_holds (Fitting table chains) (set_mark_value text) _
    (λ v. record { act = placed table chains d.target targets.Mark (acts.Mark v) (owned_target options.SetMark d.target own) (mark_placed table); owned = refl })
target_value_fits table chains options.ToSource text d h own =
    then_holds (Fitting table chains) (place_of text) _
    (λ end. record { act = placed table chains d.target targets.Source (acts.Source (host_end end.0 end.1)) (owned_target options.ToSource d.target own) (source_placed table); owned = refl })
target_value_fits table chains options.ToDestination text d h own =
    then_holds (Fitting table chains) (place_of text) _
    (λ end. record { act = placed table chains d.target targets.Destination (acts.Dest (host_end end.0 end.1)) (owned_target options.ToDestination d.target own) (destination_placed table); owned = refl })
target_value_fits table chains options.ToPorts text d h own =
    then_holds (Fitting table chains) (to_port text) _
    (λ port. record { act = placed table chains d.target targets.Redirect (acts.Redirect (Some port)) (owned_target options.ToPorts d.target own) (redirect_placed table); owned = refl })
target_value_fits table chains options.ToNetwork text d h own =
    then_holds (Fitting table chains) (network_of text) _
    (λ net. record { act = placed table chains d.target targets.Netmap (acts.Netmap net) (owned_target options.ToNetwork d.target own) (network_placed table); owned = refl })
target_value_fits table chains _ text d h own = record { act = h.act; owned = refl }

-- Targets

target_fits : (table : IptTable) (chains : List IptChain) (text : List ℕ) (d : RuleDraft) → list_all is_named chains ≡ true
    → IfOk (target_step table chains text d) (Fitting table chains)
target_fits table chains text d named =
    found_holds (Fitting table chains) (target_word text) (λ target. Ok (with_target target (first_act target) d)) (other_target table chains text d)
    (λ target e. record { act = first_placed table chains target; owned = refl })
    (either_holds (Fitting table chains) (is_left_out_target text) (Err LeftOut) (and_then (user_chain table chains text) (λ c. Ok (with_target targets.Chain (acts.Jump c) d))) (λ e. tt)
    (λ e. then_known (λ c. is_user_chain table chains c ≡ true) (Fitting table chains) (user_chain table chains text) (λ c. Ok (with_target targets.Chain (acts.Jump c) d))
    (user_found table chains text named)
    (λ c k. record { act = or_right (is_misplaced table targets.Chain) (is_user_chain table chains c) k; owned = refl })))

goto_fits : (table : IptTable) (chains : List IptChain) (text : List ℕ) (d : RuleDraft) → list_all is_named chains ≡ true
    → IfOk (goto_step table chains text d) (Fitting table chains)
goto_fits table chains text d named =
    then_known (λ c. is_user_chain table chains c ≡ true) (Fitting table chains) (user_chain table chains text) (λ c. Ok (with_target targets.Chain (acts.Goto c) d))
    (user_found table chains text named)
    (λ c k. record { act = or_right (is_misplaced table targets.Chain) (is_user_chain table chains c) k; owned = refl })

-- Words

begun_fits : (table : IptTable) (chains : List IptChain) (next : Expects) (d : RuleDraft) → is_owned next d.target ≡ true → Fitting table chains d
    → IfOk (target_begun next d) (Fitting table chains)
begun_fits table chains next d own h =
    either_holds (Fitting table chains) (is_some d.target) (Err Syntax) (Ok (record d { expects = next })) (λ e. tt) (λ e. record { act = h.act; owned = own })

keyword_fits : (table : IptTable) (chains : List IptChain) (text : List ℕ) (keyword : Keyword) (d : RuleDraft) → Fitting table chains d
    → IfOk (keyword_step text keyword d) (Fitting table chains)
keyword_fits table chains text keywords.Not d h = record { act = h.act; owned = refl }
keyword_fits table chains text keywords.Match d h = record { act = h.act; owned = refl }
keyword_fits table chains text keywords.Jump d h = begun_fits table chains expect.Target d refl h
keyword_fits table chains text keywords.Goto d h = begun_fits table chains expect.Chain d refl h
keyword_fits table chains text keywords.Comment d h = once_holds (Fitting table chains) text d _ (record { act = h.act; owned = refl })
keyword_fits table chains text keywords.Limit d h = once_holds (Fitting table chains) text d _ (record { act = h.act; owned = refl })
keyword_fits table chains text keywords.Line d h = tt
keyword_fits table chains text (keywords.Test option) d h = test_fits table chains false text option d h
keyword_fits table chains text (keywords.Target option) d h = option_fits table chains text option d h

any_fits : (table : IptTable) (chains : List IptChain) (text : List ℕ) (d : RuleDraft) → Fitting table chains d → IfOk (any_step text d) (Fitting table chains)
any_fits table chains text d h =
    found_holds (Fitting table chains) (keyword_of text) (λ keyword. known_step text keyword d) (Err LeftOut)
    (λ keyword e. either_holds (Fitting table chains) (d.owes && not (is_target_option keyword)) (Err Syntax) (keyword_step text keyword d) (λ k. tt)
    (λ k. keyword_fits table chains text keyword d h)) tt

negated_fits : (table : IptTable) (chains : List IptChain) (text : List ℕ) (keyword : Keyword) (d : RuleDraft) → Fitting table chains d
    → IfOk (negated_keyword text keyword d) (Fitting table chains)
negated_fits table chains text (keywords.Test option) d h = test_fits table chains true text option d h
negated_fits table chains text _ d h = tt

module_fits : (table : IptTable) (chains : List IptChain) (text : List ℕ) (d : RuleDraft) → Fitting table chains d → IfOk (module_step text d) (Fitting table chains)
module_fits table chains text d h =
    either_holds (Fitting table chains) (not (is_module text)) (Err LeftOut) _ (λ e. tt)
    (λ e. either_holds (Fitting table chains) (bytes_eq text (codes "limit")) (Ok (record (limited d) { expects = expect.Keyword })) (Ok (record d { expects = expect.Keyword }))
    (λ k. record { act = h.act; owned = refl }) (λ k. record { act = h.act; owned = refl }))

expected_fits : (site : Site) (table : IptTable) (chains : List IptChain) (expects : Expects) (text : List ℕ) (d : RuleDraft) → list_all is_named chains ≡ true
    → is_owned expects d.target ≡ true → Fitting table chains d → IfOk (expected_step site table chains expects text d) (Fitting table chains)
expected_fits site table chains expect.Keyword text d named own h = any_fits table chains text d h
expected_fits site table chains expect.Negated text d named own h =
    found_holds (Fitting table chains) (keyword_of text) (λ keyword. negated_keyword text keyword d) (Err LeftOut) (λ keyword e. negated_fits table chains text keyword d h) tt
expected_fits site table chains (expect.Value option negated) text d named own h = value_fits site table chains option negated text d h
expected_fits site table chains (expect.Compared mask negated) text d named own h = compared_fits table chains mask negated text d h
expected_fits site table chains expect.Module text d named own h = module_fits table chains text d h
expected_fits site table chains expect.Unused text d named own h = record { act = h.act; owned = refl }
expected_fits site table chains expect.Target text d named own h = target_fits table chains text d named
expected_fits site table chains expect.Chain text d named own h = goto_fits table chains text d named
expected_fits site table chains (expect.TargetValue option) text d named own h = target_value_fits table chains option text d h own

-- The whole rule

placed_fits : (misplaced fitting : Bool) → (misplaced || fitting) ≡ true → misplaced ≡ false → fitting ≡ true
placed_fits true fitting h e = absurd (false≢true (sym e))
placed_fits false fitting h e = h

made_fits : (table : IptTable) (hook : Option Hook) (chains : List IptChain) (d : RuleDraft) → Fitting table chains d
    → IfOk (rule_made table hook d) (λ rule. fits table chains rule.go ≡ true)
made_fits table hook chains d h =
    let P : IptRule → Type 0 = λ rule. fits table chains rule.go ≡ true in
    let misplaced = option_map_or (is_misplaced table) d.target false in
    let loose = is_loose hook d d.go in
    either_holds P (is_complete d) (checked (rule_checks table hook d) (record { cond = d.cond; go = d.go })) (Err Syntax)
    (λ e. checked_holds P (rule_checks table hook d) (record { cond = d.cond; go = d.go })
    (λ k. placed_fits misplaced (fits table chains d.go) h.act
    (or_parts misplaced loose (or_parts (misplaced || loose) (d.is_limited && not (option_map_or logs d.target false)) k).0).0))
    (λ e. tt)

-- a rule that is read in a table fits there
pub rule_fits : (site : Site) (table : IptTable) (hook : Option Hook) (chains : List IptChain) (ws : List Word) → list_all is_named chains ≡ true
    → IfOk (rule_of site table hook chains ws) (λ rule. fits table chains rule.go ≡ true)
rule_fits site table hook chains ws named =
    then_known (Fitting table chains) (λ rule. fits table chains rule.go ≡ true) (words_read (rule_step site table chains) fresh_rule ws) (rule_made table hook)
    (words_hold (Fitting table chains) (rule_step site table chains) (λ d w h. expected_fits site table chains d.expects w.text d named h.owned h) fresh_rule ws
    (record { act = refl; owned = refl }))
    (made_fits table hook chains)
