-- The lines of a table are read as its chains and their rules.
use Rattle.std.proofs.Common.{◌≡◌, ◌≢◌, ℕ, suc, ◌+◌, ◌≤◌, Bool, true, false, cond, ◌&&◌, ◌||◌, not, nat_le, slice_get, Option, Some, None, is_some, is_none, ok_or, Ok, Err, List, [], ◌∷◌, ◌++◌, map, length, codes, refl, ap, sym, ◌∙◌, subst, append_assoc, append-nil, inl, inr, arith}
use Rattle.std.proofs.lemmas.Bool.{and_from, and_parts, or_parts, cases_Bool, le-leb, not-true, true≢false}
use Rattle.std.proofs.lemmas.List.Folds.{list_any-append}
use Rattle.std.specs.List.{list_all, list_any}
use Rattle.std.specs.Option.{option_map_or}
use Rattle.fws_num.specs.Words.{plain_word}
use Rattle.fws_num.specs.Written.{is_plain_byte, is_plain}
use Rattle.fws_net.specs.declared.cause.Cause.TheVariants.{Syntax, NoName}
use Rattle.fws_net.specs.declared.site.Site.{Site}
use Rattle.fws_net.specs.SiteLaws.{IsOrderly}
use Rattle.fws_ipt.specs.declared.config.IptTable.{IptTable}
use Rattle.fws_ipt.specs.declared.config.IptTable.TheVariants.{Filter, Nat, Mangle}
use Rattle.fws_ipt.specs.declared.config.IptRule.{IptRule}
use Rattle.fws_ipt.specs.declared.config.IptChain.{IptChain}
use Rattle.fws_ipt.specs.declared.hook.Hook.{Hook}
use Rattle.fws_ipt.specs.declared.draft.IptDraft.{IptDraft}
use Rattle.fws_ipt.specs.declared.draft.Section.{Section}
use Rattle.fws_ipt.specs.declared.draft.Section.TheVariants.{Met}
use Rattle.fws_ipt.specs.FileText.{builtin_declared, builtin_hook, builtin_line, chain_of_rule, declared_in, is_section, policy_named, section_named, user_declared, user_line}
use Rattle.fws_ipt.specs.RuleText.{chain_from, is_builtin_name, rule_of}
use Rattle.fws_ipt.specs.Soundness.{are_apart, is_named}
use Rattle.fws_ipt.specs.Walk.{is_table}
use Rattle.fws_ipt_print.specs.Printable.{are_different, is_printed_act, is_printed_chain, is_printed_literal, is_printed_policy, is_printed_rule, is_chain_name, protocol_leads, shows_receiving}
use Rattle.fws_ipt_print.specs.PrintedText.{chain_line, chain_lines, policy_word, rule_line, rule_lines, rule_words, table_lines, table_word}
use Rattle.fws_ipt_print.proofs.Basics.{if_true, if_false, never, text_some, then_ok}
use Rattle.fws_ipt_print.proofs.Chains.{all_at, all_in, bare, builtin_known, builtin_none, chain_at, chain_new, found_by, from_front, get_split, hooked_by, others, rule_added, ruled, same_bare, same_behind, same_ruled, table_same, SameChains}
use Rattle.fws_ipt_print.proofs.Laws.{Laws}
use Rattle.fws_ipt_print.proofs.TakenLines.{AreTaken, IsTaken, is_line, next_taken, none_taken, taken_append}
use Rattle.fws_ipt_print.proofs.Plain.{plain_from}
use Rattle.fws_ipt_print.proofs.PlainRules.{name_of_chain, rule_plain}
use Rattle.fws_ipt_print.proofs.RulesRead.{rule_read}
use Rattle.fws_ipt_print.proofs.Told.{plain_judged}

-- a draft with these chains
abbrev pub at : List Section → Option Section → List IptChain → IptDraft
at opened within chains = record { opened = opened; within = within; chains = chains; others = [] }

-- Tables

pub table_opened : (site : Site) (table : IptTable) (opened : List Section) (chains : List IptChain) → list_any (is_section (Met table)) opened ≡ false
    → IsTaken site (table_word table ∷ []) (at opened None chains) (at (opened ++ Met table ∷ []) (Some (Met table)) chains)
unfolding section_named
table_opened site Filter opened chains h n = ap (λ b. cond (false || b) (Err Syntax) (Ok (at (opened ++ Met Filter ∷ []) (Some (Met Filter)) chains))) h
table_opened site Nat opened chains h n = ap (λ b. cond (false || b) (Err Syntax) (Ok (at (opened ++ Met Nat ∷ []) (Some (Met Nat)) chains))) h
table_opened site Mangle opened chains h n = ap (λ b. cond (false || b) (Err Syntax) (Ok (at (opened ++ Met Mangle ∷ []) (Some (Met Mangle)) chains))) h

pub table_closed : (site : Site) (section : Section) (opened : List Section) (chains : List IptChain) → IsTaken site (codes "COMMIT" ∷ []) (at opened (Some section) chains) (at opened None chains)
table_closed site section opened chains n = refl

opening_line : (table : IptTable) → is_line (table_word table ∷ []) ≡ true
opening_line Filter = refl
opening_line Nat = refl
opening_line Mangle = refl

-- Declarations

-- the policy is read, and no counters stand behind
policy_taken : (table : IptTable) (hook : Hook) (name : List ℕ) (accepts : Bool) (n : ℕ) (d : IptDraft) → is_printed_policy table (Some accepts) ≡ true
    → builtin_line (Met table) hook name (plain_word n (policy_word (Some accepts)) ∷ plain_word n (codes "[0:0]") ∷ []) d
    ≡ Ok (record d { chains = d.chains ++ record { table = table; name = name; policy = Some accepts; rules = [] } ∷ [] })
unfolding policy_named
policy_taken table hook name true n d h = refl
policy_taken Filter hook name false n d h = refl
policy_taken Nat hook name false n d h = never h
policy_taken Mangle hook name false n d h = refl

builtin_policy : (table : IptTable) (name : List ℕ) (policy : Option Bool) → cond (is_builtin_name table name) (is_some policy) (is_none policy) ≡ true → is_builtin_name table name ≡ true → is_some policy ≡ true
builtin_policy table name policy h e = sym (if_true (is_builtin_name table name) (is_some policy) (is_none policy) e) ∙ h

user_policy : (table : IptTable) (name : List ℕ) (policy : Option Bool) → cond (is_builtin_name table name) (is_some policy) (is_none policy) ≡ true → is_builtin_name table name ≡ false → is_none policy ≡ true
user_policy table name policy h e = sym (if_false (is_builtin_name table name) (is_some policy) (is_none policy) e) ∙ h

some_name : (name : List ℕ) → is_plain name ≡ true → name ≢ []
some_name [] h = never h
some_name (c ∷ cs) h = λ e. absurd cc

colon_plain : (name : List ℕ) → is_plain name ≡ true → is_plain (58 ∷ name) ≡ true
colon_plain name h = plain_from 58 name (and_parts (nat_le 1 (length name)) (list_all is_plain_byte name) h).1

chain_declared : (site : Site) (table : IptTable) (name : List ℕ) (policy : Option Bool) (opened : List Section) (chains : List IptChain) (n : ℕ)
    → cond (is_builtin_name table name) (is_some policy) (is_none policy) ≡ true → is_printed_policy table policy ≡ true → is_plain name ≡ true → chain_from 0 table name chains ≡ None
    → declared_in (Met table) name (plain_word n (policy_word policy) ∷ plain_word n (codes "[0:0]") ∷ []) (at opened (Some (Met table)) chains)
    ≡ Ok (at opened (Some (Met table)) (chains ++ record { table = table; name = name; policy = policy; rules = [] } ∷ []))
chain_declared site table name (Some accepts) opened chains n named policy plain new =
    let d = at opened (Some (Met table)) chains in
    let ws = plain_word n (policy_word (Some accepts)) ∷ plain_word n (codes "[0:0]") ∷ [] in
    elim (cases_Bool (is_builtin_name table name)) [
      | inl e ↦
          (let known = builtin_known table name e in
          ap (λ o. option_map_or (λ hook. builtin_declared (Met table) hook name ws d) o (user_declared (Met table) name ws d)) known.2
          ∙ ap (λ o. cond (is_some o) (Err Syntax) (builtin_line (Met table) known.0 name ws d)) new
          ∙ policy_taken table known.0 name accepts n d policy)
      | inr e ↦ never (user_policy table name (Some accepts) named e)
    ]
chain_declared site table name None opened chains n named policy plain new =
    let d = at opened (Some (Met table)) chains in
    let ws = plain_word n (codes "-") ∷ plain_word n (codes "[0:0]") ∷ [] in
    elim (cases_Bool (is_builtin_name table name)) [
      | inl e ↦ never (builtin_policy table name None named e)
      | inr e ↦
          (ap (λ o. option_map_or (λ hook. builtin_declared (Met table) hook name ws d) o (user_declared (Met table) name ws d)) (builtin_none table name e)
          ∙ ap (λ b. cond (b || is_some (chain_from 0 table name chains)) (Err Syntax) (user_line table name ws d)) (text_some name (some_name name plain))
          ∙ ap (λ o. cond (is_some o) (Err Syntax) (user_line table name ws d)) new)
    ]

chain_taken : (site : Site) (all : List IptChain) (chain : IptChain) (opened : List Section) (chains : List IptChain) → is_named chain ≡ true → is_printed_chain site all chain ≡ true
    → chain_from 0 chain.table chain.name chains ≡ None
    → IsTaken site (chain_line chain) (at opened (Some (Met chain.table)) chains) (at opened (Some (Met chain.table)) (chains ++ bare chain ∷ []))
chain_taken site all chain opened chains named printed new n =
    let plain = name_of_chain site all chain named printed in
    let parts = and_parts ((is_some chain.policy || is_chain_name chain.name) && is_printed_policy chain.table chain.policy) (list_all (is_printed_rule site all chain) chain.rules) printed in
    plain_judged n (58 ∷ chain.name) _ (colon_plain chain.name plain)
    ∙ chain_declared site chain.table chain.name chain.policy opened chains n named (and_parts (is_some chain.policy || is_chain_name chain.name) (is_printed_policy chain.table chain.policy) parts.0).1 plain new

policy_plain : (policy : Option Bool) → is_plain (policy_word policy) ≡ true
policy_plain None = refl
policy_plain (Some true) = refl
policy_plain (Some false) = refl

declaring_line : (name : List ℕ) (policy : Option Bool) → is_plain name ≡ true → is_line ((58 ∷ name) ∷ policy_word policy ∷ codes "[0:0]" ∷ []) ≡ true
declaring_line name policy h =
    and_from (list_all is_plain ((58 ∷ name) ∷ policy_word policy ∷ codes "[0:0]" ∷ [])) true
    (and_from (is_plain (58 ∷ name)) (list_all is_plain (policy_word policy ∷ codes "[0:0]" ∷ [])) (colon_plain name h)
    (and_from (is_plain (policy_word policy)) true (policy_plain policy) refl)) refl

-- Lines of a table alone

others_declared : (table : IptTable) (chains : List IptChain) → others table chains ≡ true → chain_lines table chains ≡ []
others_declared table [] h = refl
others_declared table (chain ∷ chains) h =
    let parts = and_parts (not (is_table table chain.table)) (others table chains) h in
    if_false (is_table table chain.table) (chain_line chain ∷ chain_lines table chains) (chain_lines table chains) (not-true (is_table table chain.table) parts.0)
    ∙ others_declared table chains parts.1

others_ruled : (site : Site) (all : List IptChain) (table : IptTable) (chains : List IptChain) → others table chains ≡ true → rule_lines site all table chains ≡ []
others_ruled site all table [] h = refl
others_ruled site all table (chain ∷ chains) h =
    let parts = and_parts (not (is_table table chain.table)) (others table chains) h in
    if_false (is_table table chain.table) (map (rule_line site all chain.name) chain.rules ++ rule_lines site all table chains) (rule_lines site all table chains) (not-true (is_table table chain.table) parts.0)
    ∙ others_ruled site all table chains parts.1

put_out : (b : Bool) (own xs ys : List (List (List ℕ))) → cond b (own ++ (xs ++ ys)) (xs ++ ys) ≡ cond b (own ++ xs) xs ++ ys
put_out true own xs ys = sym (append_assoc own xs ys)
put_out false own xs ys = refl

declared_append : (table : IptTable) (xs ys : List IptChain) → chain_lines table (xs ++ ys) ≡ chain_lines table xs ++ chain_lines table ys
declared_append table [] ys = refl
declared_append table (chain ∷ xs) ys =
    ap (λ rest. cond (is_table table chain.table) (chain_line chain ∷ rest) rest) (declared_append table xs ys)
    ∙ put_out (is_table table chain.table) (chain_line chain ∷ []) (chain_lines table xs) (chain_lines table ys)

ruled_append : (site : Site) (all : List IptChain) (table : IptTable) (xs ys : List IptChain) → rule_lines site all table (xs ++ ys) ≡ rule_lines site all table xs ++ rule_lines site all table ys
ruled_append site all table [] ys = refl
ruled_append site all table (chain ∷ xs) ys =
    ap (λ rest. cond (is_table table chain.table) (map (rule_line site all chain.name) chain.rules ++ rest) rest) (ruled_append site all table xs ys)
    ∙ put_out (is_table table chain.table) (map (rule_line site all chain.name) chain.rules) (rule_lines site all table xs) (rule_lines site all table ys)

-- of three parts the lines of the one in the middle
declared_middle : (table : IptTable) (before mine behind : List IptChain) → others table before ≡ true → others table behind ≡ true → chain_lines table (before ++ mine ++ behind) ≡ chain_lines table mine
declared_middle table before mine behind h k =
    declared_append table (before ++ mine) behind ∙ ap (λ list. list ++ chain_lines table behind) (declared_append table before mine)
    ∙ ap (λ list. list ++ chain_lines table mine ++ chain_lines table behind) (others_declared table before h)
    ∙ ap (λ list. chain_lines table mine ++ list) (others_declared table behind k) ∙ append-nil (chain_lines table mine)

ruled_middle : (site : Site) (all : List IptChain) (table : IptTable) (before mine behind : List IptChain) → others table before ≡ true → others table behind ≡ true
    → rule_lines site all table (before ++ mine ++ behind) ≡ rule_lines site all table mine
ruled_middle site all table before mine behind h k =
    ruled_append site all table (before ++ mine) behind ∙ ap (λ list. list ++ rule_lines site all table behind) (ruled_append site all table before mine)
    ∙ ap (λ list. list ++ rule_lines site all table mine ++ rule_lines site all table behind) (others_ruled site all table before h)
    ∙ ap (λ list. rule_lines site all table mine ++ list) (others_ruled site all table behind k) ∙ append-nil (rule_lines site all table mine)

-- a line behind `-A`
long : (ws : List (List ℕ)) → list_all is_plain ws ≡ true → is_line (codes "-A" ∷ ws) ≡ true
long ws h =
    (let some : 1 ≤ suc (length ws) = omega arith in
    and_from (nat_le 1 (suc (length ws)) && list_all is_plain ws) true (and_from (nat_le 1 (suc (length ws))) (list_all is_plain ws) (le-leb 1 (suc (length ws)) some) h) refl)

bare_append : (xs : List IptChain) (chain : IptChain) → map bare (xs ++ chain ∷ []) ≡ map bare xs ++ bare chain ∷ []
bare_append [] chain = refl
bare_append (first ∷ xs) chain = ap (λ list. bare first ∷ list) (bare_append xs chain)

-- no chain is of the table
none_mine : (table : IptTable) (before mine behind : List IptChain) → all_in table mine ≡ true → list_any (λ chain. is_table table chain.table) (before ++ mine ++ behind) ≡ false → mine ≡ []
none_mine table before [] behind h k = refl
none_mine table before (chain ∷ mine) behind h k =
    let parts = and_parts (is_table table chain.table) (all_in table mine) h in
    let test : IptChain → Bool = λ chain. is_table table chain.table in
    let front = or_parts (list_any test (before ++ chain ∷ mine)) (list_any test behind) (sym (list_any-append test (before ++ chain ∷ mine) behind) ∙ k) in
    let own = or_parts (list_any test before) (list_any test (chain ∷ mine)) (sym (list_any-append test before (chain ∷ mine)) ∙ front.0) in
    absurd (true≢false (sym parts.0 ∙ (or_parts (is_table table chain.table) (list_any test mine) own.1).0))

module _ (laws : Laws) (site : Site) (orderly : IsOrderly site) (all : List IptChain) (apart : are_apart all ≡ true) (named : list_all is_named all ≡ true)
    (printed : list_all (is_printed_chain site all) all ≡ true) where
  names_plain : (chains : List IptChain) → list_all is_named chains ≡ true → list_all (is_printed_chain site all) chains ≡ true → list_all (λ chain. is_plain chain.name) chains ≡ true
  names_plain [] h k = refl
  names_plain (chain ∷ chains) h k =
      let a = and_parts (is_named chain) (list_all is_named chains) h in
      let b = and_parts (is_printed_chain site all chain) (list_all (is_printed_chain site all) chains) k in
      and_from (is_plain chain.name) (list_all (λ chain. is_plain chain.name) chains) (name_of_chain site all chain a.0 b.0) (names_plain chains a.1 b.1)

  -- what holds of a chain that stands between others
  own : (p : IptChain → Bool) → list_all p all ≡ true → (front : List IptChain) (chain : IptChain) (behind : List IptChain) → all ≡ front ++ chain ∷ behind → p chain ≡ true
  own p h front chain behind e = all_at p all (length front) chain (ap (λ list. slice_get list (length front)) e ∙ get_split front chain behind) h

  -- Declarations

  chains_declared : (table : IptTable) (opened : List Section) (before seen rest behind now fin : List IptChain) → all ≡ (before ++ seen) ++ (rest ++ behind) → all_in table rest ≡ true
      → now ≡ before ++ map bare seen → fin ≡ before ++ map bare (seen ++ rest)
      → AreTaken site (at opened (Some (Met table)) now) (chain_lines table rest) (at opened (Some (Met table)) fin)
  chains_declared table opened before seen [] behind now fin e h is end =
      let same : now ≡ fin = is ∙ ap (λ list. before ++ map bare list) (sym (append-nil seen)) ∙ sym end in
      subst (λ (chains : List IptChain). AreTaken site (at opened (Some (Met table)) now) [] (at opened (Some (Met table)) chains)) same none_taken
  chains_declared table opened before seen (chain ∷ rest) behind now fin e h is end =
      let parts = and_parts (is_table table chain.table) (all_in table rest) h in
      let same : table ≡ chain.table = table_same table chain.table parts.0 in
      let good = own is_named named (before ++ seen) chain (rest ++ behind) e in
      let fine = own (is_printed_chain site all) printed (before ++ seen) chain (rest ++ behind) e in
      let new : chain_from 0 chain.table chain.name now ≡ None =
      ap (chain_from 0 chain.table chain.name) is ∙ same_behind before (map bare seen) seen (same_bare seen) 0 chain.table chain.name
      ∙ chain_new 0 (before ++ seen) chain (rest ++ behind) (sym (ap are_apart e) ∙ apart) in
      let step = chain_taken site all chain opened now good fine new in
      let line = declaring_line chain.name chain.policy (name_of_chain site all chain good fine) in
      let P : List (List (List ℕ)) → Type 0 = λ lines. AreTaken site (at opened (Some (Met table)) now) lines (at opened (Some (Met table)) fin) in
      let Q : IptTable → Type 0 = λ t. IsTaken site (chain_line chain) (at opened (Some (Met t)) now) (at opened (Some (Met t)) (now ++ bare chain ∷ [])) in
      subst P (sym (if_true (is_table table chain.table) (chain_line chain ∷ chain_lines table rest) (chain_lines table rest) parts.0))
      (next_taken line (subst Q (sym same) step)
      (chains_declared table opened before (seen ++ chain ∷ []) rest behind (now ++ bare chain ∷ []) fin
      (e ∙ ap (λ list. list) (sym (append_assoc (before ++ seen) (chain ∷ []) (rest ++ behind))) ∙ ap (λ list. list ++ (rest ++ behind)) (append_assoc before seen (chain ∷ [])))
      parts.1
      (ap (λ list. list ++ bare chain ∷ []) is ∙ append_assoc before (map bare seen) (bare chain ∷ []) ∙ ap (λ list. before ++ list) (sym (bare_append seen chain)))
      (end ∙ ap (λ list. before ++ map bare list) (sym (append_assoc seen (chain ∷ []) rest)))))

  -- Rules

  rule_taken : (opened : List Section) (front : List IptChain) (chain : IptChain) (later behind : List IptChain) (seen : List IptRule) (rule : IptRule) → all ≡ (front ++ chain ∷ later) ++ behind
      → others chain.table behind ≡ true → is_printed_rule site all chain rule ≡ true
      → IsTaken site (rule_line site all chain.name rule) (at opened (Some (Met chain.table)) (front ++ ruled seen chain ∷ map bare later))
      (at opened (Some (Met chain.table)) (front ++ ruled (seen ++ rule ∷ []) chain ∷ map bare later))
  rule_taken opened front chain later behind seen rule e off h n =
      let table = chain.table in
      let now = front ++ ruled seen chain ∷ map bare later in
      let whole : all ≡ front ++ chain ∷ (later ++ behind) = e ∙ append_assoc front (chain ∷ later) behind in
      let good = own is_named named front chain (later ++ behind) whole in
      let plain = own (λ chain. is_plain chain.name) (names_plain all named printed) front chain (later ++ behind) whole in
      let same : SameChains now (front ++ chain ∷ later) = same_behind front (ruled seen chain ∷ map bare later) (chain ∷ later) (same_ruled seen chain (map bare later) later (same_bare later)) in
      let knows : (name : List ℕ) → chain_from 0 table name now ≡ chain_from 0 table name all = λ name.
      same 0 table name ∙ sym (from_front 0 table name (front ++ chain ∷ later) behind off) ∙ ap (chain_from 0 table name) (sym e) in
      let none_ahead : 0 + length front ≡ length front = omega arith in
      let number : chain_from 0 table chain.name now ≡ Some (length front) =
      knows chain.name ∙ chain_at 0 all (length front) chain (ap (λ list. slice_get list (length front)) whole ∙ get_split front chain (later ++ behind)) apart
      ∙ ap (λ m. Some m) none_ahead in
      let last = and_parts (are_different rule.cond && protocol_leads rule.cond && list_all (is_printed_literal site (shows_receiving chain) rule.cond) rule.cond) (is_printed_act all chain rule.cond rule.go) h in
      let third = and_parts (are_different rule.cond && protocol_leads rule.cond) (list_all (is_printed_literal site (shows_receiving chain) rule.cond) rule.cond) last.0 in
      let first = and_parts (are_different rule.cond) (protocol_leads rule.cond) third.0 in
      let words = rule_plain laws site orderly all chain (shows_receiving chain) rule.cond rule.go (names_plain all named printed) third.1 last.1 in
      let hook = builtin_hook (Met table) chain.name in
      plain_judged n chain.name _ plain
      ∙ then_ok (chain_of_rule table chain.name (at opened (Some (Met table)) now)) _ (length front) _ (ap (λ o. ok_or o NoName) number)
      (then_ok (rule_of site table hook now (map (plain_word n) (rule_words site all rule))) _ rule _
      (rule_read laws site orderly all now chain hook (hooked_by chain good) (found_by all now table apart named knows) rule.cond third.1 first.0 n rule.go last.1 words)
      (ap (λ (chains : List IptChain). Ok (at opened (Some (Met table)) chains)) (rule_added front (map bare later) (ruled seen chain) rule)))

  rule_line_plain : (chain : IptChain) (rule : IptRule) → is_plain chain.name ≡ true → is_printed_rule site all chain rule ≡ true → is_line (rule_line site all chain.name rule) ≡ true
  rule_line_plain chain rule plain h =
      let last = and_parts (are_different rule.cond && protocol_leads rule.cond && list_all (is_printed_literal site (shows_receiving chain) rule.cond) rule.cond) (is_printed_act all chain rule.cond rule.go) h in
      let third = and_parts (are_different rule.cond && protocol_leads rule.cond) (list_all (is_printed_literal site (shows_receiving chain) rule.cond) rule.cond) last.0 in
      let words = rule_plain laws site orderly all chain (shows_receiving chain) rule.cond rule.go (names_plain all named printed) third.1 last.1 in
      long (chain.name ∷ rule_words site all rule) (and_from (is_plain chain.name) (list_all is_plain (rule_words site all rule)) plain words)

  rules_taken : (opened : List Section) (front : List IptChain) (chain : IptChain) (later behind : List IptChain) (seen rest fin : List IptRule) → all ≡ (front ++ chain ∷ later) ++ behind
      → others chain.table behind ≡ true → list_all (is_printed_rule site all chain) rest ≡ true → fin ≡ seen ++ rest
      → AreTaken site (at opened (Some (Met chain.table)) (front ++ ruled seen chain ∷ map bare later)) (map (rule_line site all chain.name) rest)
      (at opened (Some (Met chain.table)) (front ++ ruled fin chain ∷ map bare later))
  rules_taken opened front chain later behind seen [] fin e off h end =
      let same : seen ≡ fin = sym (append-nil seen) ∙ sym end in
      subst (λ (rules : List IptRule). AreTaken site (at opened (Some (Met chain.table)) (front ++ ruled seen chain ∷ map bare later)) []
      (at opened (Some (Met chain.table)) (front ++ ruled rules chain ∷ map bare later))) same none_taken
  rules_taken opened front chain later behind seen (rule ∷ rest) fin e off h end =
      let parts = and_parts (is_printed_rule site all chain rule) (list_all (is_printed_rule site all chain) rest) h in
      let plain = own (λ chain. is_plain chain.name) (names_plain all named printed) front chain (later ++ behind) (e ∙ append_assoc front (chain ∷ later) behind) in
      next_taken (rule_line_plain chain rule plain parts.0) (rule_taken opened front chain later behind seen rule e off parts.0)
      (rules_taken opened front chain later behind (seen ++ rule ∷ []) rest fin e off parts.1 (end ∙ sym (append_assoc seen (rule ∷ []) rest)))

  chains_ruled : (table : IptTable) (opened : List Section) (front rest behind now fin : List IptChain) → all ≡ (front ++ rest) ++ behind → all_in table rest ≡ true → others table behind ≡ true
      → now ≡ front ++ map bare rest → fin ≡ front ++ rest
      → AreTaken site (at opened (Some (Met table)) now) (rule_lines site all table rest) (at opened (Some (Met table)) fin)
  chains_ruled table opened front [] behind now fin e h off is end =
      subst (λ (chains : List IptChain). AreTaken site (at opened (Some (Met table)) now) [] (at opened (Some (Met table)) chains)) (is ∙ sym end) none_taken
  chains_ruled table opened front (chain ∷ rest) behind now fin e h off is end =
      let parts = and_parts (is_table table chain.table) (all_in table rest) h in
      let same : table ≡ chain.table = table_same table chain.table parts.0 in
      let fine = own (is_printed_chain site all) printed front chain (rest ++ behind) (e ∙ append_assoc front (chain ∷ rest) behind) in
      let rules = (and_parts ((is_some chain.policy || is_chain_name chain.name) && is_printed_policy chain.table chain.policy) (list_all (is_printed_rule site all chain) chain.rules) fine).1 in
      let mid = front ++ chain ∷ map bare rest in
      let step = rules_taken opened front chain rest behind [] chain.rules chain.rules e (ap (λ t. others t behind) (sym same) ∙ off) rules refl in
      let P : List (List (List ℕ)) → Type 0 = λ lines. AreTaken site (at opened (Some (Met table)) now) lines (at opened (Some (Met table)) fin) in
      let Q : IptTable → Type 0 = λ t. AreTaken site (at opened (Some (Met t)) (front ++ bare chain ∷ map bare rest)) (map (rule_line site all chain.name) chain.rules) (at opened (Some (Met t)) mid) in
      let R : List IptChain → Type 0 = λ chains. AreTaken site (at opened (Some (Met table)) chains) (map (rule_line site all chain.name) chain.rules) (at opened (Some (Met table)) mid) in
      subst P (sym (if_true (is_table table chain.table) (map (rule_line site all chain.name) chain.rules ++ rule_lines site all table rest) (rule_lines site all table rest) parts.0))
      (taken_append site (at opened (Some (Met table)) now) (at opened (Some (Met table)) mid) (at opened (Some (Met table)) fin) (map (rule_line site all chain.name) chain.rules) (rule_lines site all table rest)
      (subst R (sym is) (subst Q (sym same) step))
      (chains_ruled table opened (front ++ chain ∷ []) rest behind mid fin (e ∙ ap (λ list. list ++ behind) (sym (append_assoc front (chain ∷ []) rest))) parts.1 off
      (sym (append_assoc front (chain ∷ []) (map bare rest))) (end ∙ sym (append_assoc front (chain ∷ []) rest))))

  -- A whole table

  abbrev has_table : IptTable → Bool
  has_table table = list_any (λ chain. is_table table chain.table) all

  abbrev pub opened_by : IptTable → List Section → List Section
  opened_by table opened = cond (has_table table) (opened ++ Met table ∷ []) opened

  pub table_taken : (table : IptTable) (opened : List Section) (before mine behind : List IptChain) → all ≡ before ++ mine ++ behind → all_in table mine ≡ true
      → others table before ≡ true → others table behind ≡ true → list_any (is_section (Met table)) opened ≡ false
      → AreTaken site (at opened None before) (table_lines site all table) (at (opened_by table opened) None (before ++ mine))
  table_taken table opened before mine behind e h front off new =
      let closing = (codes "COMMIT" ∷ []) ∷ [] in
      let lines = (table_word table ∷ []) ∷ (chain_lines table all ++ rule_lines site all table all ++ closing) in
      let later = opened ++ Met table ∷ [] in
      elim (cases_Bool (has_table table)) [
        | inl on ↦
            (let a = at later (Some (Met table)) before in
            let b = at later (Some (Met table)) (before ++ map bare mine) in
            let c = at later (Some (Met table)) (before ++ mine) in
            let d = at later None (before ++ mine) in
            let declared = chains_declared table later before [] mine behind before (before ++ map bare mine)
            (e ∙ append_assoc before mine behind ∙ ap (λ list. list ++ (mine ++ behind)) (sym (append-nil before))) h (sym (append-nil before)) refl in
            let rules = chains_ruled table later before mine behind (before ++ map bare mine) (before ++ mine) e h off refl refl in
            let middle = taken_append site a c d (chain_lines table mine ++ rule_lines site all table mine) closing
            (taken_append site a b c (chain_lines table mine) (rule_lines site all table mine) declared rules) (next_taken refl (table_closed site (Met table) later (before ++ mine)) none_taken) in
            let own_chains : chain_lines table all ≡ chain_lines table mine = ap (chain_lines table) e ∙ declared_middle table before mine behind front off in
            let own_rules : rule_lines site all table all ≡ rule_lines site all table mine = ap (rule_lines site all table) e ∙ ruled_middle site all table before mine behind front off in
            let same : chain_lines table all ++ rule_lines site all table all ++ closing ≡ chain_lines table mine ++ rule_lines site all table mine ++ closing =
            ap (λ list. list ++ rule_lines site all table all ++ closing) own_chains ∙ ap (λ list. chain_lines table mine ++ list ++ closing) own_rules in
            let M : List (List (List ℕ)) → Type 0 = λ list. AreTaken site a list d in
            let whole : AreTaken site (at opened None before) lines d = next_taken (opening_line table) (table_opened site table opened before new) (subst M (sym same) middle) in
            let P : List (List (List ℕ)) → Type 0 = λ list. AreTaken site (at opened None before) list (at (opened_by table opened) None (before ++ mine)) in
            let Q : List Section → Type 0 = λ list. AreTaken site (at opened None before) lines (at list None (before ++ mine)) in
            subst P (sym (if_true (has_table table) lines [] on)) (subst Q (sym (if_true (has_table table) later opened on)) whole))
        | inr none ↦
            (let empty : mine ≡ [] = none_mine table before mine behind h (sym (ap (list_any (λ chain. is_table table chain.table)) e) ∙ none) in
            let same : before ≡ before ++ mine = sym (append-nil before) ∙ ap (λ list. before ++ list) (sym empty) in
            let P : List (List (List ℕ)) → Type 0 = λ list. AreTaken site (at opened None before) list (at (opened_by table opened) None (before ++ mine)) in
            let Q : List Section → Type 0 = λ list. AreTaken site (at opened None before) [] (at list None (before ++ mine)) in
            let R : List IptChain → Type 0 = λ chains. AreTaken site (at opened None before) [] (at opened None chains) in
            subst P (sym (if_false (has_table table) lines [] none)) (subst Q (sym (if_false (has_table table) later opened none)) (subst R same none_taken)))
      ]
