-- Chains are found by their tables and names, and their declarations are read.
use Rattle.std.proofs.Common.{◌≡◌, ◌⊎◌, ℕ, zero, suc, ◌+◌, Bool, true, false, cond, ◌&&◌, not, nat_le, slice_get, Option, Some, None, is_some, is_none, ok_or, Err, List, [], ◌∷◌, ◌++◌, map, length, refl, ap, sym, ◌∙◌, inl, inr, arith}
use Rattle.std.proofs.lemmas.Bool.{and_from, and_parts, cases_Bool, not-true, false_from_ne_true, true≢false}
use Rattle.std.specs.List.{list_all}
use Rattle.std.specs.Option.{option_map_or}
use Rattle.std.specs.Str.{bytes_eq}
use Rattle.fws_net.specs.declared.cause.Cause.TheVariants.{NoName}
use Rattle.fws_ipt.specs.declared.config.IptTable.{IptTable}
use Rattle.fws_ipt.specs.declared.config.IptTable.TheVariants.{Filter, Nat, Mangle}
use Rattle.fws_ipt.specs.declared.config.IptRule.{IptRule}
use Rattle.fws_ipt.specs.declared.config.IptChain.{IptChain}
use Rattle.fws_ipt.specs.declared.hook.Hook.{Hook}
use Rattle.fws_ipt.specs.declared.draft.Section.TheVariants.{Met}
use Rattle.fws_ipt.specs.FileText.{builtin_hook, with_rule}
use Rattle.fws_ipt.specs.Hooks.{has_hook, hook_named}
use Rattle.fws_ipt.specs.RuleText.{chain_from, is_builtin_name, is_chain, user_chain}
use Rattle.fws_ipt.specs.Soundness.{are_apart, is_named}
use Rattle.fws_ipt.specs.Walk.{is_table}
use Rattle.fws_ipt_print.specs.Printable.{are_in_order, rank_of}
use Rattle.fws_ipt_print.specs.PrintedText.{chain_name}
use Rattle.fws_ipt_print.proofs.Basics.{bytes_same, if_true, if_false, never}
use Rattle.fws_ipt_print.proofs.RulesRead.{Found, Hooked}

-- Tables

pub table_same : (a b : IptTable) → is_table a b ≡ true → a ≡ b
table_same Filter Filter h = refl
table_same Nat Nat h = refl
table_same Mangle Mangle h = refl
table_same Filter Nat h = never h
table_same Filter Mangle h = never h
table_same Nat Filter h = never h
table_same Nat Mangle h = never h
table_same Mangle Filter h = never h
table_same Mangle Nat h = never h

pub table_is : (a : IptTable) → is_table a a ≡ true
table_is Filter = refl
table_is Nat = refl
table_is Mangle = refl

-- Chains by their names

-- a chain without its rules
abbrev pub bare : IptChain → IptChain
bare chain = record chain { rules = [] }

abbrev pub ruled : List IptRule → IptChain → IptChain
ruled rules chain = record chain { rules = rules }

-- chains of the same tables and names in the same order
abbrev pub SameChains : List IptChain → List IptChain → Type 0
SameChains xs ys = (n : ℕ) (table : IptTable) (name : List ℕ) → chain_from n table name xs ≡ chain_from n table name ys

pub same_bare : (chains : List IptChain) → SameChains (map bare chains) chains
same_bare [] n table name = refl
same_bare (chain ∷ chains) n table name = ap (λ o. cond (is_chain table name chain) (Some n) o) (same_bare chains (suc n) table name)

pub same_behind : (front xs ys : List IptChain) → SameChains xs ys → SameChains (front ++ xs) (front ++ ys)
same_behind [] xs ys h n table name = h n table name
same_behind (chain ∷ front) xs ys h n table name = ap (λ o. cond (is_chain table name chain) (Some n) o) (same_behind front xs ys h (suc n) table name)

pub same_ruled : (rules : List IptRule) (chain : IptChain) (xs ys : List IptChain) → SameChains xs ys → SameChains (ruled rules chain ∷ xs) (chain ∷ ys)
same_ruled rules chain xs ys h n table name = ap (λ o. cond (is_chain table name chain) (Some n) o) (h (suc n) table name)

-- chains of other tables
abbrev pub others : IptTable → List IptChain → Bool
others table chains = list_all (λ chain. not (is_table table chain.table)) chains

abbrev pub all_in : IptTable → List IptChain → Bool
all_in table chains = list_all (λ chain. is_table table chain.table) chains

none_named : (n : ℕ) (table : IptTable) (name : List ℕ) (chains : List IptChain) → others table chains ≡ true → chain_from n table name chains ≡ None
none_named n table name [] h = refl
none_named n table name (chain ∷ chains) h =
    let parts = and_parts (not (is_table table chain.table)) (others table chains) h in
    ap (λ b. cond (b && bytes_eq chain.name name) (Some n) (chain_from (suc n) table name chains)) (not-true (is_table table chain.table) parts.0)
    ∙ none_named (suc n) table name chains parts.1

-- chains of other tables behind are no matter
pub from_front : (n : ℕ) (table : IptTable) (name : List ℕ) (front behind : List IptChain) → others table behind ≡ true → chain_from n table name (front ++ behind) ≡ chain_from n table name front
from_front n table name [] behind h = none_named n table name behind h
from_front n table name (chain ∷ front) behind h = ap (λ o. cond (is_chain table name chain) (Some n) o) (from_front (suc n) table name front behind h)

pub all_at : (p : IptChain → Bool) (chains : List IptChain) (c : ℕ) (chain : IptChain) → slice_get chains c ≡ Some chain → list_all p chains ≡ true → p chain ≡ true
all_at p [] c chain e h = absurd cc
all_at p (first ∷ chains) zero chain e h = (let same : first ≡ chain = cc in ap p (sym same) ∙ (and_parts (p first) (list_all p chains) h).0)
all_at p (first ∷ chains) (suc c) chain e h = all_at p chains c chain e (and_parts (p first) (list_all p chains) h).1

-- a chain is found at its number
pub chain_at : (n : ℕ) (chains : List IptChain) (c : ℕ) (chain : IptChain) → slice_get chains c ≡ Some chain → are_apart chains ≡ true
    → chain_from n chain.table chain.name chains ≡ Some (n + c)
chain_at n [] c chain e h = absurd cc
chain_at n (first ∷ chains) zero chain e h =
    let same : first ≡ chain = cc in
    let here : n ≡ n + 0 = omega arith in
    let own : is_chain chain.table chain.name first ≡ true =
    ap (is_chain chain.table chain.name) same ∙ and_from (is_table chain.table chain.table) (bytes_eq chain.name chain.name) (table_is chain.table) (bytes_same chain.name) in
    if_true (is_chain chain.table chain.name first) (Some n) (chain_from (suc n) chain.table chain.name chains) own ∙ ap (λ m. Some m) here
chain_at n (first ∷ chains) (suc c) chain e h =
    let parts = and_parts (list_all (λ later. not (is_chain later.table later.name first)) chains) (are_apart chains) h in
    let other = not-true (is_chain chain.table chain.name first) (all_at (λ later. not (is_chain later.table later.name first)) chains c chain e parts.0) in
    let there : suc n + c ≡ n + suc c = omega arith in
    if_false (is_chain chain.table chain.name first) (Some n) (chain_from (suc n) chain.table chain.name chains) other
    ∙ chain_at (suc n) chains c chain e parts.1 ∙ ap (λ m. Some m) there

pub get_split : (front : List IptChain) (chain : IptChain) (behind : List IptChain) → slice_get (front ++ chain ∷ behind) (length front) ≡ Some chain
get_split [] chain behind = refl
get_split (first ∷ front) chain behind = get_split front chain behind

-- a chain isn't found among those ahead of it
pub chain_new : (n : ℕ) (front : List IptChain) (chain : IptChain) (behind : List IptChain) → are_apart (front ++ chain ∷ behind) ≡ true → chain_from n chain.table chain.name front ≡ None
chain_new n [] chain behind h = refl
chain_new n (first ∷ front) chain behind h =
    let parts = and_parts (list_all (λ later. not (is_chain later.table later.name first)) (front ++ chain ∷ behind)) (are_apart (front ++ chain ∷ behind)) h in
    let other = not-true (is_chain chain.table chain.name first)
    (all_at (λ later. not (is_chain later.table later.name first)) (front ++ chain ∷ behind) (length front) chain (get_split front chain behind) parts.0) in
    if_false (is_chain chain.table chain.name first) (Some n) (chain_from (suc n) chain.table chain.name front) other ∙ chain_new (suc n) front chain behind parts.1

-- Chains of the user's

pub known_at : (o : Option IptChain) (table : IptTable) → option_map_or (λ chain. is_table table chain.table && is_none chain.policy) o false ≡ true
    → (chain : IptChain) × (o ≡ Some chain) × (is_table table chain.table ≡ true) × (is_none chain.policy ≡ true)
known_at None table h = never h
known_at (Some chain) table h = (let parts = and_parts (is_table table chain.table) (is_none chain.policy) h in (chain, refl, parts.0, parts.1))

not_both : (policy : Option Bool) → is_none policy ≡ true → is_some policy ≡ true → ⊥
not_both None h k = true≢false (sym k)
not_both (Some accepts) h k = true≢false (sym h)

user_named : (chain : IptChain) → is_named chain ≡ true → is_none chain.policy ≡ true → is_builtin_name chain.table chain.name ≡ false
user_named chain h none =
    false_from_ne_true (is_builtin_name chain.table chain.name) (λ e.
    not_both chain.policy none (sym (if_true (is_builtin_name chain.table chain.name) (is_some chain.policy) (is_none chain.policy) e) ∙ h))

-- where chains are known as all are, gotos find theirs
pub found_by : (all chains : List IptChain) (table : IptTable) → are_apart all ≡ true → list_all is_named all ≡ true
    → ((name : List ℕ) → chain_from 0 table name chains ≡ chain_from 0 table name all) → Found all chains table
found_by all chains table apart named knows c h =
    let at = known_at (slice_get all c) table h in
    let chain = at.0 in
    let is : chain_name all c ≡ chain.name = ap (λ o. option_map_or (λ chain. chain.name) o []) at.1 in
    let same : table ≡ chain.table = table_same table chain.table at.2 in
    let plain : is_builtin_name table chain.name ≡ false =
    ap (λ t. is_builtin_name t chain.name) same ∙ user_named chain (all_at is_named all c chain at.1 named) at.3 in
    let none_ahead : 0 + c ≡ c = omega arith in
    let number : chain_from 0 table chain.name chains ≡ Some c =
    knows chain.name ∙ ap (λ t. chain_from 0 t chain.name all) same ∙ chain_at 0 all c chain at.1 apart ∙ ap (λ m. Some m) none_ahead in
    ap (user_chain table chains) is
    ∙ if_false (is_builtin_name table chain.name) (Err NoName) (ok_or (chain_from 0 table chain.name chains) NoName) plain
    ∙ ap (λ o. ok_or o NoName) number

-- Hooks

hook_some : (table : IptTable) (o : Option Hook) → option_map_or (has_hook table) o false ≡ true → (k : Hook) × (o ≡ Some k) × (option_map_or (λ hook. cond (has_hook table hook) (Some hook) None) o None ≡ Some k)
hook_some table None h = never h
hook_some table (Some k) h = (k, refl, if_true (has_hook table k) (Some k) None h)

hook_none : (table : IptTable) (o : Option Hook) → option_map_or (has_hook table) o false ≡ false → option_map_or (λ hook. cond (has_hook table hook) (Some hook) None) o None ≡ None
hook_none table None h = refl
hook_none table (Some k) h = if_false (has_hook table k) (Some k) None h

-- the hook of a name of a built-in chain
pub builtin_known : (table : IptTable) (name : List ℕ) → is_builtin_name table name ≡ true → (k : Hook) × (hook_named name ≡ Some k) × (builtin_hook (Met table) name ≡ Some k)
builtin_known table name h = hook_some table (hook_named name) h

pub builtin_none : (table : IptTable) (name : List ℕ) → is_builtin_name table name ≡ false → builtin_hook (Met table) name ≡ None
builtin_none table name h = hook_none table (hook_named name) h

pub policy_builtin : (chain : IptChain) → is_named chain ≡ true → is_some chain.policy ≡ true → is_builtin_name chain.table chain.name ≡ true
policy_builtin chain h some =
    elim (cases_Bool (is_builtin_name chain.table chain.name)) [
      | inl e ↦ e
      | inr e ↦ absurd (not_both chain.policy (sym (if_false (is_builtin_name chain.table chain.name) (is_some chain.policy) (is_none chain.policy) e) ∙ h) some)
    ]

pub hooked_by : (chain : IptChain) → is_named chain ≡ true → Hooked (builtin_hook (Met chain.table) chain.name) chain
hooked_by chain h such stands =
    let parts = and_parts (is_some chain.policy) (option_map_or such (hook_named chain.name) false) stands in
    let at = builtin_known chain.table chain.name (policy_builtin chain h parts.0) in
    (at.0, at.2, sym (ap (λ o. option_map_or such o false) at.1) ∙ parts.1)

-- Rules

pub rule_added : (front behind : List IptChain) (chain : IptChain) (rule : IptRule)
    → with_rule (length front) rule (front ++ chain ∷ behind) ≡ front ++ ruled (chain.rules ++ rule ∷ []) chain ∷ behind
rule_added [] behind chain rule = refl
rule_added (first ∷ front) behind chain rule = ap (λ list. first ∷ list) (rule_added front behind chain rule)

-- The order of tables

table_cases : (table : IptTable) → (table ≡ Filter) ⊎ ((table ≡ Nat) ⊎ (table ≡ Mangle))
table_cases Filter = inl refl
table_cases Nat = inr (inl refl)
table_cases Mangle = inr (inr refl)

least_filter : (table : IptTable) → nat_le 2 (rank_of table) ≡ true → table ≡ Filter
least_filter Filter h = refl
least_filter Nat h = never h
least_filter Mangle h = never h

pub last_table : (chains : List IptChain) → are_in_order 2 chains ≡ true → all_in Filter chains ≡ true
last_table [] h = refl
last_table (chain ∷ chains) h =
    let parts = and_parts (nat_le 2 (rank_of chain.table)) (are_in_order (rank_of chain.table) chains) h in
    let is = least_filter chain.table parts.0 in
    and_from (is_table Filter chain.table) (all_in Filter chains) (ap (is_table Filter) is) (last_table chains (sym (ap (λ t. are_in_order (rank_of t) chains) is) ∙ parts.1))

pub record Parts (chains : List IptChain) : Type 0 where
  pub mangles : List IptChain
  pub nats : List IptChain
  pub filters : List IptChain
  pub divides : chains ≡ mangles ++ nats ++ filters
  pub of_mangle : all_in Mangle mangles ≡ true
  pub of_nat : all_in Nat nats ≡ true
  pub of_filter : all_in Filter filters ≡ true

abbrev LaterParts : List IptChain → Type 0
LaterParts chains = (nats : List IptChain) × (filters : List IptChain) × (chains ≡ nats ++ filters) × (all_in Nat nats ≡ true) × (all_in Filter filters ≡ true)

later_tables : (chains : List IptChain) → are_in_order 1 chains ≡ true → LaterParts chains
later_tables [] h = ([], [], refl, refl, refl)
later_tables (chain ∷ chains) h =
    let parts = and_parts (nat_le 1 (rank_of chain.table)) (are_in_order (rank_of chain.table) chains) h in
    elim (table_cases chain.table) [
      | inl e ↦ (
        [],
        chain ∷ chains,
        refl,
        refl,
        and_from (is_table Filter chain.table) (all_in Filter chains) (ap (is_table Filter) e) (last_table chains (sym (ap (λ t. are_in_order (rank_of t) chains) e) ∙ parts.1)),
      )
      | inr (inl e) ↦
          (let rest = later_tables chains (sym (ap (λ t. are_in_order (rank_of t) chains) e) ∙ parts.1) in
          (chain ∷ rest.0, rest.1, ap (λ list. chain ∷ list) rest.2, and_from (is_table Nat chain.table) (all_in Nat rest.0) (ap (is_table Nat) e) rest.3, rest.4))
      | inr (inr e) ↦ absurd (true≢false (sym parts.0 ∙ ap (λ t. nat_le 1 (rank_of t)) e))
    ]

pub tables_divided : (chains : List IptChain) → are_in_order 0 chains ≡ true → Parts chains
tables_divided [] h = record { mangles = []; nats = []; filters = []; divides = refl; of_mangle = refl; of_nat = refl; of_filter = refl }
tables_divided (chain ∷ chains) h =
    let parts = and_parts (nat_le 0 (rank_of chain.table)) (are_in_order (rank_of chain.table) chains) h in
    elim (table_cases chain.table) [
      | inl e ↦
          record {
            mangles = [];
            nats = [];
            filters = chain ∷ chains;
            divides = refl;
            of_mangle = refl;
            of_nat = refl;
            of_filter = and_from (is_table Filter chain.table) (all_in Filter chains) (ap (is_table Filter) e) (last_table chains (sym (ap (λ t. are_in_order (rank_of t) chains) e) ∙ parts.1));
          }
      | inr (inl e) ↦
          (let rest = later_tables chains (sym (ap (λ t. are_in_order (rank_of t) chains) e) ∙ parts.1) in
          record {
            mangles = [];
            nats = chain ∷ rest.0;
            filters = rest.1;
            divides = ap (λ list. chain ∷ list) rest.2;
            of_mangle = refl;
            of_nat = and_from (is_table Nat chain.table) (all_in Nat rest.0) (ap (is_table Nat) e) rest.3;
            of_filter = rest.4;
          })
      | inr (inr e) ↦
          (let rest = tables_divided chains (sym (ap (λ t. are_in_order (rank_of t) chains) e) ∙ parts.1) in
          record {
            mangles = chain ∷ rest.mangles;
            nats = rest.nats;
            filters = rest.filters;
            divides = ap (λ list. chain ∷ list) rest.divides;
            of_mangle = and_from (is_table Mangle chain.table) (all_in Mangle rest.mangles) (ap (is_table Mangle) e) rest.of_mangle;
            of_nat = rest.of_nat;
            of_filter = rest.of_filter;
          })
    ]
