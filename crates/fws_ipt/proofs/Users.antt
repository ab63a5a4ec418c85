-- Chains by their numbers: those that rules name, and those that rules are put in.
use Rattle.std.proofs.Common.{◌≡◌, ℕ, zero, suc, Bool, true, false, cond, ◌&&◌, Option, Some, None, is_some, is_none, option_map, Err, ok_or, List, [], ◌∷◌, ◌++◌, slice_get, bytes_eq, IfOk, IfSome, refl, sym, ◌∙◌, ap, subst}
use Rattle.std.proofs.lemmas.Bool.{false≢true, and_parts, and_from}
use Rattle.std.proofs.lemmas.List.Folds.{list_all-append}
use Rattle.std.proofs.lemmas.Option.{IfSome_then}
use Rattle.std.proofs.lemmas.Slice.Eq.{bytes_eq-Decides}
use Rattle.std.specs.List.{list_all}
use Rattle.std.specs.Option.{option_map_or}
use Rattle.fws_net.specs.declared.cause.Cause.TheVariants.{NoName}
use Rattle.fws_ipt.specs.declared.config.IptTable.{IptTable}
use Rattle.fws_ipt.specs.declared.config.IptTable.TheVariants.{Filter, Nat, Mangle}
use Rattle.fws_ipt.specs.declared.config.IptGo.{IptGo}
use Rattle.fws_ipt.specs.declared.config.IptGo.TheVariants.{Jump, Goto}
use Rattle.fws_ipt.specs.declared.config.IptRule.{IptRule}
use Rattle.fws_ipt.specs.declared.config.IptChain.{IptChain}
use Rattle.fws_ipt.specs.FileText.{with_rule}
use Rattle.fws_ipt.specs.RuleText.{is_chain, chain_from, is_builtin_name, user_chain}
use Rattle.fws_ipt.specs.Soundness.{is_user_chain, fits, chain_fits, is_named}
use Rattle.fws_ipt.specs.Walk.{is_table}
use Rattle.fws_ipt.proofs.Outcomes.{either_holds, ok_or_holds}

-- Lists and places

-- the element at this place passes the test
abbrev pub is_at : {X : Type 0} → (X → Bool) → List X → ℕ → Bool
is_at test xs n = option_map_or test (slice_get xs n) false

pub all_weaker : {X : Type 0} (p q : X → Bool) → ((x : X) → p x ≡ true → q x ≡ true) → (xs : List X) → list_all p xs ≡ true → list_all q xs ≡ true
all_weaker p q step [] h = refl
all_weaker p q step (x ∷ xs) h = let both = and_parts (p x) (list_all p xs) h in and_from (q x) (list_all q xs) (step x both.0) (all_weaker p q step xs both.1)

-- what follows for each element from two tests
pub both_pass : {X : Type 0} (p q r : X → Bool) → ((x : X) → p x ≡ true → q x ≡ true → r x ≡ true) → (xs : List X) → list_all p xs ≡ true → list_all q xs ≡ true → list_all r xs ≡ true
both_pass p q r step [] h k = refl
both_pass p q r step (x ∷ xs) h k =
    let one = and_parts (p x) (list_all p xs) h in
    let other = and_parts (q x) (list_all q xs) k in
    and_from (r x) (list_all r xs) (step x one.0 other.0) (both_pass p q r step xs one.1 other.1)

-- what each element passes, and a test at one place
pub at_both : {X : Type 0} (p q r : X → Bool) → ((x : X) → p x ≡ true → q x ≡ true → r x ≡ true) → (xs : List X) (n : ℕ) → list_all p xs ≡ true → is_at q xs n ≡ true → is_at r xs n ≡ true
at_both p q r step [] n h k = k
at_both p q r step (x ∷ xs) zero h k = step x (and_parts (p x) (list_all p xs) h).0 k
at_both p q r step (x ∷ xs) (suc n) h k = at_both p q r step xs n (and_parts (p x) (list_all p xs) h).1 k

pub at_weaker : {X : Type 0} (q r : X → Bool) → ((x : X) → q x ≡ true → r x ≡ true) → (xs : List X) (n : ℕ) → is_at q xs n ≡ true → is_at r xs n ≡ true
at_weaker q r step [] n k = k
at_weaker q r step (x ∷ xs) zero k = step x k
at_weaker q r step (x ∷ xs) (suc n) k = at_weaker q r step xs n k

-- places stay where more stands behind
at_longer : {X : Type 0} (q : X → Bool) (xs more : List X) (n : ℕ) → is_at q xs n ≡ true → is_at q (xs ++ more) n ≡ true
at_longer q [] more n k = absurd (false≢true k)
at_longer q (x ∷ xs) more zero k = k
at_longer q (x ∷ xs) more (suc n) k = at_longer q xs more n k

-- The chain that a name finds

later : (b : Bool) (n : ℕ) (o p : Option ℕ) → o ≡ option_map suc p → cond b (Some (suc n)) o ≡ option_map suc (cond b (Some n) p)
later true n o p e = refl
later false n o p e = e

chain_later : (n : ℕ) (table : IptTable) (name : List ℕ) (chains : List IptChain) → chain_from (suc n) table name chains ≡ option_map suc (chain_from n table name chains)
chain_later n table name [] = refl
chain_later n table name (chain ∷ chains) =
    later (is_chain table name chain) n (chain_from (suc (suc n)) table name chains) (chain_from (suc n) table name chains) (chain_later (suc n) table name chains)

behind_first : (test : IptChain → Bool) (chain : IptChain) (chains : List IptChain) (o : Option ℕ) → IfSome o (λ n. is_at test chains n ≡ true)
    → IfSome (option_map suc o) (λ n. is_at test (chain ∷ chains) n ≡ true)
behind_first test chain chains None h = tt
behind_first test chain chains (Some n) h = h

found_first : (test : IptChain → Bool) (chain : IptChain) (chains : List IptChain) (b : Bool) (p : Option ℕ) → test chain ≡ b
    → IfSome p (λ n. is_at test (chain ∷ chains) n ≡ true) → IfSome (cond b (Some 0) p) (λ n. is_at test (chain ∷ chains) n ≡ true)
found_first test chain chains true p e h = e
found_first test chain chains false p e h = h

pub chain_found : (table : IptTable) (name : List ℕ) (chains : List IptChain) → IfSome (chain_from 0 table name chains) (λ n. is_at (is_chain table name) chains n ≡ true)
chain_found table name [] = tt
chain_found table name (chain ∷ chains) =
    let more = behind_first (is_chain table name) chain chains (chain_from 0 table name chains) (chain_found table name chains) in
    found_first (is_chain table name) chain chains (is_chain table name chain) (chain_from 1 table name chains) refl
    (subst (λ o. IfSome o (λ n. is_at (is_chain table name) (chain ∷ chains) n ≡ true)) (sym (chain_later 0 table name chains)) more)

-- Chains of the user's

pub table_same : (a b : IptTable) → is_table a b ≡ true → a ≡ b
table_same Filter Filter h = refl
table_same Nat Nat h = refl
table_same Mangle Mangle h = refl
table_same _ _ h = absurd (false≢true h)

other_case : (b p q : Bool) → cond b p q ≡ true → b ≡ false → q ≡ true
other_case true p q h e = absurd (false≢true (sym e))
other_case false p q h e = h

user_here : (table : IptTable) (name : List ℕ) → is_builtin_name table name ≡ false → (chain : IptChain) → is_named chain ≡ true → is_chain table name chain ≡ true
    → (is_table table chain.table && is_none chain.policy) ≡ true
user_here table name user chain named found =
    let both = and_parts (is_table table chain.table) (bytes_eq chain.name name) found in
    let same_table : table ≡ chain.table = table_same table chain.table both.0 in
    let same_name : chain.name ≡ name = (bytes_eq-Decides chain.name name).0 both.1 in
    let other : is_builtin_name chain.table chain.name ≡ false = subst (λ t. is_builtin_name t chain.name ≡ false) same_table (ap (is_builtin_name table) same_name ∙ user) in
    and_from (is_table table chain.table) (is_none chain.policy) both.0
    (other_case (is_builtin_name chain.table chain.name) (is_some chain.policy) (is_none chain.policy) named other)

pub user_found : (table : IptTable) (chains : List IptChain) (name : List ℕ) → list_all is_named chains ≡ true
    → IfOk (user_chain table chains name) (λ n. is_user_chain table chains n ≡ true)
user_found table chains name h =
    either_holds (λ n. is_user_chain table chains n ≡ true) (is_builtin_name table name) (Err NoName) (ok_or (chain_from 0 table name chains) NoName) (λ e. tt)
    (λ user. ok_or_holds (λ n. is_user_chain table chains n ≡ true) (chain_from 0 table name chains) NoName
    (IfSome_then (chain_from 0 table name chains) (chain_found table name chains)
    (λ n found. at_both is_named (is_chain table name) (λ chain. is_table table chain.table && is_none chain.policy) (user_here table name user) chains n h found)))

-- What fits some chains fits others

-- the user's chains are the user's among others
abbrev Users : List IptChain → List IptChain → Type 0
Users chains others = (table : IptTable) (n : ℕ) → is_user_chain table chains n ≡ true → is_user_chain table others n ≡ true

fits_others : (chains others : List IptChain) → Users chains others → (table : IptTable) (go : IptGo) → fits table chains go ≡ true → fits table others go ≡ true
fits_others chains others users table (Jump n) h = users table n h
fits_others chains others users table (Goto n) h = users table n h
fits_others chains others users table _ h = h

all_fit_others : (chains others : List IptChain) → Users chains others → (part : List IptChain) → list_all (chain_fits chains) part ≡ true → list_all (chain_fits others) part ≡ true
all_fit_others chains others users =
    all_weaker (chain_fits chains) (chain_fits others)
    (λ chain. all_weaker (λ rule. fits chain.table chains rule.go) (λ rule. fits chain.table others rule.go) (λ rule. fits_others chains others users chain.table rule.go) chain.rules)

-- A chain more

-- a chain without rules fits behind the others
pub longer_fits : (chains : List IptChain) (chain : IptChain) → chain.rules ≡ [] → list_all (chain_fits chains) chains ≡ true
    → list_all (chain_fits (chains ++ chain ∷ [])) (chains ++ chain ∷ []) ≡ true
longer_fits chains chain e h =
    let all = chains ++ chain ∷ [] in
    let before = all_fit_others chains all (λ table n. at_longer (λ c. is_table table c.table && is_none c.policy) chains (chain ∷ []) n) chains h in
    let here : chain_fits all chain ≡ true = ap (list_all (λ rule. fits chain.table all rule.go)) e in
    list_all-append (chain_fits all) chains (chain ∷ [])
    ∙ and_from (list_all (chain_fits all) chains) (list_all (chain_fits all) (chain ∷ [])) before (and_from (chain_fits all chain) true here refl)

pub longer_named : (chains : List IptChain) (chain : IptChain) → is_named chain ≡ true → list_all is_named chains ≡ true → list_all is_named (chains ++ chain ∷ []) ≡ true
longer_named chains chain here h =
    list_all-append is_named chains (chain ∷ []) ∙ and_from (list_all is_named chains) (list_all is_named (chain ∷ [])) h (and_from (is_named chain) true here refl)

-- A rule more

-- a test that doesn't look at rules
pub ruled_alike : (test : IptChain → Bool) → ((chain : IptChain) (rules : List IptRule) → test (record chain { rules = rules }) ≡ test chain) → (n : ℕ) (rule : IptRule) (chains : List IptChain)
    → list_all test (with_rule n rule chains) ≡ list_all test chains
ruled_alike test blind n rule [] = refl
ruled_alike test blind zero rule (chain ∷ chains) = ap (λ b. b && list_all test chains) (blind chain (chain.rules ++ rule ∷ []))
ruled_alike test blind (suc n) rule (chain ∷ chains) = ap (λ b. test chain && b) (ruled_alike test blind n rule chains)

user_as_before : (table : IptTable) (n : ℕ) (rule : IptRule) (chains : List IptChain) (c : ℕ) → is_user_chain table (with_rule n rule chains) c ≡ is_user_chain table chains c
user_as_before table n rule [] c = refl
user_as_before table zero rule (chain ∷ chains) zero = refl
user_as_before table zero rule (chain ∷ chains) (suc c) = refl
user_as_before table (suc n) rule (chain ∷ chains) zero = refl
user_as_before table (suc n) rule (chain ∷ chains) (suc c) = user_as_before table n rule chains c

-- each rule of a chain passes a test that looks at the chain's table and name
abbrev pub rules_pass : (IptTable → List ℕ → IptRule → Bool) → IptChain → Bool
rules_pass test chain = list_all (test chain.table chain.name) chain.rules

pub rule_put : (test : IptTable → List ℕ → IptRule → Bool) (n : ℕ) (rule : IptRule) (chains : List IptChain) → list_all (rules_pass test) chains ≡ true
    → is_at (λ chain. test chain.table chain.name rule) chains n ≡ true → list_all (rules_pass test) (with_rule n rule chains) ≡ true
rule_put test n rule [] h k = refl
rule_put test zero rule (chain ∷ chains) h k =
    let both = and_parts (rules_pass test chain) (list_all (rules_pass test) chains) h in
    let here_test : IptRule → Bool = test chain.table chain.name in
    let here : list_all here_test (chain.rules ++ rule ∷ []) ≡ true =
    list_all-append here_test chain.rules (rule ∷ [])
    ∙ and_from (list_all here_test chain.rules) (list_all here_test (rule ∷ [])) both.0 (and_from (here_test rule) true k refl) in
    and_from (list_all here_test (chain.rules ++ rule ∷ [])) (list_all (rules_pass test) chains) here both.1
rule_put test (suc n) rule (chain ∷ chains) h k =
    let both = and_parts (rules_pass test chain) (list_all (rules_pass test) chains) h in
    and_from (rules_pass test chain) (list_all (rules_pass test) (with_rule n rule chains)) both.0 (rule_put test n rule chains both.1 k)

-- a rule that fits its table fits at the end of a chain of that table
pub ruled_fits : (table : IptTable) (name : List ℕ) (n : ℕ) (rule : IptRule) (chains : List IptChain) → list_all (chain_fits chains) chains ≡ true
    → is_at (is_chain table name) chains n ≡ true → fits table chains rule.go ≡ true → list_all (chain_fits (with_rule n rule chains)) (with_rule n rule chains) ≡ true
ruled_fits table name n rule chains h found k =
    let all = with_rule n rule chains in
    let users : Users chains all = λ t c e. user_as_before t n rule chains c ∙ e in
    let new : fits table all rule.go ≡ true = fits_others chains all users table rule.go k in
    rule_put (λ t name r. fits t all r.go) n rule chains (all_fit_others chains all users chains h)
    (at_weaker (is_chain table name) (λ chain. fits chain.table all rule.go)
    (λ chain e. subst (λ t. fits t all rule.go ≡ true) (table_same table chain.table (and_parts (is_table table chain.table) (bytes_eq chain.name name) e).0) new) chains n found)

-- a rule that passes a test of its chain's table and name passes at the end of that chain
pub ruled_passes : (test : IptTable → List ℕ → IptRule → Bool) (table : IptTable) (name : List ℕ) (n : ℕ) (rule : IptRule) (chains : List IptChain)
    → list_all (rules_pass test) chains ≡ true → is_at (is_chain table name) chains n ≡ true → test table name rule ≡ true → list_all (rules_pass test) (with_rule n rule chains) ≡ true
ruled_passes test table name n rule chains h found k =
    rule_put test n rule chains h
    (at_weaker (is_chain table name) (λ chain. test chain.table chain.name rule)
    (λ chain e.
    let both = and_parts (is_table table chain.table) (bytes_eq chain.name name) e in
    let there : test chain.table name rule ≡ true = subst (λ t. test t name rule ≡ true) (table_same table chain.table both.0) k in
    subst (λ m. test chain.table m rule ≡ true) (sym ((bytes_eq-Decides chain.name name).0 both.1)) there) chains n found)

-- a chain without rules passes behind the others
pub longer_passes : (test : IptTable → List ℕ → IptRule → Bool) (chains : List IptChain) (chain : IptChain) → chain.rules ≡ [] → list_all (rules_pass test) chains ≡ true
    → list_all (rules_pass test) (chains ++ chain ∷ []) ≡ true
longer_passes test chains chain e h =
    let here : rules_pass test chain ≡ true = ap (list_all (test chain.table chain.name)) e in
    list_all-append (rules_pass test) chains (chain ∷ [])
    ∙ and_from (list_all (rules_pass test) chains) (list_all (rules_pass test) (chain ∷ [])) h (and_from (rules_pass test chain) true here refl)

pub ruled_named : (n : ℕ) (rule : IptRule) (chains : List IptChain) → list_all is_named chains ≡ true → list_all is_named (with_rule n rule chains) ≡ true
ruled_named n rule chains h = ruled_alike is_named (λ chain rules. refl) n rule chains ∙ h
