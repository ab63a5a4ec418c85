-- Packets meet each built-in chain of a text.
use Rattle.std.proofs.Common.{◌≡◌, ℕ, zero, suc, ◌+◌, Bool, true, false, cond, ◌&&◌, not, nat_eq, slice_get, Option, Some, None, is_some, is_none, IfSome, List, [], ◌∷◌, ◌++◌, bytes_eq, arith, refl, sym, ap, ◌∙◌, subst}
use Rattle.std.proofs.lemmas.Bool.{false≢true, and_parts, eq-eqb, not-true, or_left, or_right}
use Rattle.std.proofs.lemmas.Slice.Eq.{bytes_eq-Decides}
use Rattle.std.specs.List.{list_all, list_any}
use Rattle.std.specs.Option.{option_map_or}
use Rattle.fws_num.specs.Named.{named_in}
use Rattle.fws_ipt.specs.declared.config.IptChain.{IptChain}
use Rattle.fws_ipt.specs.declared.config.IptTable.{IptTable}
use Rattle.fws_ipt.specs.declared.config.IptTable.TheVariants.{Filter, Nat, Mangle}
use Rattle.fws_ipt.specs.declared.hook.Hook.{Hook}
use Rattle.fws_ipt.specs.declared.hook.Hook.TheVariants.{Prerouting, Input, Forward, Output, Postrouting}
use Rattle.fws_ipt.specs.Hooks.{hooks, hook_named, has_hook}
use Rattle.fws_ipt.specs.RuleText.{is_chain, is_builtin_name}
use Rattle.fws_ipt.specs.Soundness.{is_named, are_apart}
use Rattle.fws_ipt.specs.Walk.{is_table, hook_name, stands_at, builtin_from, arriving, delivered, forwarded, sent_out}
use Rattle.fws_ipt_ifcl.specs.Fitting.{is_met, AreMet}
use Rattle.fws_ipt_ifcl.proofs.Files.{same_item, no_item, all_at}

-- The hook of a name

-- the value that was found has this name
abbrev Bears : List ℕ → Option Hook → Type 0
Bears name o = IfSome o (λ hook. name ≡ hook_name hook)

row_bears : (name : List ℕ) (row : List ℕ × Hook) (o : Option Hook) (b : Bool) → bytes_eq name row.0 ≡ b → bytes_eq row.0 (hook_name row.1) ≡ true → Bears name o
    → Bears name (cond b (Some row.1) o)
row_bears name row o true here same h = (bytes_eq-Decides name row.0).0 here ∙ (bytes_eq-Decides row.0 (hook_name row.1)).0 same
row_bears name row o false here same h = h

rows_bear : (name : List ℕ) (rows : List (List ℕ × Hook)) → list_all (λ row. bytes_eq row.0 (hook_name row.1)) rows ≡ true → Bears name (named_in rows name)
rows_bear name [] h = tt
rows_bear name (row ∷ rows) h =
    let both = and_parts (bytes_eq row.0 (hook_name row.1)) (list_all (λ row. bytes_eq row.0 (hook_name row.1)) rows) h in
    row_bears name row (named_in rows name) (bytes_eq name row.0) refl both.0 (rows_bear name rows both.1)

hook_bears : (name : List ℕ) → Bears name (hook_named name)
unfolding hook_named
hook_bears name = rows_bear name hooks refl

-- a hook of the table, with the name of a chain
record Placed (table : IptTable) (name : List ℕ) : Type 0 where
  hook : Hook
  has : has_hook table hook ≡ true
  is : name ≡ hook_name hook

hook_placed : (table : IptTable) (name : List ℕ) (o : Option Hook) → Bears name o → option_map_or (has_hook table) o false ≡ true → Placed table name
hook_placed table name None bears h = absurd (false≢true h)
hook_placed table name (Some hook) bears h = record { hook = hook; has = h; is = bears }

policy_placed : (b : Bool) (policy : Option Bool) → cond b (is_some policy) (is_none policy) ≡ true → is_some policy ≡ true → b ≡ true
policy_placed true policy h some = refl
policy_placed false None h some = absurd (false≢true some)
policy_placed false (Some accepts) h some = absurd (false≢true h)

-- a chain with a policy stands at a hook
chain_placed : (chain : IptChain) → is_named chain ≡ true → is_some chain.policy ≡ true → Placed chain.table chain.name
chain_placed chain named some =
    hook_placed chain.table chain.name (hook_named chain.name) (hook_bears chain.name) (policy_placed (is_builtin_name chain.table chain.name) chain.policy named some)

-- The number of a chain

table_itself : (table : IptTable) → is_table table table ≡ true
table_itself Filter = refl
table_itself Nat = refl
table_itself Mangle = refl

all_three : (a b c : Bool) → a ≡ true → b ≡ true → c ≡ true → (a && b && c) ≡ true
all_three true true true h k l = refl
all_three true true false h k l = l
all_three true false c h k l = k
all_three false b c h k l = h

-- the chain stands at its hook
stands_there : (hook : Hook) (chain : IptChain) → chain.name ≡ hook_name hook → is_some chain.policy ≡ true → stands_at chain.table hook chain ≡ true
stands_there hook chain is some =
    all_three (is_table chain.table chain.table) (bytes_eq chain.name (hook_name hook)) (is_some chain.policy) (table_itself chain.table)
    ((bytes_eq-Decides chain.name (hook_name hook)).1 is) some

-- a chain with another table or name doesn't
stands_elsewhere : (hook : Hook) (chain other : IptChain) → chain.name ≡ hook_name hook → not (is_chain chain.table chain.name other) ≡ true → stands_at chain.table hook other ≡ false
stands_elsewhere hook chain other is differs =
    ap (λ name. is_table chain.table other.table && bytes_eq other.name name && is_some other.policy) (sym is)
    ∙ ap (λ b. b && is_some other.policy) (not-true (is_chain chain.table chain.name other) differs)

-- where chains are apart, a chain is the first at its hook
first_there : (hook : Hook) (chain : IptChain) → chain.name ≡ hook_name hook → is_some chain.policy ≡ true → (chains : List IptChain) (n m k : ℕ) → are_apart chains ≡ true
    → slice_get chains n ≡ Some chain → k ≡ n + m → builtin_from m chain.table hook chains ≡ Some k
first_there hook chain is some [] n m k apart at far = absurd (no_item chain at)
first_there hook chain is some (x ∷ xs) zero m k apart at far =
    let same : x ≡ chain = same_item x chain at in
    let here : stands_at chain.table hook x ≡ true = subst (λ y. stands_at chain.table hook y ≡ true) (sym same) (stands_there hook chain is some) in
    let number : m ≡ k = omega (arith, far) in
    ap (λ b. cond b (Some m) (builtin_from (suc m) chain.table hook xs)) here ∙ ap Some number
first_there hook chain is some (x ∷ xs) (suc n) m k apart at far =
    let differs : IptChain → Bool = λ later. not (is_chain later.table later.name x) in
    let both = and_parts (list_all differs xs) (are_apart xs) apart in
    let before = stands_elsewhere hook chain x is (all_at differs xs n chain both.0 at) in
    let number : k ≡ n + suc m = omega (arith, far) in
    ap (λ b. cond b (Some m) (builtin_from (suc m) chain.table hook xs)) before ∙ first_there hook chain is some xs n (suc m) k both.1 at number

-- Where packets meet chains

any_at : {X : Type 0} (test : X → Bool) (xs : List X) (n : ℕ) (x : X) → slice_get xs n ≡ Some x → test x ≡ true → list_any test xs ≡ true
any_at test [] n x at h = absurd (no_item x at)
any_at test (y ∷ ys) zero x at h = or_left (test y) (list_any test ys) (subst (λ z. test z ≡ true) (sym (same_item y x at)) h)
any_at test (y ∷ ys) (suc n) x at h = or_right (test y) (list_any test ys) (any_at test ys n x at h)

abbrev places : List (IptTable × Hook)
places = arriving ++ delivered ++ forwarded ++ sent_out

-- packets meet each hook of each table
place_met : (table : IptTable) (hook : Hook) → has_hook table hook ≡ true → (n : ℕ) × (slice_get places n ≡ Some (table, hook))
place_met Filter Prerouting h = absurd (false≢true h)
place_met Filter Input h = (3, refl)
place_met Filter Forward h = (6, refl)
place_met Filter Output h = (11, refl)
place_met Filter Postrouting h = absurd (false≢true h)
place_met Nat Prerouting h = (1, refl)
place_met Nat Input h = (4, refl)
place_met Nat Forward h = absurd (false≢true h)
place_met Nat Output h = (10, refl)
place_met Nat Postrouting h = (8, refl)
place_met Mangle Prerouting h = (0, refl)
place_met Mangle Input h = (2, refl)
place_met Mangle Forward h = (5, refl)
place_met Mangle Output h = (9, refl)
place_met Mangle Postrouting h = (7, refl)

chain_met : (chains : List IptChain) (n : ℕ) (chain : IptChain) → are_apart chains ≡ true → slice_get chains n ≡ Some chain → is_some chain.policy ≡ true
    → Placed chain.table chain.name → is_met chains n ≡ true
chain_met chains n chain apart at some placed =
    let there = place_met chain.table placed.hook placed.has in
    let own : n ≡ n + 0 = omega arith in
    let number = first_there placed.hook chain placed.is some chains n 0 n apart at own in
    any_at (λ at. option_map_or (nat_eq n) (builtin_from 0 at.0 at.1 chains) false) places there.0 (chain.table, placed.hook) there.1
    (ap (λ o. option_map_or (nat_eq n) o false) number ∙ eq-eqb n n refl)

there_met : (chains : List IptChain) (n : ℕ) (o : Option IptChain) → list_all is_named chains ≡ true → are_apart chains ≡ true → slice_get chains n ≡ o
    → option_map_or (λ chain. is_some chain.policy) o false ≡ true → is_met chains n ≡ true
there_met chains n None named apart at some = absurd (false≢true some)
there_met chains n (Some chain) named apart at some = chain_met chains n chain apart at some (chain_placed chain (all_at is_named chains n chain named at) some)

pub all_met : (chains : List IptChain) → list_all is_named chains ≡ true → are_apart chains ≡ true → AreMet chains
all_met chains named apart n built = there_met chains n (slice_get chains n) named apart refl built
