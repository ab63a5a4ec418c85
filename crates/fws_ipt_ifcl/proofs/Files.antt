-- The file's chains, and the chains that stand for them in the diagram.
use Rattle.std.proofs.Common.{◌≡◌, ℕ, zero, suc, ◌+◌, ◌<◌, Bool, true, false, cond, ◌&&◌, ◌||◌, nat_eq, slice_get, Option, Some, None, is_some, is_none, option_map, List, [], ◌∷◌, ◌++◌, length, map, Contains, bytes_eq, arith, refl, sym, ap, ◌∙◌, subst, ⊎_elim}
use Rattle.std.proofs.lemmas.Bool.{false≢true, and_parts, cases_eq, eq-eqb, ne_eqb}
use Rattle.std.proofs.lemmas.Option.{slice_get-map, slice_get_within}
use Rattle.std.proofs.lemmas.Slice.Eq.{bytes_eq-Decides}
use Rattle.std.specs.List.{list_all, list_any}
use Rattle.std.specs.Option.{option_map_or}
use Rattle.fws_net.specs.declared.site.Site.{Site}
use Rattle.fws_ifcl.specs.declared.diagram.Chain.{Chain}
use Rattle.fws_ifcl.specs.Walk.{rules_at}
use Rattle.fws_ipt.specs.declared.config.IptChain.{IptChain}
use Rattle.fws_ipt.specs.declared.config.IptGo.{IptGo}
use Rattle.fws_ipt.specs.declared.config.IptGo.TheVariants as goes
use Rattle.fws_ipt.specs.declared.config.IptTable.{IptTable}
use Rattle.fws_ipt.specs.declared.config.IptTable.TheVariants.{Filter, Nat, Mangle}
use Rattle.fws_ipt.specs.declared.hook.Hook.{Hook}
use Rattle.fws_ipt.specs.declared.hook.Hook.TheVariants.{Prerouting, Input, Forward, Output, Postrouting}
use Rattle.fws_ipt.specs.Refusals.{named_by}
use Rattle.fws_ipt.specs.Soundness.{is_user_chain, fits}
use Rattle.fws_ipt.specs.Walk.{is_table, hook_name, stands_at, builtin_from, writes_src_at}
use Rattle.fws_ipt_ifcl.specs.declared.side.SideTest.{SideTest}
use Rattle.fws_ipt_ifcl.specs.Diagram.{own_chains, chain_for, is_on_source}

-- Lists

pub same_item : {X : Type 0} (x y : X) → Some x ≡ Some y → x ≡ y
same_item x y is = ap (λ o. option_map_or (λ z. z) o x) is

pub no_item : {X : Type 0} (x : X) → None ≡ Some x → ⊥
no_item x is = false≢true (ap is_some is)

-- what each item passes, at a place
pub all_at : {X : Type 0} (test : X → Bool) (xs : List X) (n : ℕ) (x : X) → list_all test xs ≡ true → slice_get xs n ≡ Some x → test x ≡ true
all_at test [] n x all is = absurd (no_item x is)
all_at test (y ∷ ys) zero x all is = subst (λ z. test z ≡ true) (same_item y x is) (and_parts (test y) (list_all test ys) all).0
all_at test (y ∷ ys) (suc n) x all is = all_at test ys n x (and_parts (test y) (list_all test ys) all).1 is

-- and wherever it stands
pub all_contained : {X : Type 0} (test : X → Bool) (xs : List X) (x : X) → list_all test xs ≡ true → Contains xs x → test x ≡ true
all_contained test [] x all (n, lt, is) = absurd (omega (arith, lt))
all_contained test (y ∷ ys) x all (zero, lt, is) = subst (λ z. test z ≡ true) is (and_parts (test y) (list_all test ys) all).0
all_contained test (y ∷ ys) x all (suc n, lt, is) = all_contained test ys x (and_parts (test y) (list_all test ys) all).1 (n, omega (arith, lt), is)

-- Numbers behind the diagram's own chains

pub nat_moved : (c q : ℕ) → nat_eq (c + 3) (q + 3) ≡ nat_eq c q
nat_moved c q =
    ⊎_elim
    (λ same. eq-eqb (c + 3) (q + 3) (ap (λ n. n + 3) same) ∙ sym (eq-eqb c q same))
    (λ other. ne_eqb (c + 3) (q + 3) (λ is. other (omega (arith, is))) ∙ sym (ne_eqb c q other))
    (cases_eq c q)

pub any_moved : (c : ℕ) (path : List ℕ) → list_any (nat_eq (c + 3)) (map (λ q. q + 3) path) ≡ list_any (nat_eq c) path
any_moved c [] = refl
any_moved c (q ∷ path) =
    ap (λ b. b || list_any (nat_eq (c + 3)) (map (λ q. q + 3) path)) (nat_moved c q) ∙ ap (λ b. nat_eq c q || b) (any_moved c path)

-- the diagram's chain behind its own
pub file_chain : (asks : SideTest) (site : Site) (chains : List IptChain) (c : ℕ)
    → slice_get (own_chains ++ map (chain_for asks site) chains) (c + 3) ≡ option_map (chain_for asks site) (slice_get chains c)
file_chain asks site chains c =
    let behind : c + 3 ≡ suc (suc (suc c)) = omega arith in
    ap (slice_get (own_chains ++ map (chain_for asks site) chains)) behind ∙ slice_get-map (chain_for asks site) chains c

pub file_rules : (asks : SideTest) (site : Site) (chains : List IptChain) (c : ℕ)
    → rules_at (own_chains ++ map (chain_for asks site) chains) (c + 3) ≡ option_map_or (λ (chain : Chain). chain.rules) (option_map (chain_for asks site) (slice_get chains c)) []
file_rules asks site chains c = ap (λ o. option_map_or (λ (chain : Chain). chain.rules) o []) (file_chain asks site chains c)

-- Chains that a stage of a table at a hook may come to

-- the chain is one of the table, and where it is built in its name tells on which side it stands
abbrev pub Suits : List IptChain → IptTable → Hook → ℕ → Type 0
Suits chains table hook c =
    (chain : IptChain) → slice_get chains c ≡ Some chain → (table ≡ chain.table) × (is_some chain.policy ≡ true → is_on_source chain.name ≡ writes_src_at hook)

pub table_same : (a b : IptTable) → is_table a b ≡ true → a ≡ b
table_same Filter Filter is = refl
table_same Nat Nat is = refl
table_same Mangle Mangle is = refl
table_same _ _ is = absurd (false≢true is)

none_or_some : (o : Option Bool) → is_none o ≡ true → is_some o ≡ true → ⊥
none_or_some None is isnt = false≢true isnt
none_or_some (Some b) is isnt = false≢true is

-- a user's chain of the table
user_suits : (chains : List IptChain) (table : IptTable) (hook : Hook) (c : ℕ) → is_user_chain table chains c ≡ true → Suits chains table hook c
user_suits chains table hook c user chain is =
    let at : (is_table table chain.table && is_none chain.policy) ≡ true =
    subst (λ o. option_map_or (λ (chain : IptChain). is_table table chain.table && is_none chain.policy) o false ≡ true) is user in
    let both = and_parts (is_table table chain.table) (is_none chain.policy) at in
    (table_same table chain.table both.0, λ built. absurd (none_or_some chain.policy both.1 built))

pub named_user : (chains : List IptChain) (table : IptTable) (go : IptGo) (d : ℕ) → named_by go ≡ Some d → fits table chains go ≡ true → is_user_chain table chains d ≡ true
named_user chains table (goes.Jump c) d is fit = subst (λ n. is_user_chain table chains n ≡ true) (same_item c d is) fit
named_user chains table (goes.Goto c) d is fit = subst (λ n. is_user_chain table chains n ≡ true) (same_item c d is) fit
named_user chains table _ d is fit = absurd (no_item d is)

within_if : (table : IptTable) (chains : List IptChain) (c : ℕ) (o : Option IptChain) → slice_get chains c ≡ o
    → option_map_or (λ (chain : IptChain). is_table table chain.table && is_none chain.policy) o false ≡ true → c < length chains
within_if table chains c None is user = absurd (false≢true user)
within_if table chains c (Some chain) is user = slice_get_within chains c chain is

pub user_within : (table : IptTable) (chains : List IptChain) (c : ℕ) → is_user_chain table chains c ≡ true → c < length chains
user_within table chains c user = within_if table chains c (slice_get chains c) refl user

-- the chain that a fitting rule names
pub named_suits : (chains : List IptChain) (table : IptTable) (hook : Hook) (go : IptGo) (d : ℕ) → named_by go ≡ Some d → fits table chains go ≡ true
    → Suits chains table hook d
named_suits chains table hook go d is fit = user_suits chains table hook d (named_user chains table go d is fit)

-- Built-in chains

pub record Built (chains : List IptChain) (table : IptTable) (hook : Hook) (c : ℕ) : Type 0 where
  pub chain : IptChain
  pub is : slice_get chains c ≡ Some chain
  pub stands : stands_at table hook chain ≡ true

-- from n on
record BuiltFrom (chains : List IptChain) (table : IptTable) (hook : Hook) (n c : ℕ) : Type 0 where
  place : ℕ
  far : c ≡ place + n
  there : Built chains table hook place

found_or : (b : Bool) (x : IptChain) (chains : List IptChain) (table : IptTable) (hook : Hook) (n c : ℕ) → stands_at table hook x ≡ b
    → (builtin_from (suc n) table hook chains ≡ Some c → BuiltFrom chains table hook (suc n) c)
    → cond b (Some n) (builtin_from (suc n) table hook chains) ≡ Some c → BuiltFrom (x ∷ chains) table hook n c
found_or true x chains table hook n c stands further is =
    let same : n ≡ c = same_item n c is in
    record { place = 0; far = omega (arith, same); there = record { chain = x; is = refl; stands = stands } }
found_or false x chains table hook n c stands further is =
    let later = further is in
    let far : c ≡ later.place + suc n = later.far in
    record { place = suc later.place; far = omega (arith, far); there = record { chain = later.there.chain; is = later.there.is; stands = later.there.stands } }

found : (chains : List IptChain) (table : IptTable) (hook : Hook) (n c : ℕ) → builtin_from n table hook chains ≡ Some c → BuiltFrom chains table hook n c
found [] table hook n c is = absurd (no_item c is)
found (x ∷ chains) table hook n c is = found_or (stands_at table hook x) x chains table hook n c refl (found chains table hook (suc n) c) is

pub built_in : (chains : List IptChain) (table : IptTable) (hook : Hook) (c : ℕ) → builtin_from 0 table hook chains ≡ Some c → Built chains table hook c
built_in chains table hook c is =
    let here = found chains table hook 0 c is in
    let far : c ≡ here.place + 0 = here.far in
    let same : here.place ≡ c = omega (arith, far) in
    subst (Built chains table hook) same here.there

three_parts : (a b c : Bool) → (a && b && c) ≡ true → (a ≡ true) × (b ≡ true) × (c ≡ true)
three_parts true true true is = (refl, refl, refl)
three_parts true true false is = absurd (false≢true is)
three_parts true false c is = absurd (false≢true is)
three_parts false b c is = absurd (false≢true is)

-- what stands at a hook is of the table, has the hook's name and a policy
pub stands_parts : (table : IptTable) (hook : Hook) (chain : IptChain) → stands_at table hook chain ≡ true
    → (table ≡ chain.table) × (chain.name ≡ hook_name hook) × (is_some chain.policy ≡ true)
stands_parts table hook chain stands =
    let parts = three_parts (is_table table chain.table) (bytes_eq chain.name (hook_name hook)) (is_some chain.policy) stands in
    (table_same table chain.table parts.0, (bytes_eq-Decides chain.name (hook_name hook)).0 parts.1, parts.2)

hook_side : (hook : Hook) → is_on_source (hook_name hook) ≡ writes_src_at hook
hook_side Prerouting = refl
hook_side Input = refl
hook_side Forward = refl
hook_side Output = refl
hook_side Postrouting = refl

pub built_suits : (chains : List IptChain) (table : IptTable) (hook : Hook) (c : ℕ) → Built chains table hook c → Suits chains table hook c
built_suits chains table hook c built chain is =
    let same : built.chain ≡ chain = same_item built.chain chain (sym built.is ∙ is) in
    let parts = stands_parts table hook chain (subst (λ x. stands_at table hook x ≡ true) same built.stands) in
    (parts.0, λ some. ap is_on_source parts.1 ∙ hook_side hook)

pub built_within : (chains : List IptChain) (table : IptTable) (hook : Hook) (c : ℕ) → Built chains table hook c → c < length chains
built_within chains table hook c built = slice_get_within chains c built.chain built.is
