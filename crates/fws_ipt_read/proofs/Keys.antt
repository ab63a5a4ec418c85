-- The names of chains: how keys are compared, and the place of a key.
use Rattle.std.proofs.Common.{◌≡◌, ◌+◌, ◌<◌, ◌↔◌, IsSome, length, length-append, zero-add, sym, ℕ, suc, false, ◌&&◌, List, [], ◌∷◌, ◌++◌, Option, None, Some, position, map, cond, refl, ap, ◌∙◌, arith}
use Rattle.std.proofs.lemmas.Grind.{common_steps}
use Rattle.std.proofs.lemmas.List.{map-append}
use Rattle.std.specs.Str.{bytes_eq}
use Rattle.std.specs.List.{list_any}
use Rattle.std.specs.Option.{option_map, option_to_list}
use Rattle.indexmap.proofs.RemoveLemmas.{popped_last}
use Rattle.std.proofs.lemmas.Cmp.{nat_list_eq_equiv}
use Rattle.fws_ipt.specs.declared.config.IptTable.{IptTable}
use Rattle.fws_ipt.specs.declared.config.IptTable.TheVariants.{Filter, Nat, Mangle}
use Rattle.fws_ipt.specs.declared.config.IptChain.{IptChain}
use Rattle.fws_ipt.specs.Walk.{is_table}
use Rattle.fws_ipt.specs.RuleText.{chain_from}
use Rattle.fws_ipt_read.specs.contracts.chain_names.ChainKeyPartialEq.TheImpl.{eq-value}
use Rattle.fws_ipt_read.specs.declared.chain_names.ChainKey.{ChainKey}
use Rattle.fws_ipt_read.specs.Keys.{is_key, key_of, with_key}
use Rattle.indexmap.specs.IndexSet.{insert_key}

abbrev key : IptTable → List ℕ → ChainKey
key table name = record { table = table; name = name }

at_tables : (a b : IptTable) (x y : List ℕ) → (eq-value).it (record { table = a; name = x }) (record { table = b; name = y }) ≡ (is_table a b && bytes_eq y x)
at_tables Filter Filter x y = nat_list_eq_equiv.symm x y
at_tables Nat Nat x y = nat_list_eq_equiv.symm x y
at_tables Mangle Mangle x y = nat_list_eq_equiv.symm x y
at_tables Filter Nat x y = refl
at_tables Filter Mangle x y = refl
at_tables Nat Filter x y = refl
at_tables Nat Mangle x y = refl
at_tables Mangle Filter x y = refl
at_tables Mangle Nat x y = refl

-- keys are compared by their tables and names
pub compared : (table : IptTable) (name : List ℕ) → (eq-value).it (record { table = table; name = name }) ≡ is_key table name
compared table name = λ i k. at_tables table k.table name k.name i

-- a look-up by a copied name
pub looked_up : (table : IptTable) (copied name : List ℕ) (stored keys : List ChainKey) (r : Option ℕ) → copied ≡ name → stored ≡ keys →
    r ≡ position ((eq-value).it (record { table = table; name = copied })) stored → r ≡ position (is_key table name) keys
looked_up table copied name stored keys r e f h =
    h ∙ ap (λ test. position test stored) (compared table copied) ∙ (λ i. position (is_key table (e i)) (f i))

-- a key with a copied name that was put
pub put_in : (table : IptTable) (copied name : List ℕ) (stored keys new : List ChainKey) → copied ≡ name → stored ≡ keys →
    new ≡ insert_key (eq-value).it stored (record { table = table; name = copied }) → new ≡ with_key table name keys
put_in table copied name stored keys new e f h =
    h ∙ ap (λ test. cond (list_any test stored) stored (stored ++ record { table = table; name = copied } ∷ [])) (compared table copied)
    ∙ (λ i. with_key table (e i) (f i))

-- what is left of keys that end in one, when the last is taken
pub taken : (front stored keys new : List ChainKey) (key : ChainKey) (r : Option ChainKey) → stored ≡ keys → stored ≡ new ++ option_to_list r →
    (IsSome r ↔ (0 < length stored)) → keys ≡ front ++ key ∷ [] → new ≡ front
taken front stored keys new key r e h some f =
    let whole : stored ≡ front ++ key ∷ [] = e ∙ f in
    let many : 0 < length stored = rw whole (omega (arith, length-append front (key ∷ []))) in
    (popped_last front new key r (sym whole ∙ h) (some.1 many)).1

-- the place of a key among the keys of chains, counted from n
pub place-from : (n : ℕ) (table : IptTable) (name : List ℕ) (chains : List IptChain) →
    chain_from n table name chains ≡ option_map (λ i. n + i) (position (is_key table name) (map key_of chains))
place-from n table name [] = refl
place-from n table name (c ∷ cs) = grind (arith, common_steps, place-from (suc n) table name cs)

from_zero : (r : Option ℕ) → option_map (λ i. 0 + i) r ≡ r
from_zero None = refl
from_zero (Some i) = ap Some (zero-add i)

-- the number of a chain is its place
pub found : (table : IptTable) (name : List ℕ) (chains : List IptChain) (keys : List ChainKey) (r : Option ℕ) → keys ≡ map key_of chains →
    r ≡ position (is_key table name) keys → r ≡ chain_from 0 table name chains
found table name chains keys r e h =
    h ∙ ap (position (is_key table name)) e ∙ sym (place-from 0 table name chains ∙ from_zero (position (is_key table name) (map key_of chains)))

-- a chain that has no number has no key
pub absent : (n : ℕ) (table : IptTable) (name : List ℕ) (chains : List IptChain) → chain_from n table name chains ≡ None →
    list_any (is_key table name) (map key_of chains) ≡ false
absent n table name [] h = refl
absent n table name (c ∷ cs) h = grind (arith, common_steps, absent (suc n) table name cs)

-- the keys with that of a chain that was not there
pub with_absent : (table : IptTable) (name : List ℕ) (chains seen : List IptChain) (keys new : List ChainKey) → keys ≡ map key_of chains →
    chains ≡ seen → chain_from 0 table name seen ≡ None → new ≡ with_key table name keys →
    new ≡ map key_of chains ++ record { table = table; name = name } ∷ []
with_absent table name chains seen keys new e view none h =
    let here : chain_from 0 table name chains ≡ None = rw view none in
    let there : list_any (is_key table name) keys ≡ false = rw e (absent 0 table name chains here) in
    h ∙ rw there (ap (λ ks. ks ++ record { table = table; name = name } ∷ []) e)

-- the keys are those of the chains with the one that was put
pub with_declared : (table : IptTable) (name copied : List ℕ) (chains seen made : List IptChain) (keys new : List ChainKey) (chain : IptChain) →
    keys ≡ map key_of chains → chains ≡ seen → chain_from 0 table name seen ≡ None → new ≡ with_key table name keys →
    key_of chain ≡ record { table = table; name = copied } → copied ≡ name → made ≡ chains ++ chain ∷ [] → new ≡ map key_of made
with_declared table name copied chains seen made keys new chain e view none h k c m =
    with_absent table name chains seen keys new e view none h
    ∙ sym (ap (map key_of) m ∙ map-append key_of chains (chain ∷ [])
    ∙ ap (λ one. map key_of chains ++ one ∷ []) (k ∙ ap (λ n. key table n) c))
