-- Pools by their names.
use Rattle.std.proofs.Common.{◌≡◌, ℕ, Bool, true, false, Option, None, Some, is_some, List, [], ◌∷◌, ◌++◌, map, cond, refl, sym, ap, ◌∙◌, true≢false}
use Rattle.std.proofs.lemmas.Cmp.{nat_list_eq_equiv}
use Rattle.std.proofs.lemmas.List.{map-append}
use Rattle.std.specs.Map.{lookup}
use Rattle.std.specs.Option.{option_map}
use Rattle.std.specs.Str.{bytes_eq}
use Rattle.indexmap.specs.IndexMap.{IndexMap, insert_entry}
use Rattle.indexmap.proofs.CallerLemmas.{insert_entry-new}
use Rattle.fws_ios.specs.declared.draft.Pool.{Pool}
use Rattle.fws_ios.specs.FileText.{with_defined}
use Rattle.fws_ios.specs.NatText.{pool_named}
use Rattle.fws_ios_read.specs.Keys.{pool_of}

-- the address of a pool that was found
abbrev pub addr_of : Option Pool → Option ℕ
addr_of o = option_map (λ (pool : Pool). pool.addr) o

found_entry : (b c : Bool) (e : List ℕ × ℕ) (o : Option ℕ) (p : Option Pool) → b ≡ c → o ≡ addr_of p → cond b (Some e.1) o ≡ addr_of (cond c (Some (pool_of e)) p)
found_entry true true e o p same h = refl
found_entry false false e o p same h = h
found_entry true false e o p same h = absurd (true≢false same)
found_entry false true e o p same h = absurd (true≢false (sym same))

looked_up : (name : List ℕ) (es : List (List ℕ × ℕ)) → lookup (bytes_eq name) es ≡ addr_of (pool_named name (map pool_of es))
looked_up name [] = refl
looked_up name (e ∷ es) =
    found_entry (bytes_eq name e.0) (bytes_eq e.0 name) e (lookup (bytes_eq name) es) (pool_named name (map pool_of es)) (nat_list_eq_equiv.symm name e.0)
    (looked_up name es)

-- what is asked of the entries is known of the pools
pub address_now : (name : List ℕ) (es : List (List ℕ × ℕ)) (known : List Pool) (o : Option ℕ) → map pool_of es ≡ known → o ≡ lookup (bytes_eq name) es →
    o ≡ addr_of (pool_named name known)
address_now name es known o view h = h ∙ looked_up name es ∙ ap (λ k. addr_of (pool_named name k)) view

-- a pool was found
some_addr : (p : Option Pool) → is_some (addr_of p) ≡ is_some p
some_addr None = refl
some_addr (Some pool) = refl

none_found : (o : Option ℕ) → is_some o ≡ false → o ≡ None
none_found None e = refl
none_found (Some addr) e = absurd (true≢false e)

-- a pool whose name is new goes behind the others
pub put_new : {S : Type 0} (pool : Pool) (m : IndexMap (List ℕ) ℕ S) (known : List Pool) (new : List (List ℕ × ℕ)) (o : Option ℕ) → map pool_of m.entries ≡ known →
    o ≡ addr_of (pool_named pool.name known) → is_some o ≡ false → new ≡ insert_entry bytes_eq m.entries pool.name pool.addr →
    map pool_of new ≡ with_defined pool known
put_new pool m known new o view asked absent h =
    let none : lookup (bytes_eq pool.name) m.entries ≡ None =
    looked_up pool.name m.entries ∙ ap (λ k. addr_of (pool_named pool.name k)) view ∙ sym asked ∙ none_found o absent in
    ap (map pool_of) (h ∙ insert_entry-new bytes_eq m pool.name pool.addr none)
    ∙ map-append pool_of m.entries ((pool.name, pool.addr) ∷ [])
    ∙ ap (λ l. l ++ pool ∷ []) view
    ∙ sym (ap (λ b. cond b known (known ++ pool ∷ [])) (sym (some_addr (pool_named pool.name known)) ∙ sym (ap is_some asked) ∙ absent))
