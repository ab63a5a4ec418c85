-- Nothing hinders that a diagram is unfolded of which no rule calls a chain or goes to one.
use Rattle.std.proofs.Common.{◌≡◌, ℕ, zero, suc, ◌<◌, Bool, true, false, cond, ◌&&◌, ◌||◌, nat_eq, Some, None, option_map, is_some, List, [], ◌∷◌, ◌++◌, length, arith, refl, ap, ◌∙◌}
use Rattle.std.proofs.lemmas.Bool.{ltb-true, and_parts}
use Rattle.std.specs.List.{list_all, list_any}
use Rattle.std.specs.Option.{option_map_or}
use Rattle.fws_ifcl.specs.declared.diagram.Act.{Act}
use Rattle.fws_ifcl.specs.declared.diagram.Act.TheVariants as acts
use Rattle.fws_ifcl.specs.declared.diagram.Chain.{Chain}
use Rattle.fws_ifcl.specs.declared.diagram.Ifcl.{Ifcl}
use Rattle.fws_ifcl.specs.declared.diagram.Rule.{Rule}
use Rattle.fws_ifcl.specs.declared.refusal.UnfoldRefusal.TheVariants.{Loop, Deep, Long}
use Rattle.fws_ifcl.specs.Refusals.{named_by, all_named, named_in, reaches, is_looped, begins_path, is_deep, is_staged, first_chain, loop_of, deep_of, long_of, names_any, passed_at, or_else, refusal_of}
use Rattle.fws_ifcl.specs.Soundness.{act_ok, rules_ok, chain_ok}
use Rattle.fws_ifcl_rules.specs.Straight.{is_straight}

-- a rule that is right among no chains names none
unnamed : (total at : ℕ) (act : Act) → act_ok 0 total at act ≡ true → named_by act ≡ None
unnamed total at (acts.Call c) ok = let lt : c < 0 = ltb-true c 0 ok in absurd (omega (arith, lt))
unnamed total at (acts.Goto c) ok = let lt : c < 0 = ltb-true c 0 ok in absurd (omega (arith, lt))
unnamed total at acts.Accept ok = refl
unnamed total at acts.Drop ok = refl
unnamed total at (acts.Hold accepts) ok = refl
unnamed total at acts.Return ok = refl
unnamed total at (acts.Skip to) ok = refl
unnamed total at (acts.Src e) ok = refl
unnamed total at (acts.Dst e) ok = refl
unnamed total at acts.RecSrc ok = refl
unnamed total at acts.RecDst ok = refl
unnamed total at (acts.AddTag n) ok = refl
unnamed total at (acts.OnlyTag n) ok = refl
unnamed total at (acts.DelTag n) ok = refl

-- rules that are right among no chains name none
none_named : (total at : ℕ) (rs : List Rule) → rules_ok 0 total at rs ≡ true → all_named rs ≡ []
none_named total at [] ok = refl
none_named total at (r ∷ rs) ok =
    let both = and_parts (act_ok 0 total at r.act) (rules_ok 0 total (suc at) rs) ok in
    ap (λ o. option_map_or (λ c. c ∷ []) o [] ++ all_named rs) (unnamed total at r.act both.0) ∙ none_named total (suc at) rs both.1

-- none of them does
none_names : (total at : ℕ) (rs : List Rule) → rules_ok 0 total at rs ≡ true → list_any (λ (r : Rule). is_some (named_by r.act)) rs ≡ false
none_names total at [] ok = refl
none_names total at (r ∷ rs) ok =
    let both = and_parts (act_ok 0 total at r.act) (rules_ok 0 total (suc at) rs) ok in
    ap (λ o. is_some o || list_any (λ (r : Rule). is_some (named_by r.act)) rs) (unnamed total at r.act both.0) ∙ none_names total (suc at) rs both.1

-- no chain names one
chain_names : (chains : List Chain) → list_all (chain_ok 0) chains ≡ true → (c : ℕ) → named_in chains c ≡ []
chain_names [] ok c = refl
chain_names (chain ∷ chains) ok zero = none_named (length chain.rules) 0 chain.rules (and_parts (chain_ok 0 chain) (list_all (chain_ok 0) chains) ok).0
chain_names (chain ∷ chains) ok (suc c) = chain_names chains (and_parts (chain_ok 0 chain) (list_all (chain_ok 0) chains) ok).1 c

chains_name : (chains : List Chain) → list_all (chain_ok 0) chains ≡ true → list_any names_any chains ≡ false
chains_name [] ok = refl
chains_name (chain ∷ chains) ok =
    let both = and_parts (chain_ok 0 chain) (list_all (chain_ok 0) chains) ok in
    ap (λ b. b || list_any names_any chains) (none_names (length chain.rules) 0 chain.rules both.0) ∙ chains_name chains both.1

-- no chain is found by a test that holds of none
none_first : (test : ℕ → Bool) → ((c : ℕ) → test c ≡ false) → (n : ℕ) (chains : List Chain) → first_chain test n chains ≡ None
none_first test fails n [] = refl
none_first test fails n (chain ∷ chains) = ap (λ b. cond b (Some n) (first_chain test (suc n) chains)) (fails n) ∙ none_first test fails (suc n) chains

not_both : (a b : Bool) → b ≡ false → (a && b) ≡ false
not_both true b is = is
not_both false b is = refl

module _ (d : Ifcl) (straight : is_straight d ≡ true) where
  -- no chain reaches itself
  none_reached : (n from to : ℕ) → reaches d.chains n from to ≡ false
  none_reached zero from to = refl
  none_reached (suc n) from to = ap (list_any (λ c. nat_eq c to || reaches d.chains n c to)) (chain_names d.chains straight from)

  no_loop : loop_of d ≡ None
  no_loop = none_first (is_looped d.chains) (λ c. none_reached (length d.chains) c c) 0 d.chains

  -- no path is too deep
  shallow : (c : ℕ) → is_deep d.chains c ≡ false
  shallow c = ap (list_any (begins_path d.chains 63)) (chain_names d.chains straight c)

  not_deep : deep_of d ≡ None
  not_deep = none_first (λ c. is_staged d c && is_deep d.chains c) (λ c. not_both (is_staged d c) (is_deep d.chains c) (shallow c)) 0 d.chains

  -- no sum of sizes is tested
  not_long : long_of d ≡ None
  not_long = ap (λ b. cond b (passed_at d 0 0 d.chains) None) (chains_name d.chains straight)

  -- the diagram is unfolded
  pub unfolds : refusal_of d ≡ None
  unfolds =
      ap (λ o. or_else (option_map Loop o) (or_else (option_map Deep (deep_of d)) (option_map Long (long_of d)))) no_loop
      ∙ ap (λ o. or_else (option_map Deep o) (option_map Long (long_of d))) not_deep
      ∙ ap (option_map Long) not_long
