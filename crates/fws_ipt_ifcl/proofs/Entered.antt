-- The diagram's chains are walked as the file's.
use Rattle.std.proofs.Common.{◌≡◌, ℕ, zero, suc, ◌+◌, ◌<◌, ◌≤◌, Bool, true, false, cond, ◌&&◌, not, nat_eq, slice_get, Option, Some, None, is_some, option_map, List, [], ◌∷◌, ◌++◌, length, map, Contains, arith, refl, sym, ap, ◌∙◌, subst, ⊎_elim, length-append}
use Rattle.std.proofs.lemmas.Bool.{false≢true, or_cases}
use Rattle.std.proofs.lemmas.List.{length-map}
use Rattle.std.specs.List.{list_all, list_any}
use Rattle.std.specs.Option.{option_map_or}
use Rattle.fws_net.specs.declared.condition.Test.TheVariants.{Est}
use Rattle.fws_net.specs.declared.connection.Kind.{Kind}
use Rattle.fws_net.specs.declared.packet.Packet.{Packet}
use Rattle.fws_net.specs.declared.site.Site.{Site}
use Rattle.fws_net.specs.declared.transit.Transit.{Transit}
use Rattle.fws_net.specs.Connections.{is_est}
use Rattle.fws_net.specs.Routes.{IsSound}
use Rattle.fws_net.specs.RouteLaws.{RoutesAreEntries}
use Rattle.fws_ifcl.specs.declared.diagram.Act.TheVariants as acts
use Rattle.fws_ifcl.specs.declared.diagram.Chain.{Chain}
use Rattle.fws_ifcl.specs.declared.diagram.Rule.{Rule}
use Rattle.fws_ifcl.specs.declared.diagram.Stage.{Stage}
use Rattle.fws_ifcl.specs.declared.step.ChainEnd.{ChainEnd}
use Rattle.fws_ifcl.specs.declared.step.ChainEnd.TheVariants.{Accepted, Dropped}
use Rattle.fws_ifcl.specs.Walk.{rules_at, rules_walk, chain_walk, stage_end, stage_walk}
use Rattle.fws_rules.specs.Literals.{positive}
use Rattle.fws_ifcl_rules.specs.Rules.{ruled}
use Rattle.fws_ipt.specs.declared.config.IptChain.{IptChain}
use Rattle.fws_ipt.specs.declared.config.IptRule.{IptRule}
use Rattle.fws_ipt.specs.declared.config.IptTable.{IptTable}
use Rattle.fws_ipt.specs.declared.config.IptTable.TheVariants.{Filter, Nat, Mangle}
use Rattle.fws_ipt.specs.declared.hook.Hook.{Hook}
use Rattle.fws_ipt.specs.declared.hook.Hook.TheVariants.{Output}
use Rattle.fws_ipt.specs.declared.passage.Passage.{Passage}
use Rattle.fws_ipt.specs.declared.passage.ChainEnd.{ChainEnd as IptEnd}
use Rattle.fws_ipt.specs.declared.passage.ChainEnd.TheVariants as ends
use Rattle.fws_ipt.specs.Refusals.{head_width}
use Rattle.fws_ipt.specs.Soundness.{fits, chain_fits}
use Rattle.fws_ipt.specs.Walk.{is_table, by_policy, rules_at as ipt_rules_at, rules_walk as ipt_rules, chain_walk as ipt_chain}
use Rattle.fws_ipt_ifcl.specs.declared.side.SideTest.{SideTest}
use Rattle.fws_ipt_ifcl.specs.Diagram.{own_chains, headed, unfolded_all, chain_for, is_on_source}
use Rattle.fws_ipt_ifcl.specs.Fitting.{has_sideless_rules, is_netmap, has_netmaps_placed}
use Rattle.fws_ipt_ifcl.proofs.RulesMet.{rules_met}
use Rattle.fws_ipt_ifcl.proofs.Files.{all_at, all_contained, any_moved, file_rules, Suits, user_within, named_user, named_suits}
use Rattle.fws_ipt_ifcl.proofs.Guarding.{first_rule}
use Rattle.fws_ipt_ifcl.proofs.Rooms.{HasRoom, begins, one_more, all_passed}
use Rattle.fws_ipt_ifcl.proofs.Scenes.{shown, shown_end, met, is_place}
use Rattle.fws_ipt_ifcl.proofs.Standing.{Stands, StandsAt, all_stand}

isnt : (b : Bool) → not b ≡ true → b ≡ true → ⊥
isnt true is so = false≢true is
isnt false is so = false≢true so

-- a chain with a NETMAP rule is built in
placed : (chain : IptChain) (rule : IptRule) → has_netmaps_placed chain ≡ true → Contains chain.rules rule → is_netmap rule.go ≡ true → is_some chain.policy ≡ true
placed chain rule fit there is =
    ⊎_elim (λ built. built)
    (λ none. absurd (isnt (is_netmap rule.go) (all_contained (λ (rule : IptRule). not (is_netmap rule.go)) chain.rules rule none there) is))
    (or_cases (is_some chain.policy) (list_all (λ (rule : IptRule). not (is_netmap rule.go)) chain.rules) fit)

-- the rule ahead of those of nat passes new packets over
head_met : (enter : ℕ → Transit → ChainEnd) (site : Site) (p : Packet) (k : Kind) (stage : Stage) (table : IptTable) (policy : Option Bool) (rest : List Rule) (t : Transit)
    → (is_table Nat table ≡ true → is_est k ≡ false)
    → rules_walk enter site p k stage 0 (headed table policy ++ rest) 0 t ≡ rules_walk enter site p k stage (head_width table policy) rest 0 t
head_met enter site p k stage Nat (Some accepts) rest t new =
    first_rule enter site p k stage 0 (ruled (positive Est ∷ []) acts.Accept) rest t
    ∙ ap (λ b. cond (b && true) (Accepted t) (rules_walk enter site p k stage 1 rest 0 t)) (new refl)
head_met enter site p k stage Nat None rest t new = refl
head_met enter site p k stage Filter policy rest t new = refl
head_met enter site p k stage Mangle policy rest t new = refl

-- where a stage is left
pub ended : (accepts : Bool) (end : IptEnd) → stage_end (shown_end accepts end) ≡ option_map (shown accepts) (by_policy accepts end)
ended true (ends.Accepted m) = refl
ended true ends.Dropped = refl
ended true (ends.Through m) = refl
ended false (ends.Accepted m) = refl
ended false ends.Dropped = refl
ended false (ends.Through m) = refl

-- a chain that is on the path drops, in both walks
passed_or : (accepts b same : Bool) → b ≡ same → (x : ChainEnd) (y : IptEnd) → (same ≡ false → x ≡ shown_end accepts y) → cond b Dropped x ≡ shown_end accepts (cond same ends.Dropped y)
passed_or accepts b true is x y on = ap (λ c. cond c Dropped x) is
passed_or accepts b false is x y on = ap (λ c. cond c Dropped x) is ∙ on refl

module _ (asks : SideTest) (site : Site) (sound : IsSound site) (entries : RoutesAreEntries) (p : Packet) (of_site : p.entry ≤ length site.faces + 1)
    (table : IptTable) (hook : Hook) (k : Kind) (place : is_place table hook ≡ true) (own : hook ≡ Output → nat_eq p.entry 0 ≡ true)
    (new : is_table Nat table ≡ true → is_est k ≡ false)
    (chains : List IptChain) (fit : list_all (chain_fits chains) chains ≡ true) (plain : list_all has_sideless_rules chains ≡ true)
    (netmaps : list_all has_netmaps_placed chains ≡ true) (number : ℕ) (accepts : Bool) where
  abbrev drawn : List Chain
  drawn = own_chains ++ map (chain_for asks site) chains

  abbrev there : Stage
  there = met number accepts table hook

  -- a chain's rules, where the chains that they name are entered alike
  chain_rules_met : (enter : ℕ → Transit → ChainEnd) (enter_too : ℕ → Passage → IptEnd)
      → ((d : ℕ) (m : Passage) → Suits chains table hook d → d < length chains → Stands k p m → enter (d + 3) (shown accepts m) ≡ shown_end accepts (enter_too d m))
      → ((d : ℕ) (m : Passage) → Stands k p m → StandsAt k p (enter_too d m))
      → (c : ℕ) → Suits chains table hook c → (o : Option IptChain) → slice_get chains c ≡ o → (m : Passage) → Stands k p m
      → rules_walk enter site p k there 0 (option_map_or (λ (chain : Chain). chain.rules) (option_map (chain_for asks site) o) []) 0 (shown accepts m)
      ≡ shown_end accepts (ipt_rules enter_too site p (is_est k) hook (option_map_or (λ (chain : IptChain). chain.rules) o []) m)
  chain_rules_met enter enter_too ent behind c suits None is m stands = refl
  chain_rules_met enter enter_too ent behind c suits (Some chain) is m stands =
      let suited = suits chain is in
      let chain_fit : list_all (λ (rule : IptRule). fits table chains rule.go) chain.rules ≡ true =
      subst (λ t. list_all (λ (rule : IptRule). fits t chains rule.go) chain.rules ≡ true) (sym suited.0) (all_at (chain_fits chains) chains c chain fit is) in
      let new_here : is_table Nat chain.table ≡ true → is_est k ≡ false = subst (λ t. is_table Nat t ≡ true → is_est k ≡ false) suited.0 new in
      let on_source = is_on_source chain.name in
      let at = head_width chain.table chain.policy in
      head_met enter site p k there chain.table chain.policy (unfolded_all asks site on_source at chain.rules) (shown accepts m) new_here
      ∙ rules_met site sound entries p of_site hook own number accepts enter enter_too asks chains table k on_source new place behind chain.rules chain_fit
      (all_at has_sideless_rules chains c chain plain is)
      (λ rule there_is netmap. suited.1 (placed chain rule (all_at has_netmaps_placed chains c chain netmaps is) there_is netmap))
      (λ rule there_is d names m stands.
      let fitting = all_contained (λ (rule : IptRule). fits table chains rule.go) chain.rules rule chain_fit there_is in
      ent d m (named_suits chains table hook rule.go d names fitting) (user_within table chains d (named_user chains table rule.go d names fitting)) stands)
      at m stands

  -- a chain that is entered, where both walks have room for what they may enter
  pub chain_met : (n more : ℕ) (path : List ℕ) (c : ℕ) → Suits chains table hook c → c < length chains → HasRoom (length chains) path n → HasRoom (length chains) path more
      → (m : Passage) → Stands k p m
      → chain_walk drawn site p k there more (map (λ q. q + 3) path) (c + 3) (shown accepts m)
      ≡ shown_end accepts (ipt_chain chains site p (is_est k) hook n path c m)
  chain_met zero zero path c suits lt has has_more m stands = refl
  chain_met zero (suc more) path c suits lt has has_more m stands =
      ap (λ b. cond b Dropped (rules_walk (chain_walk drawn site p k there more (map (λ q. q + 3) (c ∷ path))) site p k there 0 (rules_at drawn (c + 3)) 0 (shown accepts m)))
      (any_moved c path ∙ all_passed (length chains) path c has lt)
  chain_met (suc n) zero path c suits lt has has_more m stands =
      ap (λ b. shown_end accepts (cond b ends.Dropped (ipt_rules (ipt_chain chains site p (is_est k) hook n (c ∷ path)) site p (is_est k) hook (ipt_rules_at chains c) m)))
      (sym (all_passed (length chains) path c has_more lt))
  chain_met (suc n) (suc more) path c suits lt has has_more m stands =
      let enter : ℕ → Transit → ChainEnd = chain_walk drawn site p k there more (map (λ q. q + 3) (c ∷ path)) in
      let enter_too : ℕ → Passage → IptEnd = ipt_chain chains site p (is_est k) hook n (c ∷ path) in
      passed_or accepts (list_any (nat_eq (c + 3)) (map (λ q. q + 3) path)) (list_any (nat_eq c) path) (any_moved c path)
      (rules_walk enter site p k there 0 (rules_at drawn (c + 3)) 0 (shown accepts m)) (ipt_rules enter_too site p (is_est k) hook (ipt_rules_at chains c) m)
      (λ off. ap (λ rules. rules_walk enter site p k there 0 rules 0 (shown accepts m)) (file_rules asks site chains c)
      ∙ chain_rules_met enter enter_too
      (λ d m suits within stands. chain_met n more (c ∷ path) d suits within (one_more (length chains) path n c has lt off) (one_more (length chains) path more c has_more lt off) m stands)
      (λ d m stands. all_stand k site p hook chains n (c ∷ path) d m stands) c suits (slice_get chains c) refl m stands)

  pub drawn_more : length chains ≤ length drawn
  drawn_more =
      let more : length drawn ≡ 3 + length chains = length-append own_chains (map (chain_for asks site) chains) ∙ ap (λ n. 3 + n) (length-map chains (chain_for asks site)) in
      omega (arith, more)

  -- a stage at a chain of the file
  pub stage_met : (c : ℕ) → Suits chains table hook c → c < length chains → number ≡ c + 3
      → (v : Bool) (m : Passage) → Stands k p m
      → stage_walk drawn site p k there (shown v m)
      ≡ option_map (shown accepts) (by_policy accepts (ipt_chain chains site p (is_est k) hook (length chains) [] c m))
  stage_met c suits lt is v m stands =
      ap (λ c. stage_end (chain_walk drawn site p k there (length drawn) [] c (shown accepts m))) is
      ∙ ap stage_end (chain_met (length chains) (length drawn) [] c suits lt (begins (length chains) (length chains) (omega arith)) (begins (length chains) (length drawn) drawn_more) m stands)
      ∙ ended accepts (ipt_chain chains site p (is_est k) hook (length chains) [] c m)
