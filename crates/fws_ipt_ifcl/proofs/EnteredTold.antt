-- What is told of a chain of the diagram that is entered is what the walk of the file's chain uses.
use Rattle.std.proofs.Common.{◌≡◌, ℕ, zero, suc, ◌+◌, ◌<◌, ◌≤◌, Bool, true, false, cond, ◌&&◌, nat_eq, slice_get, Option, Some, None, option_map, List, [], ◌∷◌, ◌++◌, length, map, arith, refl, sym, ap, ◌∙◌, subst}
use Rattle.std.specs.List.{list_all, list_any}
use Rattle.std.specs.Option.{option_map_or}
use Rattle.fws_net.specs.declared.condition.Test.TheVariants.{Est}
use Rattle.fws_net.specs.declared.connection.Kind.{Kind}
use Rattle.fws_net.specs.declared.packet.Packet.{Packet}
use Rattle.fws_net.specs.declared.site.Site.{Site}
use Rattle.fws_net.specs.declared.transit.Transit.{Transit}
use Rattle.fws_net.specs.Connections.{is_est}
use Rattle.fws_net.specs.Routes.{IsSound}
use Rattle.fws_net.specs.RouteLaws.{RoutesAreEntries}
use Rattle.fws_ifcl.specs.declared.diagram.Act.TheVariants as acts
use Rattle.fws_ifcl.specs.declared.diagram.Chain.{Chain}
use Rattle.fws_ifcl.specs.declared.diagram.Place.{Place}
use Rattle.fws_ifcl.specs.declared.diagram.Rule.{Rule}
use Rattle.fws_ifcl.specs.declared.diagram.Spot.{Spot}
use Rattle.fws_ifcl.specs.declared.diagram.Stage.{Stage}
use Rattle.fws_ifcl.specs.declared.step.ChainEnd.{ChainEnd}
use Rattle.fws_ifcl.specs.Spots.{numbers_at, told}
use Rattle.fws_ifcl.specs.Uses.{rules_used, chain_used, stage_used}
use Rattle.fws_ifcl.specs.Walk.{rules_at, chain_walk}
use Rattle.fws_rules.specs.Literals.{positive}
use Rattle.fws_ifcl_rules.specs.Rules.{ruled}
use Rattle.fws_ipt.specs.declared.config.IptChain.{IptChain}
use Rattle.fws_ipt.specs.declared.config.IptRule.{IptRule}
use Rattle.fws_ipt.specs.declared.config.IptTable.{IptTable}
use Rattle.fws_ipt.specs.declared.config.IptTable.TheVariants.{Filter, Nat, Mangle}
use Rattle.fws_ipt.specs.declared.hook.Hook.{Hook}
use Rattle.fws_ipt.specs.declared.hook.Hook.TheVariants.{Output}
use Rattle.fws_ipt.specs.declared.passage.Passage.{Passage}
use Rattle.fws_ipt.specs.declared.passage.ChainEnd.{ChainEnd as IptEnd}
use Rattle.fws_ipt.specs.Refusals.{head_width}
use Rattle.fws_ipt.specs.Soundness.{fits, chain_fits}
use Rattle.fws_ipt.specs.Uses.{first_number, rules_used as ipt_used, chain_used as ipt_chain_used}
use Rattle.fws_ipt.specs.Walk.{is_table, rules_at as ipt_rules_at, chain_walk as ipt_chain}
use Rattle.fws_ipt_ifcl.specs.declared.side.SideTest.TheVariants.{Each}
use Rattle.fws_ipt_ifcl.specs.Diagram.{own_chains, headed, unfolded_all, chain_for, is_on_source}
use Rattle.fws_ipt_ifcl.specs.Fitting.{has_sideless_rules, has_netmaps_placed}
use Rattle.fws_ipt_ifcl.proofs.Entered.{chain_met, drawn_more}
use Rattle.fws_ipt_ifcl.proofs.Files.{all_at, all_contained, any_moved, file_rules, Suits, user_within, named_user, named_suits}
use Rattle.fws_ipt_ifcl.proofs.Numbering.{AreNumbered}
use Rattle.fws_ipt_ifcl.proofs.Rooms.{HasRoom, begins, one_more, all_passed}
use Rattle.fws_ipt_ifcl.proofs.RulesTold.{rules_tell}
use Rattle.fws_ipt_ifcl.proofs.Scenes.{shown, shown_end, met, is_place}
use Rattle.fws_ipt_ifcl.proofs.Standing.{Stands, StandsAt, all_stand}
use Rattle.fws_ipt_ifcl.proofs.Telling.{tells, first_told}

-- the rule ahead of those of nat isn't used by new packets
head_told : (used : ℕ → Transit → List Place) (enter : ℕ → Transit → ChainEnd) (spots : List Spot) (c : ℕ) (site : Site) (p : Packet) (k : Kind) (stage : Stage)
    (table : IptTable) (policy : Option Bool) (rest : List Rule) (t : Transit) → (is_table Nat table ≡ true → is_est k ≡ false)
    → tells used enter spots c site p k stage 0 (headed table policy ++ rest) 0 t ≡ tells used enter spots c site p k stage (head_width table policy) rest 0 t
head_told used enter spots c site p k stage Nat (Some accepts) rest t new =
    first_told used enter spots c site p k stage 0 (ruled (positive Est ∷ []) acts.Accept) rest t
    ∙ ap (λ b. cond (b && true) (numbers_at spots (record { chain = c; rule = 0 }) ++ []) (tells used enter spots c site p k stage 1 rest 0 t)) (new refl)
head_told used enter spots c site p k stage Nat None rest t new = refl
head_told used enter spots c site p k stage Filter policy rest t new = refl
head_told used enter spots c site p k stage Mangle policy rest t new = refl

-- nothing is used of a chain that is on the path, in both walks
passed_or : (spots : List Spot) (b same : Bool) → b ≡ same → (x : List Place) (y : List ℕ) → (same ≡ false → told spots x ≡ y) → told spots (cond b [] x) ≡ cond same [] y
passed_or spots b true is x y on = ap (λ c. told spots (cond c [] x)) is
passed_or spots b false is x y on = ap (λ c. told spots (cond c [] x)) is ∙ on refl

-- the spots have the numbers of each chain's rules at the places of these
abbrev pub AreAllNumbered : Site → List IptChain → List Spot → Type 0
AreAllNumbered site chains spots =
    (c : ℕ) (chain : IptChain) → slice_get chains c ≡ Some chain
    → AreNumbered (λ at. numbers_at spots (record { chain = c + 3; rule = at })) (length site.faces) (head_width chain.table chain.policy) (first_number chains c) chain.rules

module _ (site : Site) (sound : IsSound site) (entries : RoutesAreEntries) (p : Packet) (of_site : p.entry ≤ length site.faces + 1)
    (table : IptTable) (hook : Hook) (k : Kind) (place : is_place table hook ≡ true) (own : hook ≡ Output → nat_eq p.entry 0 ≡ true)
    (new : is_table Nat table ≡ true → is_est k ≡ false)
    (chains : List IptChain) (fit : list_all (chain_fits chains) chains ≡ true) (plain : list_all has_sideless_rules chains ≡ true)
    (netmaps : list_all has_netmaps_placed chains ≡ true) (number : ℕ) (accepts : Bool) (spots : List Spot) (numbered : AreAllNumbered site chains spots) where
  abbrev drawn : List Chain
  drawn = own_chains ++ map (chain_for Each site) chains

  abbrev there : Stage
  there = met number accepts table hook

  -- a chain's rules, where of the chains that they name the same is used
  chain_rules_told : (enter : ℕ → Transit → ChainEnd) (enter_too : ℕ → Passage → IptEnd) (used : ℕ → Transit → List Place) (used_too : ℕ → Passage → List ℕ)
      → ((d : ℕ) (m : Passage) → Suits chains table hook d → d < length chains → Stands k p m → enter (d + 3) (shown accepts m) ≡ shown_end accepts (enter_too d m))
      → ((d : ℕ) (m : Passage) → Suits chains table hook d → d < length chains → Stands k p m → told spots (used (d + 3) (shown accepts m)) ≡ used_too d m)
      → ((d : ℕ) (m : Passage) → Stands k p m → StandsAt k p (enter_too d m))
      → (c : ℕ) → Suits chains table hook c → (o : Option IptChain) → slice_get chains c ≡ o → (m : Passage) → Stands k p m
      → told spots (rules_used used enter (c + 3) site p k there 0 (option_map_or (λ (chain : Chain). chain.rules) (option_map (chain_for Each site) o) []) 0 (shown accepts m))
      ≡ ipt_used used_too enter_too site p (is_est k) hook (first_number chains c) (option_map_or (λ (chain : IptChain). chain.rules) o []) m
  chain_rules_told enter enter_too used used_too ent ent_told behind c suits None is m stands = refl
  chain_rules_told enter enter_too used used_too ent ent_told behind c suits (Some chain) is m stands =
      let suited = suits chain is in
      let chain_fit : list_all (λ (rule : IptRule). fits table chains rule.go) chain.rules ≡ true =
      subst (λ t. list_all (λ (rule : IptRule). fits t chains rule.go) chain.rules ≡ true) (sym suited.0) (all_at (chain_fits chains) chains c chain fit is) in
      let new_here : is_table Nat chain.table ≡ true → is_est k ≡ false = subst (λ t. is_table Nat t ≡ true → is_est k ≡ false) suited.0 new in
      let on_source = is_on_source chain.name in
      let at = head_width chain.table chain.policy in
      let fitting = all_contained (λ (rule : IptRule). fits table chains rule.go) chain.rules in
      head_told used enter spots (c + 3) site p k there chain.table chain.policy (unfolded_all Each site on_source at chain.rules) (shown accepts m) new_here
      ∙ rules_tell site sound entries p of_site hook own number accepts enter enter_too used used_too spots (c + 3) chains table k on_source new place behind chain.rules chain_fit
      (all_at has_sideless_rules chains c chain plain is)
      (λ rule there_is d names m stands.
      ent d m (named_suits chains table hook rule.go d names (fitting rule chain_fit there_is)) (user_within table chains d (named_user chains table rule.go d names (fitting rule chain_fit there_is))) stands)
      (λ rule there_is d names m stands.
      ent_told d m (named_suits chains table hook rule.go d names (fitting rule chain_fit there_is)) (user_within table chains d (named_user chains table rule.go d names (fitting rule chain_fit there_is))) stands)
      at (first_number chains c) (numbered c chain is) m stands

  -- a chain that is entered, where both walks have room for what they may enter
  pub chain_told : (n more : ℕ) (path : List ℕ) (c : ℕ) → Suits chains table hook c → c < length chains → HasRoom (length chains) path n → HasRoom (length chains) path more
      → (m : Passage) → Stands k p m
      → told spots (chain_used drawn site p k there more (map (λ q. q + 3) path) (c + 3) (shown accepts m))
      ≡ ipt_chain_used chains site p (is_est k) hook n path c m
  chain_told zero zero path c suits lt has has_more m stands = refl
  chain_told zero (suc more) path c suits lt has has_more m stands =
      let under = map (λ q. q + 3) (c ∷ path) in
      ap (λ b. told spots (cond b [] (rules_used (chain_used drawn site p k there more under) (chain_walk drawn site p k there more under) (c + 3) site p k there 0 (rules_at drawn (c + 3)) 0 (shown accepts m))))
      (any_moved c path ∙ all_passed (length chains) path c has lt)
  chain_told (suc n) zero path c suits lt has has_more m stands =
      ap (λ b. cond b [] (ipt_used (ipt_chain_used chains site p (is_est k) hook n (c ∷ path)) (ipt_chain chains site p (is_est k) hook n (c ∷ path)) site p (is_est k) hook
      (first_number chains c) (ipt_rules_at chains c) m))
      (sym (all_passed (length chains) path c has_more lt))
  chain_told (suc n) (suc more) path c suits lt has has_more m stands =
      let under = map (λ q. q + 3) (c ∷ path) in
      let used : ℕ → Transit → List Place = chain_used drawn site p k there more under in
      let enter : ℕ → Transit → ChainEnd = chain_walk drawn site p k there more under in
      let used_too : ℕ → Passage → List ℕ = ipt_chain_used chains site p (is_est k) hook n (c ∷ path) in
      let enter_too : ℕ → Passage → IptEnd = ipt_chain chains site p (is_est k) hook n (c ∷ path) in
      passed_or spots (list_any (nat_eq (c + 3)) (map (λ q. q + 3) path)) (list_any (nat_eq c) path) (any_moved c path)
      (rules_used used enter (c + 3) site p k there 0 (rules_at drawn (c + 3)) 0 (shown accepts m))
      (ipt_used used_too enter_too site p (is_est k) hook (first_number chains c) (ipt_rules_at chains c) m)
      (λ off. ap (λ rules. told spots (rules_used used enter (c + 3) site p k there 0 rules 0 (shown accepts m))) (file_rules Each site chains c)
      ∙ chain_rules_told enter enter_too used used_too
      (λ d m suits within stands. chain_met Each site sound entries p of_site table hook k place own new chains fit plain netmaps number accepts n more (c ∷ path) d suits within
      (one_more (length chains) path n c has lt off) (one_more (length chains) path more c has_more lt off) m stands)
      (λ d m suits within stands. chain_told n more (c ∷ path) d suits within (one_more (length chains) path n c has lt off) (one_more (length chains) path more c has_more lt off) m stands)
      (λ d m stands. all_stand k site p hook chains n (c ∷ path) d m stands) c suits (slice_get chains c) refl m stands)

  -- a stage at a chain of the file
  pub stage_told : (c : ℕ) → Suits chains table hook c → c < length chains → number ≡ c + 3
      → (v : Bool) (m : Passage) → Stands k p m
      → told spots (stage_used drawn site p k there (shown v m)) ≡ ipt_chain_used chains site p (is_est k) hook (length chains) [] c m
  stage_told c suits lt is v m stands =
      ap (λ c. told spots (chain_used drawn site p k there (length drawn) [] c (shown accepts m))) is
      ∙ chain_told (length chains) (length drawn) [] c suits lt (begins (length chains) (length chains) (omega arith))
      (begins (length chains) (length drawn) (drawn_more Each site sound entries p of_site table hook k place own new chains fit plain netmaps number accepts)) m stands
