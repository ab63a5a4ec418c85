-- What is told of the diagram's walk is what the walk of the configuration uses.
use Rattle.std.proofs.Common.{◌≡◌, ℕ, suc, ◌+◌, ◌<◌, ◌≤◌, Bool, true, false, cond, nat_eq, Option, Some, None, is_some, option_map, option_and_then, List, [], ◌∷◌, ◌++◌, length, map, refl, sym, ap, ◌∙◌, subst, append_assoc, append-nil}
use Rattle.std.proofs.lemmas.Bool.{false≢true}
use Rattle.std.specs.Option.{option_map_or}
use Rattle.fws_net.specs.declared.condition.Test.TheVariants as tests
use Rattle.fws_net.specs.declared.connection.Kind.{Kind}
use Rattle.fws_net.specs.declared.connection.Kind.TheVariants.{New, Est}
use Rattle.fws_net.specs.declared.connection.Rec.{Rec}
use Rattle.fws_net.specs.declared.exit.Exit.{Exit}
use Rattle.fws_net.specs.declared.exit.Exit.TheVariants.{Deliver, Out, Lost}
use Rattle.fws_net.specs.declared.packet.Packet.{Packet}
use Rattle.fws_net.specs.declared.site.Site.{Site}
use Rattle.fws_net.specs.declared.transit.Transit.{Transit}
use Rattle.fws_net.specs.Connections.{is_est}
use Rattle.fws_net.specs.Routes.{IsSound, exit_at}
use Rattle.fws_net.specs.RouteLaws.{RoutesAreEntries}
use Rattle.fws_net.specs.Transits.{entered, used_onwards}
use Rattle.fws_ifcl.specs.declared.diagram.Act.TheVariants as acts
use Rattle.fws_ifcl.specs.declared.diagram.Chain.{Chain}
use Rattle.fws_ifcl.specs.declared.diagram.Place.{Place}
use Rattle.fws_ifcl.specs.declared.diagram.Rule.{Rule}
use Rattle.fws_ifcl.specs.declared.diagram.Spot.{Spot}
use Rattle.fws_ifcl.specs.declared.diagram.Stage.{Stage}
use Rattle.fws_ifcl.specs.declared.step.ChainEnd.{ChainEnd}
use Rattle.fws_ifcl.specs.Spots.{numbers_at, told}
use Rattle.fws_ifcl.specs.Uses.{rules_used, chain_used, stage_used, used_places}
use Rattle.fws_ifcl.specs.Walk.{chain_walk, stage_walk, stages_walk}
use Rattle.fws_rules.specs.Literals.{positive}
use Rattle.fws_ifcl_rules.specs.Rules.{ruled}
use Rattle.fws_ifcl_rules.specs.UsedPlaces.{stages_told, TellsOfUses}
use Rattle.fws_ipt.specs.declared.config.IptChain.{IptChain}
use Rattle.fws_ipt.specs.declared.config.IptConfig.{IptConfig}
use Rattle.fws_ipt.specs.declared.config.IptTable.{IptTable}
use Rattle.fws_ipt.specs.declared.config.IptTable.TheVariants.{Filter, Nat, Mangle}
use Rattle.fws_ipt.specs.declared.hook.Hook.{Hook}
use Rattle.fws_ipt.specs.declared.hook.Hook.TheVariants.{Prerouting, Input, Forward, Output, Postrouting}
use Rattle.fws_ipt.specs.declared.passage.Passage.{Passage}
use Rattle.fws_ipt.specs.Refusals.{head_width}
use Rattle.fws_ipt.specs.Uses.{builtin_used, visit_used, visits_used, used_onwards as ipt_onwards, used}
use Rattle.fws_ipt.specs.Walk.{is_table, builtin_from, policy_at, tracked_at as tracks_at, visit, visits, arriving, delivered, forwarded, sent_out, entering}
use Rattle.fws_ipt_ifcl.specs.declared.side.SideTest.TheVariants.{Each}
use Rattle.fws_ipt_ifcl.specs.Diagram.{own_chains, own_stage, headed, unfolded_all, chain_for, is_on_source, tracked_at, stage_for, builtin_stage, stages_for}
use Rattle.fws_ipt_ifcl.specs.Placed.{placed_of, spots_of}
use Rattle.fws_ipt_ifcl.proofs.Counted.{none_first, none_second, none_third, all_numbered, none_ahead}
use Rattle.fws_ipt_ifcl.proofs.EnteredTold.{stage_told}
use Rattle.fws_ipt_ifcl.proofs.Files.{file_rules, built_in, built_suits, built_within, stands_parts}
use Rattle.fws_ipt_ifcl.proofs.Scenes.{shown, is_place}
use Rattle.fws_ipt_ifcl.proofs.Standing.{Stands}
use Rattle.fws_ipt_ifcl.proofs.Telling.{first_told}
use Rattle.fws_ipt_ifcl.proofs.Ways.{ShownAs, Known, AreMet, visit_met, visits_met, arrive_met, deliver_met, forward_met, send_met, entering_stands}

-- What is told of stages behind stages

behind_one : (l : List ℕ) (o : Option Transit) (more : Transit → Option Transit) (both some rest : Transit → List ℕ)
    → ((t : Transit) → both t ≡ some t ++ option_map_or rest (more t) [])
    → l ++ option_map_or both o [] ≡ (l ++ option_map_or some o []) ++ option_map_or rest (option_and_then more o) []
behind_one l None more both some rest is = sym (append-nil (l ++ []))
behind_one l (Some t) more both some rest is = ap (λ k. l ++ k) (is t) ∙ sym (append_assoc l (some t) (option_map_or rest (more t) []))

told_behind : (spots : List Spot) (chains : List Chain) (site : Site) (p : Packet) (k : Kind) (stages more : List Stage) (t : Transit)
    → stages_told spots chains site p k (stages ++ more) t
    ≡ stages_told spots chains site p k stages t ++ option_map_or (stages_told spots chains site p k more) (stages_walk chains site p k stages t) []
told_behind spots chains site p k [] more t = refl
told_behind spots chains site p k (stage ∷ stages) more t =
    behind_one (told spots (stage_used chains site p k stage t)) (stage_walk chains site p k stage t) (stages_walk chains site p k stages)
    (stages_told spots chains site p k (stages ++ more)) (stages_told spots chains site p k stages) (stages_told spots chains site p k more)
    (told_behind spots chains site p k stages more)

nothing_behind : (o : Option Transit) (rest : Transit → List ℕ) → ((t : Transit) → rest t ≡ []) → option_map_or rest o [] ≡ []
nothing_behind None rest none = refl
nothing_behind (Some t) rest none = none t

-- one stage
one_stage : (spots : List Spot) (chains : List Chain) (site : Site) (p : Packet) (k : Kind) (stage : Stage) (t : Transit)
    → stages_told spots chains site p k (stage ∷ []) t ≡ told spots (stage_used chains site p k stage t)
one_stage spots chains site p k stage t =
    let here = told spots (stage_used chains site p k stage t) in
    ap (λ l. here ++ l) (nothing_behind (stage_walk chains site p k stage t) (stages_told spots chains site p k []) (λ t. refl)) ∙ append-nil here

-- what is told behind a point of both ways
behind_told : (k : Kind) (p : Packet) (x : Option Transit) (o : Option Passage) (go : Transit → List ℕ) (next : Passage → List ℕ)
    → ShownAs k p x o → ((v : Bool) (m : Passage) → Stands k p m → go (shown v m) ≡ next m) → option_map_or go x [] ≡ option_map_or next o []
behind_told k p x None go next is on = ap (λ y. option_map_or go y []) is
behind_told k p x (Some m) go next (v, is, stands) on = ap (λ y. option_map_or go y []) is ∙ on v m stands

-- the first rule of a built-in chain of nat is the only one that a packet of a connection uses
headed_told : (used : ℕ → Transit → List Place) (enter : ℕ → Transit → ChainEnd) (spots : List Spot) (c : ℕ) (site : Site) (p : Packet) (r : Rec) (stage : Stage) (policy : Option Bool)
    (rest : List Rule) (t : Transit) → is_some policy ≡ true → numbers_at spots (record { chain = c; rule = 0 }) ≡ []
    → told spots (rules_used used enter c site p (Est r) stage 0 (headed Nat policy ++ rest) 0 t) ≡ []
headed_told used enter spots c site p r stage None rest t some none = absurd (false≢true some)
headed_told used enter spots c site p r stage (Some accepts) rest t some none =
    first_told used enter spots c site p (Est r) stage 0 (ruled (positive tests.Est ∷ []) acts.Accept) rest t ∙ ap (λ l. l ++ []) none

module _ (law : TellsOfUses) (site : Site) (sound : IsSound site) (entries : RoutesAreEntries) (p : Packet) (of_site : p.entry ≤ length site.faces + 1)
    (c : IptConfig) (known : Known site c.chains) where
  abbrev figure : List Chain
  figure = own_chains ++ map (chain_for Each site) c.chains

  abbrev spots : List Spot
  spots = spots_of site c

  abbrev tell : Kind → List Stage → Transit → List ℕ
  tell k stages t = stages_told spots figure site p k stages t

  -- a built-in chain
  builtin_told : (k : Kind) (table : IptTable) (hook : Hook) → is_place table hook ≡ true → (hook ≡ Output → nat_eq p.entry 0 ≡ true) → (is_table Nat table ≡ true → is_est k ≡ false)
      → (o : Option ℕ) → builtin_from 0 table hook c.chains ≡ o → (v : Bool) (m : Passage) → Stands k p m
      → tell k (option_map_or (λ n. stage_for c.chains table hook n ∷ []) o []) (shown v m) ≡ builtin_used c.chains site p (is_est k) hook o m
  builtin_told k table hook place own new None is v m stands = refl
  builtin_told k table hook place own new (Some n) is v m stands =
      let built = built_in c.chains table hook n is in
      let within : n < length c.chains = built_within c.chains table hook n built in
      one_stage spots figure site p k (stage_for c.chains table hook n) (shown v m)
      ∙ stage_told site sound entries p of_site table hook k place own new c.chains known.fit known.plain known.netmaps (n + 3) (policy_at c.chains n) spots
      (all_numbered law site c) n (built_suits c.chains table hook n built) within refl v m stands

  table_told : (k : Kind) (table : IptTable) (hook : Hook) → is_place table hook ≡ true → (hook ≡ Output → nat_eq p.entry 0 ≡ true) → (is_table Nat table ≡ true → is_est k ≡ false)
      → (v : Bool) (m : Passage) → Stands k p m
      → tell k (builtin_stage c.chains table hook) (shown v m) ≡ builtin_used c.chains site p (is_est k) hook (builtin_from 0 table hook c.chains) m
  table_told k table hook place own new v m stands = builtin_told k table hook place own new (builtin_from 0 table hook c.chains) refl v m stands

  -- a packet of a connection uses no rule of a built-in chain of nat
  chain_silent : (used : ℕ → Transit → List Place) (enter : ℕ → Transit → ChainEnd) (r : Rec) (n : ℕ) (stage : Stage) (chain : IptChain) → Nat ≡ chain.table → is_some chain.policy ≡ true
      → numbers_at spots (record { chain = n + 3; rule = 0 }) ≡ [] → (t : Transit)
      → told spots (rules_used used enter (n + 3) site p (Est r) stage 0 (chain_for Each site chain).rules 0 t) ≡ []
  chain_silent used enter r n stage chain table some none t =
      subst (λ tab. told spots (rules_used used enter (n + 3) site p (Est r) stage 0
      (headed tab chain.policy ++ unfolded_all Each site (is_on_source chain.name) (head_width chain.table chain.policy) chain.rules) 0 t) ≡ [])
      table (headed_told used enter spots (n + 3) site p r stage chain.policy _ t some none)

  nat_silent : (r : Rec) (hook : Hook) (o : Option ℕ) → builtin_from 0 Nat hook c.chains ≡ o → (v : Bool) (m : Passage)
      → tell (Est r) (option_map_or (λ n. stage_for c.chains Nat hook n ∷ []) o []) (shown v m) ≡ []
  nat_silent r hook None is v m = refl
  nat_silent r hook (Some n) is v m =
      let built = built_in c.chains Nat hook n is in
      let parts = stands_parts Nat hook built.chain built.stands in
      let stage = stage_for c.chains Nat hook n in
      let left = suc (suc (length (map (chain_for Each site) c.chains))) in
      let used = chain_used figure site p (Est r) stage left ((n + 3) ∷ []) in
      let enter = chain_walk figure site p (Est r) stage left ((n + 3) ∷ []) in
      let t = shown (policy_at c.chains n) m in
      one_stage spots figure site p (Est r) stage (shown v m)
      ∙ ap (λ rules. told spots (rules_used used enter (n + 3) site p (Est r) stage 0 rules 0 t)) (file_rules Each site c.chains n)
      ∙ ap (λ o. told spots (rules_used used enter (n + 3) site p (Est r) stage 0 (option_map_or (λ (chain : Chain). chain.rules) (option_map (chain_for Each site) o) []) 0 t)) built.is
      ∙ chain_silent used enter r n stage built.chain parts.0 parts.2 (none_ahead law site c n built.chain built.is parts.0 parts.2) t

  -- what is told of a chain of the diagram's own, of which the rule has no number, and of the stages behind it
  own_silent : (l rest end : List ℕ) → l ≡ [] → rest ≡ end → (l ++ []) ++ rest ≡ end
  own_silent l rest end none is = ap (λ k. (k ++ []) ++ rest) none ∙ is

  abbrev At : Kind → IptTable → Hook → Type 0
  At k table hook = is_place table hook ≡ true → (hook ≡ Output → nat_eq p.entry 0 ≡ true) → (v : Bool) (m : Passage) → Stands k p m
      → tell k (tracked_at table hook ++ builtin_stage c.chains table hook) (shown v m) ≡ visit_used c site p k table hook m

  new_told : (table : IptTable) (hook : Hook) → At New table hook
  new_told Filter hook place own v m stands = table_told New Filter hook place own (λ is. refl) v m stands
  new_told Mangle hook place own v m stands = table_told New Mangle hook place own (λ is. refl) v m stands
  new_told Nat Prerouting place own v m stands = own_silent _ _ _ (none_second law site c) (table_told New Nat Prerouting place own (λ is. refl) true m stands)
  new_told Nat Input place own v m stands = own_silent _ _ _ (none_third law site c) (table_told New Nat Input place own (λ is. refl) true m stands)
  new_told Nat Forward place own v m stands = absurd (false≢true place)
  new_told Nat Output place own v m stands = own_silent _ _ _ (none_second law site c) (table_told New Nat Output place own (λ is. refl) true m stands)
  new_told Nat Postrouting place own v m stands = own_silent _ _ _ (none_third law site c) (table_told New Nat Postrouting place own (λ is. refl) true m stands)

  silent : (r : Rec) (hook : Hook) (m : Passage) → tell (Est r) (builtin_stage c.chains Nat hook) (shown true (tracks_at r hook m)) ≡ []
  silent r hook m = nat_silent r hook (builtin_from 0 Nat hook c.chains) refl true (tracks_at r hook m)

  est_told : (r : Rec) (table : IptTable) (hook : Hook) → At (Est r) table hook
  est_told r Filter hook place own v m stands = table_told (Est r) Filter hook place own (λ is. absurd (false≢true is)) v m stands
  est_told r Mangle hook place own v m stands = table_told (Est r) Mangle hook place own (λ is. absurd (false≢true is)) v m stands
  est_told r Nat Prerouting place own v m stands = own_silent _ _ _ (none_second law site c) (silent r Prerouting m)
  est_told r Nat Input place own v m stands = own_silent _ _ _ (none_third law site c) (silent r Input m)
  est_told r Nat Forward place own v m stands = absurd (false≢true place)
  est_told r Nat Output place own v m stands = own_silent _ _ _ (none_second law site c) (silent r Output m)
  est_told r Nat Postrouting place own v m stands = own_silent _ _ _ (none_third law site c) (silent r Postrouting m)

  visit_told : (k : Kind) (table : IptTable) (hook : Hook) → At k table hook
  visit_told New table hook = new_told table hook
  visit_told (Est r) table hook = est_told r table hook

  visits_told : (k : Kind) (places : List (IptTable × Hook)) → AreMet p places → (v : Bool) (m : Passage) → Stands k p m
      → tell k (stages_for c.chains places) (shown v m) ≡ visits_used c site p k places m
  visits_told k [] met v m stands = refl
  visits_told k (at ∷ rest) (place, own, more) v m stands =
      let first = tracked_at at.0 at.1 ++ builtin_stage c.chains at.0 at.1 in
      let later = option_map_or (tell k (stages_for c.chains rest)) (stages_walk figure site p k first (shown v m)) [] in
      told_behind spots figure site p k first (stages_for c.chains rest) (shown v m)
      ∙ ap (λ l. l ++ later) (visit_told k at.0 at.1 place own v m stands)
      ∙ ap (λ l. visit_used c site p k at.0 at.1 m ++ l)
      (behind_told k p (stages_walk figure site p k first (shown v m)) (visit c site p k at.0 at.1 m) (tell k (stages_for c.chains rest)) (visits_used c site p k rest)
      (visit_met Each site sound entries p of_site c known k at.0 at.1 place own v m stands) (λ v m stands. visits_told k rest more v m stands))

  -- behind routing
  routed_told : (k : Kind) (exit : Exit) (v : Bool) (m : Passage) → Stands k p m
      → used_onwards (tell k (stages_for c.chains delivered)) (tell k (stages_for c.chains forwarded)) exit (shown v m) ≡ ipt_onwards c site p k exit m
  routed_told k Deliver v m stands = visits_told k delivered (deliver_met Each site sound entries p of_site c known) v m stands
  routed_told k (Out entry) v m stands = visits_told k forwarded (forward_met Each site sound entries p of_site c known) v m stands
  routed_told k Lost v m stands = refl

  -- the mark begins at 0
  marked_told : (k : Kind) (places : List (IptTable × Hook)) → AreMet p places → tell k (own_stage 0 ∷ stages_for c.chains places) (entered p) ≡ visits_used c site p k places (entering p)
  marked_told k places met =
      own_silent _ _ _ (none_first law site c) (visits_told k places met true (entering p) (entering_stands Each site sound entries p of_site c known k))

  either_way : (k : Kind) (b : Bool) → nat_eq p.entry 0 ≡ b
      → cond b (tell k (own_stage 0 ∷ stages_for c.chains sent_out) (entered p))
      (tell k (own_stage 0 ∷ stages_for c.chains arriving) (entered p)
      ++ option_map_or (λ t. used_onwards (tell k (stages_for c.chains delivered)) (tell k (stages_for c.chains forwarded)) (exit_at site p.entry t.packet.dst) t)
      (stages_walk figure site p k (own_stage 0 ∷ stages_for c.chains arriving) (entered p)) [])
      ≡ cond b (visits_used c site p k sent_out (entering p))
      (visits_used c site p k arriving (entering p)
      ++ option_map_or (λ m. ipt_onwards c site p k (exit_at site p.entry m.packet.dst) m) (visits c site p k arriving (entering p)) [])
  either_way k true own = marked_told k sent_out (send_met Each site sound entries p of_site c known own)
  either_way k false other =
      let arrival = arrive_met Each site sound entries p of_site c known in
      let stands = entering_stands Each site sound entries p of_site c known k in
      let way = stages_walk figure site p k (own_stage 0 ∷ stages_for c.chains arriving) (entered p) in
      let later : Transit → List ℕ = λ t. used_onwards (tell k (stages_for c.chains delivered)) (tell k (stages_for c.chains forwarded)) (exit_at site p.entry t.packet.dst) t in
      ap (λ l. l ++ option_map_or later way []) (marked_told k arriving arrival)
      ∙ ap (λ l. visits_used c site p k arriving (entering p) ++ l)
      (behind_told k p way (visits c site p k arriving (entering p)) later (λ m. ipt_onwards c site p k (exit_at site p.entry m.packet.dst) m)
      (visits_met Each site sound entries p of_site c known k arriving arrival true (entering p) stands)
      (λ v m stands. routed_told k (exit_at site p.entry m.packet.dst) v m stands))

  pub uses_told : (k : Kind) → told spots (used_places (placed_of site c) site p k) ≡ used c site p k
  uses_told k = law.stages spots (placed_of site c) site p k ∙ either_way k (nat_eq p.entry 0) refl
