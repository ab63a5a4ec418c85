-- The way of a packet through the diagram's stages is its way through the file's chains.
use Rattle.std.proofs.Common.{◌≡◌, ℕ, suc, ◌+◌, ◌<◌, ◌≤◌, Bool, true, false, cond, nat_eq, Option, Some, None, is_some, option_map, option_and_then, List, [], ◌∷◌, ◌++◌, length, map, refl, sym, ap, ◌∙◌, subst}
use Rattle.std.proofs.lemmas.Bool.{false≢true}
use Rattle.std.specs.List.{list_all}
use Rattle.std.specs.Option.{option_map_or}
use Rattle.fws_net.specs.declared.condition.Test.TheVariants as tests
use Rattle.fws_net.specs.declared.connection.Kind.{Kind}
use Rattle.fws_net.specs.declared.connection.Kind.TheVariants.{New, Est}
use Rattle.fws_net.specs.declared.connection.Rec.{Rec}
use Rattle.fws_net.specs.declared.exit.Exit.{Exit}
use Rattle.fws_net.specs.declared.exit.Exit.TheVariants.{Deliver, Out, Lost}
use Rattle.fws_net.specs.declared.packet.Packet.{Packet}
use Rattle.fws_net.specs.declared.site.Site.{Site}
use Rattle.fws_net.specs.declared.transit.Transit.{Transit}
use Rattle.fws_net.specs.Connections.{is_est}
use Rattle.fws_net.specs.Fates.{has_ports}
use Rattle.fws_net.specs.Routes.{IsSound, exit_at}
use Rattle.fws_net.specs.RouteLaws.{RoutesAreEntries}
use Rattle.fws_net.specs.Transits.{entered, onwards, outcome_of as outcome_there}
use Rattle.fws_ifcl.specs.declared.diagram.Act.TheVariants as acts
use Rattle.fws_ifcl.specs.declared.diagram.Chain.{Chain}
use Rattle.fws_ifcl.specs.declared.diagram.Stage.{Stage}
use Rattle.fws_ifcl.specs.declared.step.ChainEnd.{ChainEnd}
use Rattle.fws_ifcl.specs.declared.step.ChainEnd.TheVariants as there
use Rattle.fws_ifcl.specs.declared.diagram.Rule.{Rule}
use Rattle.fws_ifcl.specs.Walk.{rules_walk, chain_walk, stage_end, stage_walk, stages_walk, way_of as way_there, means}
use Rattle.fws_rules.specs.Literals.{positive}
use Rattle.fws_ifcl_rules.specs.Rules.{ruled}
use Rattle.fws_ipt.specs.declared.config.IptChain.{IptChain}
use Rattle.fws_ipt.specs.declared.config.IptConfig.{IptConfig}
use Rattle.fws_ipt.specs.declared.config.IptTable.{IptTable}
use Rattle.fws_ipt.specs.declared.config.IptTable.TheVariants.{Filter, Nat, Mangle}
use Rattle.fws_ipt.specs.declared.hook.Hook.{Hook}
use Rattle.fws_ipt.specs.declared.hook.Hook.TheVariants.{Prerouting, Input, Forward, Output, Postrouting}
use Rattle.fws_ipt.specs.declared.passage.Passage.{Passage}
use Rattle.fws_ipt.specs.declared.passage.ChainEnd.{ChainEnd as IptEnd}
use Rattle.fws_ipt.specs.declared.passage.ChainEnd.TheVariants as ends
use Rattle.fws_ipt.specs.Refusals.{head_width}
use Rattle.fws_ipt.specs.Soundness.{chain_fits}
use Rattle.fws_ipt.specs.Walk.{is_table, builtin_from, policy_at, by_policy, builtin_walk, tracked_at as tracks_at, visit, visits, arriving, delivered, forwarded, sent_out, go_to, routed, entering, way_of, outcome_of, walk, chain_walk as ipt_chain}
use Rattle.fws_ipt_ifcl.specs.declared.side.SideTest.{SideTest}
use Rattle.fws_ipt_ifcl.specs.Diagram.{own_chains, own_stage, headed, unfolded_all, chain_for, is_on_source, tracked_at, stage_for, builtin_stage, stages_for, drawn_by}
use Rattle.fws_ipt_ifcl.specs.Fitting.{has_sideless_rules, has_netmaps_placed}
use Rattle.fws_ipt_ifcl.proofs.Entered.{stage_met}
use Rattle.fws_ipt_ifcl.proofs.Files.{file_rules, built_in, built_suits, built_within, stands_parts}
use Rattle.fws_ipt_ifcl.proofs.Guarding.{first_rule}
use Rattle.fws_ipt_ifcl.proofs.Scenes.{shown, met, is_place}
use Rattle.fws_ipt_ifcl.proofs.Standing.{Stands, StandsAt, all_stand}

-- A packet is at the same point of both ways

abbrev pub ShownAs : Kind → Packet → Option Transit → Option Passage → Type 0
ShownAs k p o None = o ≡ None
ShownAs k p o (Some m) = (v : Bool) × (o ≡ Some (shown v m)) × Stands k p m

abbrev StandsIf : Kind → Packet → Option Passage → Type 0
StandsIf k p None = Unit {0}
StandsIf k p (Some m) = Stands k p m

shown_as : (k : Kind) (p : Packet) (v : Bool) (o : Option Passage) → StandsIf k p o → (x : Option Transit) → x ≡ option_map (shown v) o → ShownAs k p x o
shown_as k p v None stands x is = is
shown_as k p v (Some m) stands x is = (v, is, stands)

policy_stands : (k : Kind) (p : Packet) (accepts : Bool) (end : IptEnd) → StandsAt k p end → StandsIf k p (by_policy accepts end)
policy_stands k p true (ends.Accepted m) stands = stands
policy_stands k p false (ends.Accepted m) stands = stands
policy_stands k p true ends.Dropped stands = tt
policy_stands k p false ends.Dropped stands = tt
policy_stands k p true (ends.Through m) stands = stands
policy_stands k p false (ends.Through m) stands = tt

composed : (k : Kind) (p : Packet) (x : Option Transit) (o : Option Passage) (go : Transit → Option Transit) (next : Passage → Option Passage)
    → ShownAs k p x o → ((v : Bool) (m : Passage) → Stands k p m → ShownAs k p (go (shown v m)) (next m))
    → ShownAs k p (option_and_then go x) (option_and_then next o)
composed k p x None go next is on = ap (option_and_then go) is
composed k p x (Some m) go next (v, is, stands) on =
    subst (λ y. ShownAs k p (option_and_then go y) (next m)) (sym is) (on v m stands)

all_of : (o : Option Transit) → option_and_then (λ t. Some t) o ≡ o
all_of None = refl
all_of (Some t) = refl

-- stages behind stages
behind_one : (more rest all : Transit → Option Transit) → ((t : Transit) → all t ≡ option_and_then more (rest t))
    → (o : Option Transit) → option_and_then all o ≡ option_and_then more (option_and_then rest o)
behind_one more rest all same None = refl
behind_one more rest all same (Some t) = same t

stages_behind : (chains : List Chain) (site : Site) (p : Packet) (k : Kind) (stages more : List Stage) (t : Transit)
    → stages_walk chains site p k (stages ++ more) t ≡ option_and_then (stages_walk chains site p k more) (stages_walk chains site p k stages t)
stages_behind chains site p k [] more t = refl
stages_behind chains site p k (stage ∷ stages) more t =
    behind_one (stages_walk chains site p k more) (stages_walk chains site p k stages) (stages_walk chains site p k (stages ++ more))
    (stages_behind chains site p k stages more) (stage_walk chains site p k stage t)

-- the first rule of a built-in chain of nat accepts a packet of a connection
headed_est : (enter : ℕ → Transit → ChainEnd) (site : Site) (p : Packet) (r : Rec) (stage : Stage) (policy : Option Bool) (rest : List Rule) (t : Transit) → is_some policy ≡ true
    → rules_walk enter site p (Est r) stage 0 (headed Nat policy ++ rest) 0 t ≡ there.Accepted t
headed_est enter site p r stage None rest t some = absurd (false≢true some)
headed_est enter site p r stage (Some accepts) rest t some = first_rule enter site p (Est r) stage 0 (ruled (positive tests.Est ∷ []) acts.Accept) rest t

-- what is known of a configuration
pub record Known (site : Site) (chains : List IptChain) : Type 0 where
  pub fit : list_all (chain_fits chains) chains ≡ true
  pub plain : list_all has_sideless_rules chains ≡ true
  pub netmaps : list_all has_netmaps_placed chains ≡ true

module _ (asks : SideTest) (site : Site) (sound : IsSound site) (entries : RoutesAreEntries) (p : Packet) (of_site : p.entry ≤ length site.faces + 1) (k : Kind)
    (c : IptConfig) (known : Known site c.chains) where
  abbrev drawn : List Chain
  drawn = own_chains ++ map (chain_for asks site) c.chains

  -- a built-in chain
  builtin_met : (table : IptTable) (hook : Hook) → is_place table hook ≡ true → (hook ≡ Output → nat_eq p.entry 0 ≡ true) → (is_table Nat table ≡ true → is_est k ≡ false)
      → (o : Option ℕ) → builtin_from 0 table hook c.chains ≡ o → (v : Bool) (m : Passage) → Stands k p m
      → ShownAs k p (stages_walk drawn site p k (option_map_or (λ n. stage_for c.chains table hook n ∷ []) o []) (shown v m))
      (builtin_walk c.chains site p (is_est k) hook o m)
  builtin_met table hook place own new None is v m stands = (v, refl, stands)
  builtin_met table hook place own new (Some n) is v m stands =
      let built = built_in c.chains table hook n is in
      let within : n < length c.chains = built_within c.chains table hook n built in
      let end = ipt_chain c.chains site p (is_est k) hook (length c.chains) [] n m in
      let accepts = policy_at c.chains n in
      shown_as k p accepts (by_policy accepts end) (policy_stands k p accepts end (all_stand k site p hook c.chains (length c.chains) [] n m stands)) _
      (all_of (stage_walk drawn site p k (stage_for c.chains table hook n) (shown v m))
      ∙ stage_met asks site sound entries p of_site table hook k place own new c.chains known.fit known.plain known.netmaps (n + 3) accepts
      n (built_suits c.chains table hook n built) within refl v m stands)

  -- where a packet's class doesn't matter, and for new packets
  table_met : (table : IptTable) (hook : Hook) → is_place table hook ≡ true → (hook ≡ Output → nat_eq p.entry 0 ≡ true) → (is_table Nat table ≡ true → is_est k ≡ false)
      → (v : Bool) (m : Passage) → Stands k p m
      → ShownAs k p (stages_walk drawn site p k (builtin_stage c.chains table hook) (shown v m))
      (builtin_walk c.chains site p (is_est k) hook (builtin_from 0 table hook c.chains) m)
  table_met table hook place own new v m stands = builtin_met table hook place own new (builtin_from 0 table hook c.chains) refl v m stands

module _ (asks : SideTest) (site : Site) (p : Packet) (r : Rec) (chains : List IptChain) where
  nat_headed : (enter : ℕ → Transit → ChainEnd) (stage : Stage) (chain : IptChain) → Nat ≡ chain.table → is_some chain.policy ≡ true → (t : Transit)
      → rules_walk enter site p (Est r) stage 0 (chain_for asks site chain).rules 0 t ≡ there.Accepted t
  nat_headed enter stage chain table some t =
      subst (λ tab. rules_walk enter site p (Est r) stage 0 (headed tab chain.policy ++ unfolded_all asks site (is_on_source chain.name) (head_width chain.table chain.policy) chain.rules) 0 t ≡ there.Accepted t)
      table (headed_est enter site p r stage chain.policy _ t some)

  -- a packet of a connection passes a built-in chain of nat
  nat_passed : (hook : Hook) (o : Option ℕ) → builtin_from 0 Nat hook chains ≡ o → (v : Bool) (m : Passage)
      → (w : Bool) × (stages_walk (own_chains ++ map (chain_for asks site) chains) site p (Est r) (option_map_or (λ n. stage_for chains Nat hook n ∷ []) o []) (shown v m) ≡ Some (shown w m))
  nat_passed hook None is v m = (v, refl)
  nat_passed hook (Some n) is v m =
      let built = built_in chains Nat hook n is in
      let parts = stands_parts Nat hook built.chain built.stands in
      let drawn = own_chains ++ map (chain_for asks site) chains in
      let stage = stage_for chains Nat hook n in
      let enter = chain_walk drawn site p (Est r) stage (suc (suc (length (map (chain_for asks site) chains)))) ((n + 3) ∷ []) in
      let t = shown (policy_at chains n) m in (
        policy_at chains n,
        all_of (stage_walk drawn site p (Est r) stage (shown v m))
            ∙ ap (λ rules. stage_end (rules_walk enter site p (Est r) stage 0 rules 0 t)) (file_rules asks site chains n)
            ∙ ap (λ o. stage_end (rules_walk enter site p (Est r) stage 0 (option_map_or (λ (chain : Chain). chain.rules) (option_map (chain_for asks site) o) []) 0 t)) built.is
            ∙ ap stage_end (nat_headed enter stage built.chain parts.0 parts.2 t),
      )

-- a packet over which nothing was written keeps its ports
ports_kept : (p : Packet) (b : Bool) → p ≡ record p { dport = cond b p.dport p.dport; sport = cond b p.sport p.sport }
ports_kept p true = refl
ports_kept p false = refl

-- Built-in chains in their order

abbrev is_output : Hook → Bool
is_output Output = true
is_output _ = false

-- tables have chains at the hooks, and OUTPUT is met by the host's own packets alone
abbrev pub AreMet : Packet → List (IptTable × Hook) → Type 0
AreMet p [] = Unit {0}
AreMet p (at ∷ rest) = (is_place at.0 at.1 ≡ true) × (at.1 ≡ Output → nat_eq p.entry 0 ≡ true) × AreMet p rest

pub elsewhere : (p : Packet) (hook : Hook) → is_output hook ≡ false → hook ≡ Output → nat_eq p.entry 0 ≡ true
elsewhere p hook other is = absurd (false≢true (sym other ∙ ap is_output is))

module _ (asks : SideTest) (site : Site) (sound : IsSound site) (entries : RoutesAreEntries) (p : Packet) (of_site : p.entry ≤ length site.faces + 1)
    (c : IptConfig) (known : Known site c.chains) where
  abbrev figure : List Chain
  figure = own_chains ++ map (chain_for asks site) c.chains

  abbrev At : Kind → IptTable → Hook → Type 0
  At k table hook = is_place table hook ≡ true → (hook ≡ Output → nat_eq p.entry 0 ≡ true) → (v : Bool) (m : Passage) → Stands k p m
      → ShownAs k p (stages_walk figure site p k (tracked_at table hook ++ builtin_stage c.chains table hook) (shown v m)) (visit c site p k table hook m)

  new_met : (table : IptTable) (hook : Hook) → At New table hook
  new_met Filter hook place own v m stands = table_met asks site sound entries p of_site New c known Filter hook place own (λ is. refl) v m stands
  new_met Mangle hook place own v m stands = table_met asks site sound entries p of_site New c known Mangle hook place own (λ is. refl) v m stands
  new_met Nat Prerouting place own v m stands = table_met asks site sound entries p of_site New c known Nat Prerouting place own (λ is. refl) true m stands
  new_met Nat Input place own v m stands = table_met asks site sound entries p of_site New c known Nat Input place own (λ is. refl) true m stands
  new_met Nat Forward place own v m stands = absurd (false≢true place)
  new_met Nat Output place own v m stands = table_met asks site sound entries p of_site New c known Nat Output place own (λ is. refl) true m stands
  new_met Nat Postrouting place own v m stands = table_met asks site sound entries p of_site New c known Nat Postrouting place own (λ is. refl) true m stands

  tracked_met : (r : Rec) (hook : Hook) (m : Passage) → ShownAs (Est r) p (stages_walk figure site p (Est r) (builtin_stage c.chains Nat hook) (shown true (tracks_at r hook m))) (Some (tracks_at r hook m))
  tracked_met r hook m =
      let passed = nat_passed asks site p r c.chains hook (builtin_from 0 Nat hook c.chains) refl true (tracks_at r hook m) in
      (passed.0, passed.1, tt)

  est_met : (r : Rec) (table : IptTable) (hook : Hook) → At (Est r) table hook
  est_met r Filter hook place own v m stands = table_met asks site sound entries p of_site (Est r) c known Filter hook place own (λ is. absurd (false≢true is)) v m stands
  est_met r Mangle hook place own v m stands = table_met asks site sound entries p of_site (Est r) c known Mangle hook place own (λ is. absurd (false≢true is)) v m stands
  est_met r Nat Prerouting place own v m stands = tracked_met r Prerouting m
  est_met r Nat Input place own v m stands = tracked_met r Input m
  est_met r Nat Forward place own v m stands = absurd (false≢true place)
  est_met r Nat Output place own v m stands = tracked_met r Output m
  est_met r Nat Postrouting place own v m stands = tracked_met r Postrouting m

  pub visit_met : (k : Kind) (table : IptTable) (hook : Hook) → At k table hook
  visit_met New table hook = new_met table hook
  visit_met (Est r) table hook = est_met r table hook

  pub visits_met : (k : Kind) (places : List (IptTable × Hook)) → AreMet p places → (v : Bool) (m : Passage) → Stands k p m
      → ShownAs k p (stages_walk figure site p k (stages_for c.chains places) (shown v m)) (visits c site p k places m)
  visits_met k [] met v m stands = (v, refl, stands)
  visits_met k (at ∷ rest) (place, own, more) v m stands =
      subst (λ x. ShownAs k p x (visits c site p k (at ∷ rest) m))
      (sym (stages_behind figure site p k (tracked_at at.0 at.1 ++ builtin_stage c.chains at.0 at.1) (stages_for c.chains rest) (shown v m)))
      (composed k p (stages_walk figure site p k (tracked_at at.0 at.1 ++ builtin_stage c.chains at.0 at.1) (shown v m)) (visit c site p k at.0 at.1 m)
      (stages_walk figure site p k (stages_for c.chains rest)) (visits c site p k rest) (visit_met k at.0 at.1 place own v m stands)
      (λ v m stands. visits_met k rest more v m stands))

  pub arrive_met : AreMet p arriving
  arrive_met = (refl, elsewhere p Prerouting refl, (refl, elsewhere p Prerouting refl, tt))

  pub deliver_met : AreMet p delivered
  deliver_met = (refl, elsewhere p Input refl, (refl, elsewhere p Input refl, (refl, elsewhere p Input refl, tt)))

  pub forward_met : AreMet p forwarded
  forward_met = (refl, elsewhere p Forward refl, (refl, elsewhere p Forward refl, (refl, elsewhere p Postrouting refl, (refl, elsewhere p Postrouting refl, tt))))

  pub send_met : nat_eq p.entry 0 ≡ true → AreMet p sent_out
  send_met own = (refl, λ is. own, (refl, λ is. own, (refl, λ is. own, (refl, elsewhere p Postrouting refl, (refl, elsewhere p Postrouting refl, tt)))))

  pub entering_stands : (k : Kind) → Stands k p (entering p)
  entering_stands New = ports_kept p (has_ports p.proto)
  entering_stands (Est r) = tt

  routed_met : (k : Kind) (exit : Exit) (v : Bool) (m : Passage) → Stands k p m
      → ShownAs k p (onwards (stages_walk figure site p k (stages_for c.chains delivered)) (stages_walk figure site p k (stages_for c.chains forwarded)) exit (shown v m))
      (go_to c site p k exit m)
  routed_met k Deliver v m stands = visits_met k delivered deliver_met v m stands
  routed_met k (Out entry) v m stands = visits_met k forwarded forward_met v m stands
  routed_met k Lost v m stands = refl

  either_way : (k : Kind) (b : Bool) → nat_eq p.entry 0 ≡ b
      → ShownAs k p
      (cond b (stages_walk figure site p k (own_stage 0 ∷ stages_for c.chains sent_out) (entered p))
      (option_and_then (λ t. onwards (stages_walk figure site p k (stages_for c.chains delivered)) (stages_walk figure site p k (stages_for c.chains forwarded)) (exit_at site p.entry t.packet.dst) t)
      (stages_walk figure site p k (own_stage 0 ∷ stages_for c.chains arriving) (entered p))))
      (cond b (visits c site p k sent_out (entering p)) (option_and_then (routed c site p k) (visits c site p k arriving (entering p))))
  either_way k true own = visits_met k sent_out (send_met own) true (entering p) (entering_stands k)
  either_way k false other =
      composed k p (stages_walk figure site p k (own_stage 0 ∷ stages_for c.chains arriving) (entered p)) (visits c site p k arriving (entering p)) _ (routed c site p k)
      (visits_met k arriving arrive_met true (entering p) (entering_stands k))
      (λ v m stands. routed_met k (exit_at site p.entry m.packet.dst) v m stands)

  pub way_met : (k : Kind) → ShownAs k p (way_there (drawn_by asks site c) site p k) (way_of c site p k)
  way_met k = either_way k (nat_eq p.entry 0) refl

same_outcome : (k : Kind) (p : Packet) (x : Option Transit) (o : Option Passage) → ShownAs k p x o → outcome_there k x ≡ outcome_of k o
same_outcome New p x None is = ap (outcome_there New) is
same_outcome New p x (Some m) (v, is, stands) = ap (outcome_there New) is
same_outcome (Est r) p x None is = ap (outcome_there (Est r)) is
same_outcome (Est r) p x (Some m) (v, is, stands) = ap (outcome_there (Est r)) is

pub walks_kept : (asks : SideTest) (site : Site) → IsSound site → RoutesAreEntries → (c : IptConfig) → Known site c.chains
    → (p : Packet) (k : Kind) → p.entry ≤ length site.faces + 1 → means (drawn_by asks site c) site p k ≡ walk c site p k
walks_kept asks site sound entries c known p k of_site =
    same_outcome k p (way_there (drawn_by asks site c) site p k) (way_of c site p k) (way_met asks site sound entries p of_site c known k)
