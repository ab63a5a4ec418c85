-- What is told of the diagram that tells which rules are used is what ipfw's walk uses.
use Rattle.std.proofs.Common.{◌≡◌, ℕ, Bool, true, false, cond, nat_eq, Option, Some, None, List, [], ◌∷◌, ◌++◌, refl, sym, ap, ◌∙◌, append-nil}
use Rattle.std.specs.List.{list_all}
use Rattle.std.specs.Option.{option_map_or}
use Rattle.fws_net.specs.declared.connection.Kind.{Kind}
use Rattle.fws_net.specs.declared.exit.Exit.{Exit}
use Rattle.fws_net.specs.declared.exit.Exit.TheVariants.{Deliver, Out, Lost}
use Rattle.fws_net.specs.declared.packet.Packet.{Packet}
use Rattle.fws_net.specs.declared.site.Site.{Site}
use Rattle.fws_net.specs.declared.transit.Transit.{Transit}
use Rattle.fws_net.specs.Routes.{exit_at}
use Rattle.fws_net.specs.Transits.{with_verdict, with_tracked_dst, entered, used_onwards}
use Rattle.fws_ifcl.specs.declared.diagram.Place.{Place}
use Rattle.fws_ifcl.specs.declared.diagram.Stage.{Stage}
use Rattle.fws_ifcl.specs.declared.step.ChainEnd.{ChainEnd}
use Rattle.fws_ifcl.specs.Spots.{told}
use Rattle.fws_ifcl.specs.Uses.{chain_used, stage_used, used_places}
use Rattle.fws_ifcl.specs.Walk.{chain_walk, stage_walk, stages_walk}
use Rattle.fws_ifcl_rules.specs.Places.{WalksGoByPlaces}
use Rattle.fws_ifcl_rules.specs.UsedPlaces.{AreBeside, stages_told, TellsOfUses}
use Rattle.fws_ipfw.specs.declared.config.IpfwConfig.{IpfwConfig}
use Rattle.fws_ipfw.specs.Soundness.{nat_fits}
use Rattle.fws_ipfw.specs.Uses.{pass_used, used}
use Rattle.fws_ipfw.specs.Walk.{pass_walk}
use Rattle.fws_ipfw_ifcl.specs.Diagram.{all_rules, chains_of, pass_stage, destination_stage}
use Rattle.fws_ipfw_ifcl.specs.Placed.{with_counts, placed_of, all_told, spots_of}
use Rattle.fws_ipfw_ifcl.proofs.Acting.{in_half}
use Rattle.fws_ipfw_ifcl.proofs.Beside.{all_same}
use Rattle.fws_ipfw_ifcl.proofs.Counted.{counted_told}
use Rattle.fws_ipfw_ifcl.proofs.Counting.{numbers_from, counted_heard, counted_pass}
use Rattle.fws_ipfw_ifcl.proofs.Courses.{run}
use Rattle.fws_ipfw_ifcl.proofs.Halves.{all_beside, pass_drawn}
use Rattle.fws_ipfw_ifcl.proofs.Passing.{Keeps, rules_keep, passes}
use Rattle.fws_ipfw_ifcl.proofs.Telling.{telling}

-- nothing is told behind a last stage
none_behind : (o : Option Transit) → option_map_or {T = Transit} {U = List ℕ} (λ t. []) o [] ≡ []
none_behind None = refl
none_behind (Some t) = refl

module _ (told_law : TellsOfUses) (law : WalksGoByPlaces) (site : Site) (c : IpfwConfig) (fits : list_all nat_fits c.nats ≡ true) (p : Packet) (k : Kind) where
  abbrev d : IpfwConfig
  d = with_counts c

  are : AreBeside (spots_of site c) 0 (all_told site c)
  are = told_law.beside (all_told site c ∷ []) 0

  -- a pass through all rules
  pass_tells : (used : ℕ → Transit → List Place) (enter : ℕ → Transit → ChainEnd) (outward : Bool) (t : Transit)
      → run (telling told_law law used enter (spots_of site c) site p k outward (all_rules site d) (all_told site c) are) 0 t ≡ pass_used c site p k outward t
  pass_tells used enter outward t =
      let numbers = numbers_from 0 c.rules in
      pass_drawn k outward (telling told_law law used enter (spots_of site c) site p k outward (all_rules site d) (all_told site c) are) d fits numbers (counted_heard 0 c.rules)
      (record { rest = []; are = sym (append-nil (all_rules site d)) }, record { rest = []; are = all_same site c ∙ sym (append-nil (all_beside site d numbers)) }) t
      ∙ counted_told told_law law used enter (spots_of site c) site p k outward (all_rules site d) (all_told site c) are c 0 c.rules 0 (in_half false t)

  -- stages
  abbrev drawn_told : List Stage → Transit → List ℕ
  drawn_told stages t = stages_told (spots_of site c) (chains_of site d) site p k stages t

  -- one stage, which begins with its own verdict
  stage_tells : (outward : Bool) (t : Transit) → t.verdict ≡ true
      → told (spots_of site c) (stage_used (chains_of site d) site p k (pass_stage outward) t) ≡ pass_used c site p k outward t
  stage_tells outward t is =
      let same : with_verdict true t ≡ t = ap (λ v. with_verdict v t) (sym is) in
      pass_tells (chain_used (chains_of site d) site p k (pass_stage outward) 1 (0 ∷ [])) (chain_walk (chains_of site d) site p k (pass_stage outward) 1 (0 ∷ [])) outward (with_verdict true t)
      ∙ ap (pass_used c site p k outward) same

  -- alone
  alone_tells : (outward : Bool) (t : Transit) → t.verdict ≡ true → drawn_told (pass_stage outward ∷ []) t ≡ pass_used c site p k outward t
  alone_tells outward t is =
      let here = told (spots_of site c) (stage_used (chains_of site d) site p k (pass_stage outward) t) in
      ap (λ l. here ++ l) (none_behind (stage_walk (chains_of site d) site p k (pass_stage outward) t)) ∙ append-nil here ∙ stage_tells outward t is

  -- the host's own packets
  sent_tells : drawn_told (destination_stage ∷ pass_stage true ∷ []) (entered p) ≡ pass_used c site p k true (with_tracked_dst k (entered p))
  sent_tells =
      ap (λ l. (l ++ []) ++ drawn_told (pass_stage true ∷ []) (with_tracked_dst k (entered p))) (told_law.beside (all_told site c ∷ []) 1 0)
      ∙ alone_tells true (with_tracked_dst k (entered p)) refl

  -- behind routing, in the diagram and under ipfw
  abbrev drawn_behind : Transit → List ℕ
  drawn_behind t = used_onwards (drawn_told []) (drawn_told (pass_stage true ∷ [])) (exit_at site p.entry t.packet.dst) t

  abbrev used_behind : Transit → List ℕ
  used_behind t = used_onwards (λ t. []) (pass_used c site p k true) (exit_at site p.entry t.packet.dst) t

  -- an exit
  routed_tells : (e : Exit) (t : Transit) → t.verdict ≡ true
      → used_onwards (drawn_told []) (drawn_told (pass_stage true ∷ [])) e t ≡ used_onwards (λ t. []) (pass_used c site p k true) e t
  routed_tells Deliver t is = refl
  routed_tells (Out entry) t is = alone_tells true t is
  routed_tells Lost t is = refl

  -- a packet that comes to routing
  routed_all_tell : (o : Option Transit) → Keeps true o → option_map_or drawn_behind o [] ≡ option_map_or used_behind o []
  routed_all_tell None keeps = refl
  routed_all_tell (Some t) keeps = routed_tells (exit_at site p.entry t.packet.dst) t keeps

  -- every packet
  pub uses_kept : told (spots_of site c) (used_places (placed_of site c) site p k) ≡ used c site p k
  uses_kept =
      let b = nat_eq p.entry 0 in
      let e = entered p in
      let o = stages_walk (chains_of site d) site p k (pass_stage false ∷ []) e in
      let sent = pass_used c site p k true (with_tracked_dst k e) in
      let walked = pass_walk c site p k false e in
      let arrived : o ≡ walked = passes law site d c fits p k (counted_pass c site p k) false e refl in
      told_law.stages (spots_of site c) (placed_of site c) site p k
      ∙ ap (λ l. cond b l (drawn_told (pass_stage false ∷ []) e ++ option_map_or drawn_behind o [])) sent_tells
      ∙ ap (λ l. cond b sent (l ++ option_map_or drawn_behind o [])) (alone_tells false e refl)
      ∙ ap (λ o. cond b sent (pass_used c site p k false e ++ option_map_or drawn_behind o [])) arrived
      ∙ ap (λ l. cond b sent (pass_used c site p k false e ++ l)) (routed_all_tell walked (rules_keep c site p false true k c.rules 0 (in_half false e) refl))
