-- What is told of the diagram in which filter rules stand in their order is what pf's walk uses.
use Rattle.std.proofs.Common.{◌≡◌, ℕ, Bool, true, false, cond, nat_eq, Option, Some, None, List, [], ◌∷◌, ◌++◌, length, drop, arith, refl, sym, ap, ◌∙◌, append-nil}
use Rattle.std.proofs.Math.Seq.{drop-append_seam}
use Rattle.std.specs.Option.{option_map_or}
use Rattle.fws_net.specs.declared.connection.Kind.{Kind}
use Rattle.fws_net.specs.declared.connection.Kind.TheVariants.{New, Est}
use Rattle.fws_net.specs.declared.exit.Exit.{Exit}
use Rattle.fws_net.specs.declared.exit.Exit.TheVariants.{Deliver, Out, Lost}
use Rattle.fws_net.specs.declared.packet.Packet.{Packet}
use Rattle.fws_net.specs.declared.site.Site.{Site}
use Rattle.fws_net.specs.declared.transit.Transit.{Transit}
use Rattle.fws_net.specs.Conditions.{is_shown}
use Rattle.fws_net.specs.Routes.{exit_at}
use Rattle.fws_net.specs.Transits.{with_verdict, entered, used_onwards}
use Rattle.fws_ifcl.specs.declared.diagram.Place.{Place}
use Rattle.fws_ifcl.specs.declared.step.ChainEnd.{ChainEnd}
use Rattle.fws_ifcl.specs.Spots.{told}
use Rattle.fws_ifcl.specs.Uses.{chain_used, stage_used, used_places}
use Rattle.fws_ifcl.specs.Walk.{chain_walk, stage_walk, stages_walk}
use Rattle.fws_ifcl_rules.specs.Places.{WalksGoByPlaces, Stands}
use Rattle.fws_ifcl_rules.specs.UsedPlaces.{untold, AreBeside, stages_told, TellsOfUses, Telling, tell, Bears}
use Rattle.fws_pf.specs.declared.config.PfConfig.{PfConfig}
use Rattle.fws_pf.specs.Uses.{first_translation, first_filter_rule, pass_used, used}
use Rattle.fws_pf.specs.Walk.{translations, interface_of, pass_of}
use Rattle.fws_pf_ifcl.specs.Blocks.{translations_from, met_rules}
use Rattle.fws_pf_ifcl.specs.Diagram.{tracking, skipping, translations_place, filter_place, pass_rules, chains_of, pass_stage}
use Rattle.fws_pf_ifcl.specs.Placed.{placed_of, translations_told, filter_told, pass_told, spots_of}
use Rattle.fws_pf_ifcl.proofs.Counted.{first_told_many, last_beside}
use Rattle.fws_pf_ifcl.proofs.Courses.{Course, course}
use Rattle.fws_pf_ifcl.proofs.FilteringTold.{filter_tell}
use Rattle.fws_pf_ifcl.proofs.Lengths.{first_length, front_length}
use Rattle.fws_pf_ifcl.proofs.Passing.{and_true, passes, pass_settles}
use Rattle.fws_pf_ifcl.proofs.Settling.{settled}
use Rattle.fws_pf_ifcl.proofs.TranslatedTold.{translations_tell}

-- the number of the chain of a pass
abbrev chain_of : Bool → ℕ
chain_of outward = cond outward 1 0

beside_of : (told_law : TellsOfUses) (outward : Bool) (c : PfConfig) → AreBeside (spots_of c) (chain_of outward) (pass_told outward c)
beside_of told_law true c = told_law.beside (pass_told false c ∷ pass_told true c ∷ []) 1
beside_of told_law false c = told_law.beside (pass_told false c ∷ pass_told true c ∷ []) 0

-- what is told of a packet's course
abbrev telling : (told_law : TellsOfUses) (law : WalksGoByPlaces) (used : ℕ → Transit → List Place) (enter : ℕ → Transit → ChainEnd) (site : Site) (p : Packet) (k : Kind)
    (outward : Bool) (c : PfConfig) → Telling (course law enter site p k None outward c)
telling told_law law used enter site p k outward c = record {
  used = used;
  spots = spots_of c;
  chain = chain_of outward;
  beside = pass_told outward c;
  law = told_law.places used enter (spots_of c) (chain_of outward) site p k (pass_stage outward) (pass_rules None outward c) (pass_told outward c) (beside_of told_law outward c);
}

-- the first rules, for a new packet
first_rules_told : (outward : Bool) (w : Course New outward) (u : Telling w) (c : PfConfig) → Stands w 0 (tracking outward ++ skipping c)
    → Bears u 0 (untold (tracking outward ++ skipping c)) → (t : Transit)
    → tell u 0 t ≡ cond (is_shown (interface_of w.site outward t) c.skip) [] (tell u (translations_place outward) t)
first_rules_told true w u c s b t =
    u.law.told s b (tt, (tt, tt)) t
    ∙ ap (λ h. cond h [] (tell u 2 t)) (and_true (is_shown (interface_of w.site true t) c.skip))
first_rules_told false w u c s b t =
    u.law.told s b (tt, (tt, (tt, tt))) t
    ∙ ap (λ h. cond h [] (tell u 3 t)) (and_true (is_shown (interface_of w.site false t) c.skip))

-- a pass through all rules
pass_tells : (told_law : TellsOfUses) (law : WalksGoByPlaces) (used : ℕ → Transit → List Place) (enter : ℕ → Transit → ChainEnd) (site : Site) (p : Packet) (k : Kind)
    (outward : Bool) (c : PfConfig) (t : Transit) → tell (telling told_law law used enter site p k outward c) 0 t ≡ pass_used c site p k outward t
pass_tells told_law law used enter site p (Est r) true c t =
    let w = course law enter site p (Est r) None true c in
    let u = telling told_law law used enter site p (Est r) true c in
    let first : Stands w 0 (tracking true) = record { rest = drop 1 (pass_rules None true c); are = refl } in
    let beside : Bears u 0 (untold (tracking true)) = record { rest = drop 1 (pass_told true c); are = refl } in
    u.law.told first beside (tt, tt) t
pass_tells told_law law used enter site p (Est r) false c t =
    let w = course law enter site p (Est r) None false c in
    let u = telling told_law law used enter site p (Est r) false c in
    let first : Stands w 0 (tracking false) = record { rest = drop 2 (pass_rules None false c); are = refl } in
    let beside : Bears u 0 (untold (tracking false)) = record { rest = drop 2 (pass_told false c); are = refl } in
    u.law.told first beside (tt, (tt, tt)) t
pass_tells told_law law used enter site p New outward c t =
    let w = course law enter site p New None outward c in
    let u = telling told_law law used enter site p New outward c in
    let first = tracking outward ++ skipping c in
    let nats = translations c outward in
    let place = translations_place outward in
    let filter = filter_place outward c in
    let middle = translations_from outward filter place nats in
    let middle_told = translations_told outward filter place (first_translation c outward) nats in
    let last = met_rules outward filter c.filter in
    let ahead : Stands w 0 (first ++ middle) = record { rest = last; are = refl } in
    let ahead_beside : Bears u 0 (untold first ++ middle_told) = record { rest = filter_told outward filter (first_filter_rule c) c.filter; are = refl } in
    let few : length first ≡ place = first_length outward c in
    let few_told : length (untold first) ≡ place = first_told_many told_law outward c in
    let parts = w.law.parts place first middle ahead (omega (arith, few)) in
    let besides = u.law.parts place (untold first) middle_told ahead_beside (omega (arith, few_told)) in
    let rest : drop filter w.full ≡ last = ap (λ n. drop n (pass_rules None outward c)) (sym (front_length outward c)) ∙ drop-append_seam (first ++ middle) last in
    first_rules_told outward w u c parts.0 besides.0 t
    ∙ ap (cond (is_shown (interface_of site outward t) c.skip) [])
    (translations_tell outward w u c filter told_law.first_many
    (filter_tell outward w u told_law.first_many filter (first_filter_rule c) c.filter rest (last_beside told_law outward c))
    place (first_translation c outward) nats parts.1 besides.1 refl t)

-- nothing is told behind a last stage
none_behind : (o : Option Transit) → option_map_or {T = Transit} {U = List ℕ} (λ t. []) o [] ≡ []
none_behind None = refl
none_behind (Some t) = refl

module _ (told_law : TellsOfUses) (law : WalksGoByPlaces) (site : Site) (c : PfConfig) (p : Packet) (k : Kind) where
  -- one stage
  stage_tells : (outward : Bool) (t : Transit) → told (spots_of c) (stage_used (chains_of None c) site p k (pass_stage outward) t) ≡ pass_used c site p k outward (with_verdict true t)
  stage_tells true t =
      pass_tells told_law law (chain_used (chains_of None c) site p k (pass_stage true) 1 (1 ∷ [])) (chain_walk (chains_of None c) site p k (pass_stage true) 1 (1 ∷ [])) site p k true c
      (with_verdict true t)
  stage_tells false t =
      pass_tells told_law law (chain_used (chains_of None c) site p k (pass_stage false) 1 (0 ∷ [])) (chain_walk (chains_of None c) site p k (pass_stage false) 1 (0 ∷ [])) site p k false c
      (with_verdict true t)

  abbrev drawn_told : Bool → Transit → List ℕ
  drawn_told outward t = stages_told (spots_of c) (chains_of None c) site p k (pass_stage outward ∷ []) t

  -- alone
  alone_tells : (outward : Bool) (t : Transit) → drawn_told outward t ≡ pass_used c site p k outward (with_verdict true t)
  alone_tells outward t =
      let here = told (spots_of c) (stage_used (chains_of None c) site p k (pass_stage outward) t) in
      ap (λ l. here ++ l) (none_behind (stage_walk (chains_of None c) site p k (pass_stage outward) t)) ∙ append-nil here ∙ stage_tells outward t

  -- behind routing, in the diagram and under pf
  abbrev drawn_behind : Transit → List ℕ
  drawn_behind t = used_onwards (λ t. []) (drawn_told true) (exit_at site p.entry t.packet.dst) t

  abbrev used_behind : Transit → List ℕ
  used_behind t = used_onwards (λ t. []) (pass_used c site p k true) (exit_at site p.entry t.packet.dst) t

  -- an exit
  routed_tells : (e : Exit) (t : Transit) → used_onwards (λ t. []) (drawn_told true) e t ≡ used_onwards (λ t. []) (pass_used c site p k true) e (with_verdict true t)
  routed_tells Deliver t = refl
  routed_tells (Out entry) t = alone_tells true t
  routed_tells Lost t = refl

  -- a packet that comes to routing
  routed_all_tell : (o : Option Transit) → option_map_or drawn_behind o [] ≡ option_map_or used_behind (settled o) []
  routed_all_tell None = refl
  routed_all_tell (Some t) = routed_tells (exit_at site p.entry t.packet.dst) t

  -- every packet
  pub uses_kept : told (spots_of c) (used_places (placed_of c) site p k) ≡ used c site p k
  uses_kept =
      let b = nat_eq p.entry 0 in
      let e = entered p in
      let o = stages_walk (chains_of None c) site p k (pass_stage false ∷ []) e in
      let arrived : settled o ≡ pass_of c site p k false e = passes law site None c (λ outward. tt) p k false e ∙ pass_settles c site p k false e refl in
      told_law.stages (spots_of c) (placed_of c) site p k
      ∙ ap (λ l. cond b l (drawn_told false e ++ option_map_or drawn_behind o [])) (alone_tells true e)
      ∙ ap (λ l. cond b (pass_used c site p k true e) (l ++ option_map_or drawn_behind o [])) (alone_tells false e)
      ∙ ap (λ l. cond b (pass_used c site p k true e) (pass_used c site p k false e ++ l)) (routed_all_tell o ∙ ap (λ o. option_map_or used_behind o []) arrived)
