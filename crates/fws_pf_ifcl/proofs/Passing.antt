-- The diagram's stages are pf's passes.
use Rattle.std.proofs.Common.{◌≡◌, ℕ, Bool, true, false, cond, ◌&&◌, nat_eq, Option, Some, None, option_and_then, List, [], ◌∷◌, ◌++◌, length, drop, arith, refl, sym, ap, ◌∙◌}
use Rattle.std.proofs.Math.Seq.{drop-append_seam}
use Rattle.std.specs.Option.{option_map_or}
use Rattle.fws_net.specs.declared.connection.Kind.{Kind}
use Rattle.fws_net.specs.declared.connection.Kind.TheVariants.{New, Est}
use Rattle.fws_net.specs.declared.exit.Exit.{Exit}
use Rattle.fws_net.specs.declared.exit.Exit.TheVariants.{Deliver, Out, Lost}
use Rattle.fws_net.specs.declared.outcome.End.{End}
use Rattle.fws_net.specs.declared.packet.Packet.{Packet}
use Rattle.fws_net.specs.declared.site.Site.{Site}
use Rattle.fws_net.specs.declared.transit.Transit.{Transit}
use Rattle.fws_net.specs.Conditions.{is_shown}
use Rattle.fws_net.specs.Routes.{exit_at}
use Rattle.fws_net.specs.Transits.{with_verdict, with_tracked_dst, decided, entered, onwards, outcome_of}
use Rattle.fws_ifcl.specs.declared.diagram.Stage.{Stage}
use Rattle.fws_ifcl.specs.declared.step.ChainEnd.{ChainEnd}
use Rattle.fws_ifcl.specs.declared.step.ChainEnd.TheVariants.{Accepted}
use Rattle.fws_ifcl.specs.Walk.{chain_walk, stage_walk, stages_walk, means}
use Rattle.fws_ifcl_rules.specs.Places.{WalksGoByPlaces, run, Stands}
use Rattle.fws_pf.specs.declared.config.PfConfig.{PfConfig}
use Rattle.fws_pf.specs.declared.config.PfNat.{PfNat}
use Rattle.fws_pf.specs.declared.config.PfRule.{PfRule}
use Rattle.fws_pf.specs.Walk.{written, tagged, translated_by, translations, chosen, matches, acted, rules_walk, behind, interface_of, pass_of, walk}
use Rattle.fws_pf_ifcl.specs.Blocks.{Order, translations_from, filter_rules}
use Rattle.fws_pf_ifcl.specs.Diagram.{tracking, skipping, translations_place, filter_place, pass_rules, chains_of, pass_stage, drawn_of}
use Rattle.fws_pf_ifcl.proofs.Courses.{Course, course}
use Rattle.fws_pf_ifcl.proofs.Lengths.{first_length, front_length}
use Rattle.fws_pf_ifcl.proofs.Settling.{settled, left, left_by, settled_by, is_settled, either, decided_settled}
use Rattle.fws_pf_ifcl.proofs.Filtering.{Fits, last_walk}
use Rattle.fws_pf_ifcl.proofs.Translated.{translations_walk}

-- Passes

pub and_true : (b : Bool) → (b && true) ≡ b
and_true true = refl
and_true false = refl

-- the first rules, for a new packet
first_rules : (outward : Bool) (w : Course New outward) (c : PfConfig) → Stands w 0 (tracking outward ++ skipping c) → (t : Transit)
    → run w 0 t ≡ cond (is_shown (interface_of w.site outward t) c.skip) (Accepted t) (run w (translations_place outward) t)
first_rules true w c s t =
    w.law.walked s (tt, (tt, tt)) t
    ∙ ap (λ b. cond b (Accepted t) (run w 2 t)) (and_true (is_shown (interface_of w.site true t) c.skip))
first_rules false w c s t =
    w.law.walked s (tt, (tt, (tt, tt))) t
    ∙ ap (λ b. cond b (Accepted t) (run w 3 t)) (and_true (is_shown (interface_of w.site false t) c.skip))

-- a pass through all rules
pub pass_drawn : (law : WalksGoByPlaces) (enter : ℕ → Transit → ChainEnd) (site : Site) (p : Packet) (k : Kind) (order : Order) (outward : Bool) (c : PfConfig) → Fits order outward c.filter → (t : Transit)
    → left (run (course law enter site p k order outward c) 0 t) ≡ settled (pass_of c site p k outward t)
pass_drawn law enter site p (Est r) order true c fits t =
    let w = course law enter site p (Est r) order true c in
    let first : Stands w 0 (tracking true) = record { rest = drop 1 (pass_rules order true c); are = refl } in
    ap left (w.law.walked first (tt, tt) t)
pass_drawn law enter site p (Est r) order false c fits t =
    let w = course law enter site p (Est r) order false c in
    let first : Stands w 0 (tracking false) = record { rest = drop 2 (pass_rules order false c); are = refl } in
    ap left (w.law.walked first (tt, (tt, tt)) t)
pass_drawn law enter site p New order outward c fits t =
    let w = course law enter site p New order outward c in
    let first = tracking outward ++ skipping c in
    let nats = translations c outward in
    let place = translations_place outward in
    let filter = filter_place outward c in
    let middle = translations_from outward filter place nats in
    let last = filter_rules order outward filter c.filter in
    let ahead : Stands w 0 (first ++ middle) = record { rest = last; are = refl } in
    let few : length first ≡ place = first_length outward c in
    let parts = w.law.parts place first middle ahead (omega (arith, few)) in
    let rest : drop filter w.full ≡ last = ap (λ n. drop n (pass_rules order outward c)) (sym (front_length outward c)) ∙ drop-append_seam (first ++ middle) last in
    let b = is_shown (interface_of site outward t) c.skip in
    ap left (first_rules outward w c parts.0 t)
    ∙ left_by b (Accepted t) (run w place t)
    ∙ ap (cond b (settled (Some t))) (translations_walk outward w c filter (last_walk order outward w filter c.filter fits rest) place nats parts.1 refl t)
    ∙ settled_by b (Some t) (behind c site p outward (chosen site outward nats t) t)

-- What a pass accepts is settled

-- filter rules
rules_settle : (site : Site) (outward : Bool) (rs : List PfRule) (t : Transit) → settled (rules_walk site outward rs t) ≡ rules_walk site outward rs t
rules_settle site outward [] t = decided_settled t
rules_settle site outward (r ∷ rs) t =
    let go = rules_walk site outward rs in
    either (matches site outward r t) (cond r.quick (decided (acted r t)) (go (acted r t))) (go t)
    (either r.quick (decided (acted r t)) (go (acted r t)) (decided_settled (acted r t)) (rules_settle site outward rs (acted r t)))
    (rules_settle site outward rs t)

-- a translation keeps the verdict
changes_keep : (p : Packet) (outward : Bool) (to : Option End) (tag : Option ℕ) (t : Transit)
    → (tagged tag (option_map_or (λ e. written p outward e t) to t)).verdict ≡ t.verdict
changes_keep p outward None None t = refl
changes_keep p outward None (Some n) t = refl
changes_keep p true (Some e) None t = refl
changes_keep p true (Some e) (Some n) t = refl
changes_keep p false (Some e) None t = refl
changes_keep p false (Some e) (Some n) t = refl

-- behind a translation, or none
behind_settles : (c : PfConfig) (site : Site) (p : Packet) (outward : Bool) (nat : Option PfNat) (t : Transit) → t.verdict ≡ true
    → settled (behind c site p outward nat t) ≡ behind c site p outward nat t
behind_settles c site p outward None t is = rules_settle site outward c.filter t
behind_settles c site p outward (Some nat) t is =
    let after = translated_by p outward nat t in
    either nat.past (Some after) (rules_walk site outward c.filter after)
    (is_settled after (changes_keep p outward nat.to nat.tag t ∙ is)) (rules_settle site outward c.filter after)

-- a pass
pub pass_settles : (c : PfConfig) (site : Site) (p : Packet) (k : Kind) (outward : Bool) (t : Transit) → t.verdict ≡ true
    → settled (pass_of c site p k outward t) ≡ pass_of c site p k outward t
pass_settles c site p New outward t is =
    let nat = chosen site outward (translations c outward) t in
    either (is_shown (interface_of site outward t) c.skip) (Some t) (behind c site p outward nat t)
    (is_settled t is) (behind_settles c site p outward nat t is)
pass_settles c site p (Est r) true t is = is_settled t is
pass_settles c site p (Est r) false t is = is_settled (with_tracked_dst (Est r) t) is

-- Stages

-- a last stage
all_of : (o : Option Transit) → option_and_then (λ t. Some t) o ≡ o
all_of None = refl
all_of (Some t) = refl

-- the verdict doesn't count in what becomes of a packet
outcome_settles : (k : Kind) (o : Option Transit) → outcome_of k o ≡ outcome_of k (settled o)
outcome_settles k None = refl
outcome_settles New (Some t) = refl
outcome_settles (Est r) (Some t) = refl

module _ (law : WalksGoByPlaces) (site : Site) (order : Order) (c : PfConfig) (fits : (outward : Bool) → Fits order outward c.filter) (p : Packet) (k : Kind) where
  abbrev drawn : List Stage → Transit → Option Transit
  drawn stages t = stages_walk (chains_of order c) site p k stages t

  -- a stage begins with its own verdict
  stage_passes : (outward : Bool) (t : Transit)
      → settled (stage_walk (chains_of order c) site p k (pass_stage outward) t) ≡ settled (pass_of c site p k outward (with_verdict true t))
  stage_passes true t = pass_drawn law (chain_walk (chains_of order c) site p k (pass_stage true) 1 (1 ∷ [])) site p k order true c (fits true) (with_verdict true t)
  stage_passes false t = pass_drawn law (chain_walk (chains_of order c) site p k (pass_stage false) 1 (0 ∷ [])) site p k order false c (fits false) (with_verdict true t)

  -- one stage alone
  pub passes : (outward : Bool) (t : Transit) → settled (drawn (pass_stage outward ∷ []) t) ≡ settled (pass_of c site p k outward (with_verdict true t))
  passes outward t = ap settled (all_of (stage_walk (chains_of order c) site p k (pass_stage outward) t)) ∙ stage_passes outward t

  -- how a packet goes on behind routing, in the diagram and under pf
  abbrev drawn_on : Transit → Option Transit
  drawn_on t = onwards (drawn []) (drawn (pass_stage true ∷ [])) (exit_at site p.entry t.packet.dst) t

  abbrev goes_on : Transit → Option Transit
  goes_on t = onwards Some (pass_of c site p k true) (exit_at site p.entry t.packet.dst) t

  -- an exit
  routed : (e : Exit) (t : Transit)
      → settled (onwards (drawn []) (drawn (pass_stage true ∷ [])) e t) ≡ settled (onwards Some (pass_of c site p k true) e (with_verdict true t))
  routed Deliver t = refl
  routed (Out entry) t = passes true t
  routed Lost t = refl

  -- a packet that comes to routing
  routed_all : (o : Option Transit) → settled (option_and_then drawn_on o) ≡ settled (option_and_then goes_on (settled o))
  routed_all None = refl
  routed_all (Some t) = routed (exit_at site p.entry t.packet.dst) t

  -- a packet that arrives
  arrived : settled (option_and_then drawn_on (drawn (pass_stage false ∷ []) (entered p))) ≡ settled (option_and_then goes_on (pass_of c site p k false (entered p)))
  arrived =
      routed_all (drawn (pass_stage false ∷ []) (entered p))
      ∙ ap (λ o. settled (option_and_then goes_on o)) (passes false (entered p) ∙ pass_settles c site p k false (entered p) refl)

  -- a test in front of two ways
  two_ways : (b : Bool) (x y z v : Option Transit) → settled x ≡ settled z → settled y ≡ settled v → settled (cond b x y) ≡ settled (cond b z v)
  two_ways true x y z v first second = first
  two_ways false x y z v first second = second

  -- every packet
  pub means_kept : means (drawn_of order c) site p k ≡ walk c site p k
  means_kept =
      outcome_settles k _
      ∙ ap (outcome_of k) (two_ways (nat_eq p.entry 0) _ _ _ _ (passes true (entered p)) arrived)
      ∙ sym (outcome_settles k _)

-- what the diagram says of a packet is what becomes of it
pub keeps_walks : (law : WalksGoByPlaces) (site : Site) (order : Order) (c : PfConfig) → ((outward : Bool) → Fits order outward c.filter) → (p : Packet) (k : Kind)
    → means (drawn_of order c) site p k ≡ walk c site p k
keeps_walks law site order c fits p k = means_kept law site order c fits p k
