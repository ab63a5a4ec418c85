-- The stages of a diagram are ipfw's passes.
use Rattle.std.proofs.Common.{◌≡◌, ℕ, Bool, true, false, cond, ◌&&◌, nat_eq, nat_lt, Option, Some, None, option_and_then, List, [], ◌∷◌, ◌++◌, refl, sym, ap, ◌∙◌, append-nil}
use Rattle.std.specs.List.{list_all}
use Rattle.std.specs.Option.{option_map_or}
use Rattle.fws_net.specs.declared.connection.Kind.{Kind}
use Rattle.fws_net.specs.declared.connection.Kind.TheVariants.{New, Est}
use Rattle.fws_net.specs.declared.exit.Exit.{Exit}
use Rattle.fws_net.specs.declared.exit.Exit.TheVariants.{Deliver, Out, Lost}
use Rattle.fws_net.specs.declared.packet.Packet.{Packet}
use Rattle.fws_net.specs.declared.site.Site.{Site}
use Rattle.fws_net.specs.declared.transit.Transit.{Transit}
use Rattle.fws_net.specs.Conditions.{holds}
use Rattle.fws_net.specs.Connections.{is_est}
use Rattle.fws_net.specs.Routes.{exit_at}
use Rattle.fws_net.specs.Transits.{with_verdict, with_dst, with_tracked_dst, has_tag, entered, onwards, outcome_of}
use Rattle.fws_ifcl.specs.declared.diagram.Stage.{Stage}
use Rattle.fws_ifcl.specs.declared.step.ChainEnd.{ChainEnd}
use Rattle.fws_ifcl.specs.Walk.{chain_walk, stage_end, stage_walk, stages_walk, means}
use Rattle.fws_ifcl_rules.specs.Places.{WalksGoByPlaces}
use Rattle.fws_ipfw.specs.declared.config.IpfwAct.{IpfwAct}
use Rattle.fws_ipfw.specs.declared.config.IpfwAct.TheVariants as acts
use Rattle.fws_ipfw.specs.declared.config.IpfwTag.{IpfwTag}
use Rattle.fws_ipfw.specs.declared.config.IpfwTag.TheVariants as tags
use Rattle.fws_ipfw.specs.declared.config.IpfwConfig.{IpfwConfig}
use Rattle.fws_ipfw.specs.declared.config.IpfwNat.{IpfwNat}
use Rattle.fws_ipfw.specs.declared.config.IpfwRule.{IpfwRule}
use Rattle.fws_ipfw.specs.declared.config.Redirect.{Redirect}
use Rattle.fws_ipfw.specs.declared.pass.Pass.{Pass}
use Rattle.fws_ipfw.specs.Soundness.{nat_fits}
use Rattle.fws_ipfw.specs.Walk.{view_on, redirect_in, translated_by, tracked_on, nat_numbered, translated, ended, tagged, behind, step_of, stepped, rules_walk, pass_walk, walk}
use Rattle.fws_ipfw_ifcl.specs.Diagram.{all_rules, chains_of, pass_stage, destination_stage, diagram_of}
use Rattle.fws_ipfw_ifcl.specs.Fitting.{IsDrawable}
use Rattle.fws_ipfw_ifcl.proofs.Acting.{in_half}
use Rattle.fws_ipfw_ifcl.proofs.Courses.{run}
use Rattle.fws_ipfw_ifcl.proofs.Halves.{none_heard, pass_drawn}
use Rattle.fws_ipfw_ifcl.proofs.Left.{course, left_by, pass_left}

-- A pass keeps the verdict

-- the verdict where a pass ends accepted
abbrev pub Keeps : Bool → Option Transit → Type 0
Keeps v None = Unit {0}
Keeps v (Some t) = t.verdict ≡ v

-- by a test
either : (v b : Bool) (x y : Option Transit) → Keeps v x → Keeps v y → Keeps v (cond b x y)
either v true x y first second = first
either v false x y first second = second

-- a packet by a test
either_transit : (v b : Bool) (x y : Transit) → x.verdict ≡ v → y.verdict ≡ v → (cond b x y).verdict ≡ v
either_transit v true x y first second = first
either_transit v false x y first second = second

-- the ends with which a packet of a connection leaves
tracked_keeps : (v : Bool) (k : Kind) (outward : Bool) (t : Transit) → t.verdict ≡ v → (tracked_on k outward t).verdict ≡ v
tracked_keeps v k true t is = is
tracked_keeps v k false t is = is

-- where a pass ends accepted
ended_keeps : (v : Bool) (k : Kind) (outward : Bool) (m : Pass) → m.transit.verdict ≡ v → (ended k outward m).verdict ≡ v
ended_keeps v k outward m is = either_transit v m.translated m.transit (tracked_on k outward m.transit) is (tracked_keeps v k outward m.transit is)

-- a tag
tagged_keeps : (v : Bool) (tag : IpfwTag) (t : Transit) → t.verdict ≡ v → (tagged tag t).verdict ≡ v
tagged_keeps v tags.Nothing t is = is
tagged_keeps v (tags.Add n) t is = either_transit v (has_tag n t) t (record t { tags = t.tags ++ n ∷ [] }) is is
tagged_keeps v (tags.Remove n) t is = is

-- a redirect of a packet that comes in
in_keeps : (v : Bool) (p : Packet) (t : Transit) (o : Option Redirect) → t.verdict ≡ v → (option_map_or (λ r. with_dst p r.local t) o t).verdict ≡ v
in_keeps v p t None is = is
in_keeps v p t (Some r) is = is

-- an instance
translated_by_keeps : (v : Bool) (p : Packet) (k : Kind) (outward : Bool) (nat : IpfwNat) (t : Transit) → t.verdict ≡ v → (translated_by p k outward nat t).verdict ≡ v
translated_by_keeps v p New true nat t is = is
translated_by_keeps v p New false nat t is = in_keeps v p t (redirect_in nat.redirects t.packet) is
translated_by_keeps v p (Est r) outward nat t is = tracked_keeps v (Est r) outward t is

-- an instance, or none
by_instance : (v : Bool) (p : Packet) (k : Kind) (outward : Bool) (nat : Option IpfwNat) (t : Transit) → t.verdict ≡ v
    → (option_map_or (λ n. translated_by p k outward n t) nat t).verdict ≡ v
by_instance v p k outward None t is = is
by_instance v p k outward (Some nat) t is = translated_by_keeps v p k outward nat t is

-- a pass by a test
either_pass : (v b : Bool) (x y : Pass) → x.transit.verdict ≡ v → y.transit.verdict ≡ v → (cond b x y).transit.verdict ≡ v
either_pass v true x y first second = first
either_pass v false x y first second = second

-- a translation
translated_keeps : (v : Bool) (p : Packet) (k : Kind) (outward : Bool) (nat : Option IpfwNat) (m : Pass) → m.transit.verdict ≡ v → (translated p k outward nat m).transit.verdict ≡ v
translated_keeps v p k outward nat m is =
    either_pass v m.translated m (in_half true (option_map_or (λ n. translated_by p k outward n m.transit) nat m.transit)) is (by_instance v p k outward nat m.transit is)

module _ (c : IpfwConfig) (site : Site) (p : Packet) (outward v : Bool) where
  behind_keeps : (go : ℕ → Pass → Option Transit) → ((n : ℕ) (m : Pass) → m.transit.verdict ≡ v → Keeps v (go n m))
      → (ends : Bool) (m : Pass) → m.transit.verdict ≡ v → Keeps v (stepped go (behind ends m))
  behind_keeps go on true m is = is
  behind_keeps go on false m is = on 0 m is

  -- an act
  step_keeps : (k : Kind) (go : ℕ → Pass → Option Transit) → ((n : ℕ) (m : Pass) → m.transit.verdict ≡ v → Keeps v (go n m))
      → (act : IpfwAct) (m : Pass) → m.transit.verdict ≡ v → Keeps v (stepped go (step_of c site p k outward act m))
  step_keeps k go on acts.Allow m is = ended_keeps v k outward m is
  step_keeps k go on acts.Deny m is = tt
  step_keeps k go on acts.Count m is = on 0 m is
  step_keeps k go on (acts.Skip n) m is = on n m is
  step_keeps New go on acts.Check m is = on 0 m is
  step_keeps (Est r) go on acts.Check m is = ended_keeps v (Est r) outward m is
  step_keeps k go on (acts.Nat n) m is =
      behind_keeps go on site.one_pass (translated p k outward (nat_numbered n c.nats) m) (translated_keeps v p k outward (nat_numbered n c.nats) m is)

  -- rules
  pub rules_keep : (k : Kind) (rs : List IpfwRule) (to : ℕ) (m : Pass) → m.transit.verdict ≡ v → Keeps v (rules_walk c site p k outward rs to m)
  rules_keep k [] to m is = tt
  rules_keep k (r ∷ rs) to m is =
      let go = rules_walk c site p k outward rs in
      let after : Pass = record m { transit = tagged r.tag m.transit } in
      let met = stepped go (step_of c site p k outward r.act after) in
      let tested = cond (holds r.cond (view_on site k outward m.transit)) met (go 0 m) in
      either v (nat_lt r.number to) (go to m) (cond (is_est k && r.keep) (Some (ended k outward m)) tested)
      (rules_keep k rs to m is)
      (either v (is_est k && r.keep) (Some (ended k outward m)) tested
      (ended_keeps v k outward m is)
      (either v (holds r.cond (view_on site k outward m.transit)) met (go 0 m)
      (step_keeps k go (rules_keep k rs) r.act after (tagged_keeps v r.tag m.transit is))
      (rules_keep k rs 0 m is)))

-- Stages

-- no pass comes to the end of its chain
left_whole : (o : Option Transit) → stage_end (left_by o) ≡ o
left_whole None = refl
left_whole (Some t) = refl

-- a last stage
all_of : (o : Option Transit) → option_and_then (λ t. Some t) o ≡ o
all_of None = refl
all_of (Some t) = refl

-- a pass through all rules
pass_is : (law : WalksGoByPlaces) (enter : ℕ → Transit → ChainEnd) (site : Site) (p : Packet) (k : Kind) (outward : Bool) (c : IpfwConfig) → list_all nat_fits c.nats ≡ true
    → (t : Transit) → run (course law enter site p k outward c) 0 t ≡ left_by (pass_walk c site p k outward t)
pass_is law enter site p k outward c fits t =
    pass_drawn k outward (course law enter site p k outward c) c fits [] (none_heard c.rules) (record { rest = []; are = sym (append-nil (all_rules site c)) }) t
    ∙ pass_left law enter site p k outward c c.rules [] 0 (in_half false t)

-- the diagram of one configuration, of which passes are those of another one
module _ (law : WalksGoByPlaces) (site : Site) (c other : IpfwConfig) (fits : list_all nat_fits c.nats ≡ true) (p : Packet) (k : Kind)
    (same_pass : (outward : Bool) (t : Transit) → pass_walk c site p k outward t ≡ pass_walk other site p k outward t) where
  abbrev drawn : List Stage → Transit → Option Transit
  drawn stages t = stages_walk (chains_of site c) site p k stages t

  -- a stage begins with its own verdict
  stage_passes : (outward : Bool) (t : Transit) → t.verdict ≡ true → stage_walk (chains_of site c) site p k (pass_stage outward) t ≡ pass_walk other site p k outward t
  stage_passes outward t is =
      let same : with_verdict true t ≡ t = ap (λ v. with_verdict v t) (sym is) in
      ap (λ u. stage_walk (chains_of site c) site p k (pass_stage outward) u) (sym same)
      ∙ ap stage_end (pass_is law (chain_walk (chains_of site c) site p k (pass_stage outward) 1 (0 ∷ [])) site p k outward c fits (with_verdict true t))
      ∙ left_whole (pass_walk c site p k outward (with_verdict true t))
      ∙ same_pass outward (with_verdict true t)
      ∙ ap (pass_walk other site p k outward) same

  -- one stage alone
  pub passes : (outward : Bool) (t : Transit) → t.verdict ≡ true → drawn (pass_stage outward ∷ []) t ≡ pass_walk other site p k outward t
  passes outward t is = all_of (stage_walk (chains_of site c) site p k (pass_stage outward) t) ∙ stage_passes outward t is

  -- the host's own packets
  sent : drawn (destination_stage ∷ pass_stage true ∷ []) (entered p) ≡ pass_walk other site p k true (with_tracked_dst k (entered p))
  sent = passes true (with_tracked_dst k (entered p)) refl

  -- behind routing
  routed : (e : Exit) (t : Transit) → t.verdict ≡ true → onwards (drawn []) (drawn (pass_stage true ∷ [])) e t ≡ onwards Some (pass_walk other site p k true) e t
  routed Deliver t is = refl
  routed (Out entry) t is = passes true t is
  routed Lost t is = refl

  -- behind routing, where the packet comes to it
  routed_all : (o : Option Transit) → Keeps true o
      → option_and_then (λ t. onwards (drawn []) (drawn (pass_stage true ∷ [])) (exit_at site p.entry t.packet.dst) t) o
      ≡ option_and_then (λ t. onwards Some (pass_walk other site p k true) (exit_at site p.entry t.packet.dst) t) o
  routed_all None keeps = refl
  routed_all (Some t) keeps = routed (exit_at site p.entry t.packet.dst) t keeps

  -- a packet that arrives
  arrived : option_and_then (λ t. onwards (drawn []) (drawn (pass_stage true ∷ [])) (exit_at site p.entry t.packet.dst) t) (drawn (pass_stage false ∷ []) (entered p))
      ≡ option_and_then (λ t. onwards Some (pass_walk other site p k true) (exit_at site p.entry t.packet.dst) t) (pass_walk other site p k false (entered p))
  arrived =
      ap (option_and_then (λ t. onwards (drawn []) (drawn (pass_stage true ∷ [])) (exit_at site p.entry t.packet.dst) t)) (passes false (entered p) refl)
      ∙ routed_all (pass_walk other site p k false (entered p)) (rules_keep other site p false true k other.rules 0 (in_half false (entered p)) refl)

  -- a test in front of two ways
  two_ways : (b : Bool) (a d e f : Option Transit) → a ≡ e → d ≡ f → cond b a d ≡ cond b e f
  two_ways true a d e f first second = first
  two_ways false a d e f first second = second

  -- every packet
  pub means_kept : means (diagram_of site c) site p k ≡ walk other site p k
  means_kept = ap (outcome_of k) (two_ways (nat_eq p.entry 0) _ _ _ _ sent arrived)

-- what the diagram says of a packet is what becomes of it
pub keeps_walks : (law : WalksGoByPlaces) (site : Site) (c : IpfwConfig) → IsDrawable c → (p : Packet) (k : Kind) → means (diagram_of site c) site p k ≡ walk c site p k
keeps_walks law site c drawable p k = means_kept law site c c drawable.fitting p k (λ outward t. refl)
