-- The diagram's stages are the passes of the walk.
use Rattle.std.proofs.Common.{◌≡◌, ℕ, suc, ◌+◌, ◌<◌, ◌≤◌, Bool, true, false, cond, ◌&&◌, nat_eq, nat_lt, Option, Some, None, option_and_then, List, [], ◌∷◌, ◌++◌, length, map, drop, arith, refl, sym, ap, ◌∙◌, subst, length-append, append-nil}
use Rattle.std.specs.List.{list_all}
use Rattle.std.proofs.lemmas.Bool.{and_parts, cond_both, ltb-true, ltb-false}
use Rattle.fws_net.specs.declared.connection.Kind.{Kind}
use Rattle.fws_net.specs.declared.connection.Kind.TheVariants.{New, Est}
use Rattle.fws_net.specs.declared.exit.Exit.{Exit}
use Rattle.fws_net.specs.declared.exit.Exit.TheVariants.{Deliver, Out, Lost}
use Rattle.fws_net.specs.declared.outcome.Outcome.TheVariants.{Accept}
use Rattle.fws_net.specs.declared.packet.Packet.{Packet}
use Rattle.fws_net.specs.declared.site.Site.{Site}
use Rattle.fws_net.specs.declared.transit.Transit.{Transit}
use Rattle.fws_net.specs.Conditions.{is_shown}
use Rattle.fws_net.specs.Routes.{exit_at}
use Rattle.fws_net.specs.Showing.{receiving, sending}
use Rattle.fws_net.specs.Transits.{tracked_dst, with_verdict, with_tracked_dst, entered, onwards, outcome_of}
use Rattle.fws_ifcl.specs.declared.diagram.Rule.{Rule}
use Rattle.fws_ifcl.specs.declared.diagram.Stage.{Stage}
use Rattle.fws_ifcl.specs.declared.step.ChainEnd.{ChainEnd}
use Rattle.fws_ifcl.specs.declared.step.ChainEnd.TheVariants.{Accepted}
use Rattle.fws_ifcl.specs.Walk.{stage_end, chain_walk, stage_walk, stages_walk, means}
use Rattle.fws_ifcl_rules.specs.Places.{WalksGoByPlaces, run, Stands}
use Rattle.fws_ifcl_rules.specs.Rules.{always}
use Rattle.fws_pf.specs.Soundness.{is_entry}
use Rattle.fws_pf.specs.Walk.{interface_of}
use Rattle.fws_pfo.specs.declared.config.PfoConfig.{PfoConfig}
use Rattle.fws_pfo.specs.Soundness.{rule_fits, is_fitting}
use Rattle.fws_pfo.specs.Walk.{rules_walk, pass_walk, pass_of, walk}
use Rattle.fws_pfo_ifcl.specs.declared.frame.Frame.{Frame}
use Rattle.fws_pfo_ifcl.specs.declared.ruling.Ruling.{Ruling}
use Rattle.fws_pfo_ifcl.specs.Blocks.{IsTail, filter_rules}
use Rattle.fws_pfo_ifcl.specs.Diagram.{AreTails, tracking, skipping, clearing, larger, frame_of, front_rules, pass_rules, chains_of, pass_stage, drawn_of}
use Rattle.fws_pfo_ifcl.specs.Held.{bits_of, telling}
use Rattle.fws_pfo_ifcl.proofs.Acts.{tags_alone, changes_walk, taggings_change}
use Rattle.fws_pfo_ifcl.proofs.Bits.{all_bits}
use Rattle.fws_pfo_ifcl.proofs.Courses.{Course, course}
use Rattle.fws_pfo_ifcl.proofs.Filtering.{filter_walk}
use Rattle.fws_pfo_ifcl.proofs.Shown.{IsAlike, Agree, agree_by, end_by, Shows}
use Rattle.fws_pfo_ifcl.proofs.Tags.{has, Tells, tags_behind, telling_below, telling_tells, telling_tags, tells_none, tells_fewer}

-- Where a pass begins

-- a packet has no tags as it comes in
abbrev pub Begins : Bool → Transit → Type 0
Begins true u = Unit {0}
Begins false u = u.tags ≡ []

most : (a b : ℕ) → (a ≤ larger a b) × (b ≤ larger a b)
most a b =
    cond_both (nat_lt a b) b a (λ n. (a ≤ n) × (b ≤ n)) (λ e. let lt = ltb-true a b e in (omega (arith, lt), omega arith)) (λ e. (omega arith, near e))
  where
    near : nat_lt a b ≡ false → b ≤ a
    near e = omega (arith, ltb-false a b e)

drop_length : (rules : List Rule) → drop (length rules) rules ≡ []
drop_length [] = refl
drop_length (r ∷ rules) = drop_length rules

-- the rules for packets of connections and for skipped interfaces, for a new packet
and_true : (b : Bool) → (b && true) ≡ b
and_true true = refl
and_true false = refl

abbrev pub first_place : Bool → ℕ
first_place outward = cond outward 2 3

first_walk : (outward : Bool) (w : Course New outward) (c : PfoConfig) → Stands w 0 (tracking outward ++ skipping c) → (u : Transit)
    → run w 0 u ≡ cond (is_shown (interface_of w.site outward u) c.skip) (Accepted u) (run w (first_place outward) u)
first_walk true w c s u =
    w.law.walked s (tt, (tt, tt)) u
    ∙ ap (λ b. cond b (Accepted u) (run w 2 u)) (and_true (is_shown (interface_of w.site true u) c.skip))
first_walk false w c s u =
    w.law.walked s (tt, (tt, (tt, tt))) u
    ∙ ap (λ b. cond b (Accepted u) (run w 3 u)) (and_true (is_shown (interface_of w.site false u) c.skip))

first_length : (outward : Bool) (c : PfoConfig) → length (tracking outward ++ skipping c) ≡ first_place outward
first_length true c = refl
first_length false c = refl

-- the interface of a pass is one
interface_same : (site : Site) (outward : Bool) (count : ℕ) (t u : Transit) → IsAlike count t u → interface_of site outward u ≡ interface_of site outward t
interface_same site true count t u h = ap (sending site) h.packet
interface_same site false count t u h = ap receiving h.packet

-- with no end held
begun : (f : Frame) (t u : Transit) (tags : List ℕ) → IsAlike f.tags t u → u.verdict ≡ true → ((m : ℕ) → m < f.tags → has m tags ≡ has m u.tags)
    → Tells f.tags (bits_of f.bits 0) tags → Shows f false None (with_verdict true t) (record u { tags = tags })
begun f t u tags h is same tells = record {
  alike = record { packet = h.packet; wrote = h.wrote; tags = λ m lt. same m lt ∙ h.tags m lt };
  verdict = is;
  told = tells;
  none = λ e. refl;
  among = λ e. tt;
}

-- the rules behind which the configuration's stand
clearing_walk : (outward : Bool) (w : Course New outward) (c : PfoConfig) (at : ℕ) → Stands w at (clearing outward c) → (t u : Transit) → IsAlike (length c.tags) t u
    → u.verdict ≡ true → Begins outward u
    → (after : Transit) × (run w at u ≡ run w (at + length (clearing outward c)) after) × Shows (frame_of outward c) false None (with_verdict true t) after
clearing_walk false w c at s t u h is begins =
    let same : at ≡ at + 0 = omega arith in
    let f = frame_of false c in (
      u,
      ap (λ n. run w n u) same,
      begun f t u u.tags h is (λ m lt. refl)
          (tells_none f.bits f.tags u.tags (λ m le. ap (has m) begins)),
    )
clearing_walk true w c at s t u h is begins =
    let f = frame_of true c in
    let most_bits = larger (frame_of false c).bits f.bits in
    let bits = bits_of most_bits 0 in
    let list = telling (length c.tags) bits in
    let tags = tags_behind list u.tags in
    let all = telling_tags (length c.tags) bits in (
      record u { tags = tags },
      changes_walk w at list (taggings_change list all) s u ∙ ap (run w (at + length (map always list))) (tags_alone w.p list all u),
      begun f t u tags h is (λ m lt. telling_below (length c.tags) bits u.tags m lt)
          (tells_fewer f.bits most_bits (length c.tags) tags (most (frame_of false c).bits f.bits).1 (telling_tells (length c.tags) bits u.tags)),
    )

-- Passes

-- a pass of a new packet through all rules
new_pass : (tails : Bool → List Ruling) (outward : Bool) (c : PfoConfig) (w : Course New outward) → w.full ≡ pass_rules tails outward c → IsTail outward c.rules (tails outward)
    → list_all (rule_fits (length c.tags)) c.rules ≡ true → (t u : Transit) → IsAlike (length c.tags) t u → u.verdict ≡ true → Begins outward u
    → Agree (length c.tags) (pass_walk c w.site w.p outward t) (stage_end (run w 0 u))
new_pass tails outward c w full stands fit t u h is begins =
    let f = frame_of outward c in
    let first = tracking outward ++ skipping c in
    let place = first_place outward in
    let clear = clearing outward c in
    let at = length (front_rules outward c) in
    let tail = tails outward in
    let rules = filter_rules f at c.rules tail in
    let all : Stands w 0 (first ++ clear ++ rules) = record { rest = []; are = full ∙ sym (append-nil (first ++ clear ++ rules)) } in
    let few : length first ≡ place = first_length outward c in
    let parts = w.law.parts at (first ++ clear) rules all (omega arith) in
    let ahead = w.law.parts place first clear parts.0 (omega (arith, few)) in
    let many : length (first ++ clear) ≡ length first + length clear = length-append first clear in
    let same : place + length clear ≡ at = omega (arith, many, few) in
    let long : length (first ++ clear ++ rules) ≡ at + length rules = length-append (first ++ clear) rules in
    let none : drop (at + length rules) w.full ≡ [] = ap (λ n. drop n w.full) (sym long) ∙ ap (drop (length (first ++ clear ++ rules))) full ∙ drop_length (first ++ clear ++ rules) in
    let b = is_shown (interface_of w.site outward t) c.skip in
    let d = is_shown (interface_of w.site outward u) c.skip in
    let on = clearing_walk outward w c place ahead.1 t u h is begins in
    let next : Agree (length c.tags) (rules_walk w.site w.p outward c.rules None (with_verdict true t)) (stage_end (run w place u)) =
    subst (λ x. Agree (length c.tags) (rules_walk w.site w.p outward c.rules None (with_verdict true t)) (stage_end x))
    (sym (on.1 ∙ ap (λ n. run w n on.0) same))
    (filter_walk f w at c.rules tail (all_bits (length f.ends)) refl fit stands parts.1 none None (with_verdict true t) on.0 on.2) in
    subst (λ x. Agree (length c.tags) (pass_walk c w.site w.p outward t) x)
    (sym (ap stage_end (first_walk outward w c ahead.0 u) ∙ end_by d (Accepted u) (run w place u)))
    (agree_by (length c.tags) b d (ap (λ o. is_shown o c.skip) (interface_same w.site outward (length c.tags) t u h)) (Some t)
    (rules_walk w.site w.p outward c.rules None (with_verdict true t)) (Some u) (stage_end (run w place u)) h next)

-- the destination with which a packet of a connection leaves
tracked_alike : (count : ℕ) (k : Kind) (t u : Transit) → IsAlike count t u → IsAlike count (with_tracked_dst k t) (with_tracked_dst k u)
tracked_alike count k t u h = record { packet = ap (tracked_dst k) h.packet; wrote = h.wrote; tags = h.tags }

-- a pass through all rules
pass_drawn : (law : WalksGoByPlaces) (enter : ℕ → Transit → ChainEnd) (site : Site) (p : Packet) (k : Kind) (tails : Bool → List Ruling) (outward : Bool) (c : PfoConfig)
    → IsTail outward c.rules (tails outward) → list_all (rule_fits (length c.tags)) c.rules ≡ true → (t u : Transit) → IsAlike (length c.tags) t u → u.verdict ≡ true → Begins outward u
    → Agree (length c.tags) (pass_of c site p k outward t) (stage_end (run (course law enter site p k tails outward c) 0 u))
pass_drawn law enter site p New tails outward c stands fit t u h is begins =
    new_pass tails outward c (course law enter site p New tails outward c) refl stands fit t u h is begins
pass_drawn law enter site p (Est r) tails true c stands fit t u h is begins =
    let w = course law enter site p (Est r) tails true c in
    let first : Stands w 0 (tracking true) = record { rest = drop 1 (pass_rules tails true c); are = refl } in
    subst (λ x. Agree (length c.tags) (Some t) (stage_end x)) (sym (w.law.walked first (tt, tt) u)) h
pass_drawn law enter site p (Est r) tails false c stands fit t u h is begins =
    let w = course law enter site p (Est r) tails false c in
    let first : Stands w 0 (tracking false) = record { rest = drop 2 (pass_rules tails false c); are = refl } in
    subst (λ x. Agree (length c.tags) (Some (with_tracked_dst (Est r) t)) (stage_end x)) (sym (w.law.walked first (tt, (tt, tt)) u))
    (tracked_alike (length c.tags) (Est r) t u h)

-- Stages

module _ (law : WalksGoByPlaces) (site : Site) (tails : Bool → List Ruling) (c : PfoConfig) (stand : AreTails c tails) (fit : list_all (rule_fits (length c.tags)) c.rules ≡ true) (p : Packet) (k : Kind) where
  abbrev drawn : List Stage → Transit → Option Transit
  drawn stages t = stages_walk (chains_of tails c) site p k stages t

  abbrev Same : Option Transit → Option Transit → Type 0
  Same x y = Agree (length c.tags) x y

  -- a stage begins with its own verdict
  verdict_begun : (t u : Transit) → IsAlike (length c.tags) t u → IsAlike (length c.tags) t (with_verdict true u)
  verdict_begun t u h = record { packet = h.packet; wrote = h.wrote; tags = h.tags }

  stage_passes : (outward : Bool) (t u : Transit) → IsAlike (length c.tags) t u → Begins outward u
      → Same (pass_of c site p k outward t) (stage_walk (chains_of tails c) site p k (pass_stage outward) u)
  stage_passes true t u h begins =
      pass_drawn law (chain_walk (chains_of tails c) site p k (pass_stage true) 1 (1 ∷ [])) site p k tails true c (stand true) fit t (with_verdict true u) (verdict_begun t u h) refl begins
  stage_passes false t u h begins =
      pass_drawn law (chain_walk (chains_of tails c) site p k (pass_stage false) 1 (0 ∷ [])) site p k tails false c (stand false) fit t (with_verdict true u) (verdict_begun t u h) refl begins

  -- one stage alone
  all_of : (o : Option Transit) → option_and_then (λ t. Some t) o ≡ o
  all_of None = refl
  all_of (Some t) = refl

  passes : (outward : Bool) (t u : Transit) → IsAlike (length c.tags) t u → Begins outward u → Same (pass_of c site p k outward t) (drawn (pass_stage outward ∷ []) u)
  passes outward t u h begins =
      subst (Same (pass_of c site p k outward t)) (sym (all_of (stage_walk (chains_of tails c) site p k (pass_stage outward) u))) (stage_passes outward t u h begins)

  -- how a packet goes on behind routing, in the diagram and in the walk
  abbrev drawn_on : Transit → Option Transit
  drawn_on u = onwards (drawn []) (drawn (pass_stage true ∷ [])) (exit_at site p.entry u.packet.dst) u

  abbrev goes_on : Transit → Option Transit
  goes_on t = onwards Some (pass_of c site p k true) (exit_at site p.entry t.packet.dst) t

  routed : (e : Exit) (t u : Transit) → IsAlike (length c.tags) t u
      → Same (onwards Some (pass_of c site p k true) e t) (onwards (drawn []) (drawn (pass_stage true ∷ [])) e u)
  routed Deliver t u h = h
  routed (Out entry) t u h = passes true t u h tt
  routed Lost t u h = tt

  routed_both : (x y : Option Transit) → Same x y → Same (option_and_then goes_on x) (option_and_then drawn_on y)
  routed_both None None same = tt
  routed_both (Some t) (Some u) same =
      subst (λ dst. Same (goes_on t) (onwards (drawn []) (drawn (pass_stage true ∷ [])) (exit_at site p.entry dst) u)) (sym (ap (λ q. q.dst) same.packet))
      (routed (exit_at site p.entry t.packet.dst) t u same)
  routed_both (Some t) None same = absurd same
  routed_both None (Some u) same = absurd same

  -- a packet as it enters
  alike_itself : IsAlike (length c.tags) (entered p) (entered p)
  alike_itself = record { packet = refl; wrote = refl; tags = λ m lt. refl }

  outcome_same : (kind : Kind) (x y : Option Transit) → Same x y → outcome_of kind y ≡ outcome_of kind x
  outcome_same kind None None same = refl
  outcome_same New (Some t) (Some u) same = ap (λ w. Accept w) same.wrote
  outcome_same (Est r) (Some t) (Some u) same = refl
  outcome_same kind (Some t) None same = absurd same
  outcome_same kind None (Some u) same = absurd same

  -- every packet
  pub means_kept : means (drawn_of tails c) site p k ≡ walk c site p k
  means_kept =
      outcome_same k _ _
      (agree_by (length c.tags) (nat_eq p.entry 0) (nat_eq p.entry 0) refl _ _ _ _ (passes true (entered p) (entered p) alike_itself tt)
      (routed_both (pass_of c site p k false (entered p)) (drawn (pass_stage false ∷ []) (entered p)) (passes false (entered p) (entered p) alike_itself refl)))

-- what the diagram says of a packet is what becomes of it
pub keeps_walks : (law : WalksGoByPlaces) (site : Site) (tails : Bool → List Ruling) (c : PfoConfig) → AreTails c tails → list_all (rule_fits (length c.tags)) c.rules ≡ true
    → (p : Packet) (k : Kind) → means (drawn_of tails c) site p k ≡ walk c site p k
keeps_walks law site tails c stand fit p k = means_kept law site tails c stand fit p k

-- all rules of a fitting configuration fit
pub rules_fit : (site : Site) (c : PfoConfig) → is_fitting site c ≡ true → list_all (rule_fits (length c.tags)) c.rules ≡ true
rules_fit site c fit = (and_parts (list_all (is_entry (suc (length site.faces))) c.skip) (list_all (rule_fits (length c.tags)) c.rules) fit).1
