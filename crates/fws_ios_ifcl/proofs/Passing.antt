-- The diagram's stages are the ways of packets.
use Rattle.std.proofs.Common.{◌≡◌, ℕ, ◌+◌, Bool, true, false, not, cond, ◌&&◌, nat_eq, Option, Some, None, option_map, option_and_then, List, [], ◌∷◌, ◌++◌, length, drop, arith, refl, sym, ap, ◌∙◌, append-nil, length-append}
use Rattle.std.proofs.lemmas.Bool.{false≢true}
use Rattle.std.specs.Option.{option_map_or}
use Rattle.fws_net.specs.declared.connection.Kind.{Kind}
use Rattle.fws_net.specs.declared.connection.Kind.TheVariants.{New, Est}
use Rattle.fws_net.specs.declared.exit.Exit.{Exit}
use Rattle.fws_net.specs.declared.exit.Exit.TheVariants.{Deliver, Out, Lost}
use Rattle.fws_net.specs.declared.outcome.End.{End}
use Rattle.fws_net.specs.declared.packet.Packet.{Packet}
use Rattle.fws_net.specs.declared.site.Site.{Site}
use Rattle.fws_net.specs.declared.transit.Transit.{Transit}
use Rattle.fws_net.specs.Conditions.{is_shown}
use Rattle.fws_net.specs.Routes.{exit_at}
use Rattle.fws_net.specs.Showing.{receiving, sending}
use Rattle.fws_net.specs.Transits.{with_verdict, with_dst, with_src, entered, onwards, outcome_of}
use Rattle.fws_ifcl.specs.declared.diagram.Chain.{Chain}
use Rattle.fws_ifcl.specs.declared.diagram.Rule.{Rule}
use Rattle.fws_ifcl.specs.declared.diagram.Stage.{Stage}
use Rattle.fws_ifcl.specs.declared.step.ChainEnd.{ChainEnd}
use Rattle.fws_ifcl.specs.declared.step.ChainEnd.TheVariants.{Accepted}
use Rattle.fws_ifcl.specs.Walk.{chain_walk, stage_end, stage_walk, stages_walk, means}
use Rattle.fws_ifcl_rules.specs.Places.{Walk, WalksGoByPlaces, walk_of, run, Stands}
use Rattle.fws_ios.specs.declared.config.IosConfig.{IosConfig}
use Rattle.fws_ios.specs.Walk.{first_end, inner_end, outer_end, listed_end, source_end, passes, met, routed_as, sent_as, arrived, forwarded, walk}
use Rattle.fws_ios_ifcl.specs.Blocks.{choosing_from, statics_from}
use Rattle.fws_ios_ifcl.specs.Diagram.{list_rules, kept_destinations, destination_rules, kept_sources, source_front, stage_of, diagram_of}
use Rattle.fws_ios_ifcl.specs.Placed.{chains_with, diagram_with}
use Rattle.fws_ios_ifcl.proofs.Applied.{ended, goes_on, lists_walk}
use Rattle.fws_ios_ifcl.proofs.Chosen.{choosing_from_walk}
use Rattle.fws_ios_ifcl.proofs.Translated.{first_or_later, leaves_with, statics_walk, written}

-- a packet that leaves a chain with an end, or at the chain's end
left_with : (p : Packet) (outward : Bool) (t : Transit) (found : Option End) (rest : ChainEnd) → stage_end rest ≡ Some t
    → stage_end (leaves_with p outward t found rest) ≡ Some (option_map_or (λ e. written p outward e t) found t)
left_with p outward t None rest is = is
left_with p outward t (Some e) rest is = refl

-- a test ahead of the other rules, at which the packet leaves the chain as it is
unless : (b : Bool) (t : Transit) (rest : ChainEnd) (after : Transit) → stage_end rest ≡ Some after → stage_end (cond (not b && true) (Accepted t) rest) ≡ Some (cond b after t)
unless true t rest after is = is
unless false t rest after is = refl

-- two of them
unless_both : (a b : Bool) (t : Transit) (rest : ChainEnd) (after : Transit) → stage_end rest ≡ Some after
    → stage_end (cond (not a && true) (Accepted t) (cond (not b && true) (Accepted t) rest)) ≡ Some (cond (a && b) after t)
unless_both true b t rest after is = unless b t rest after is
unless_both false b t rest after is = refl

-- Destinations

destination_walk : (law : WalksGoByPlaces) (enter : ℕ → Transit → ChainEnd) (site : Site) (p : Packet) (k : Kind) (c : IosConfig) (t : Transit) → t.verdict ≡ true
    → stage_end (run (walk_of law enter site p k (stage_of false 1) (destination_rules c)) 0 t) ≡ Some (routed_as c site p k t)
destination_walk law enter site p (Est r) c t is =
    let w = walk_of law enter site p (Est r) (stage_of false 1) (destination_rules c) in
    let front : Stands w 0 (kept_destinations c) = record { rest = statics_from false 3 c.nats; are = refl } in
    ap stage_end (w.law.walked front (tt, (tt, (tt, tt))) t)
destination_walk law enter site p New c t is =
    let w = walk_of law enter site p New (stage_of false 1) (destination_rules c) in
    let nats = statics_from false 3 c.nats in
    let found = first_end (inner_end t.packet) c.nats in
    let front : Stands w 0 (kept_destinations c) = record { rest = nats; are = refl } in
    let behind : Stands w 3 nats = record { rest = []; are = sym (append-nil nats) } in
    let last : 3 + length nats ≡ length w.full = omega arith in
    ap stage_end (w.law.walked front (tt, (tt, (tt, tt))) t)
    ∙ unless (is_shown (receiving t.packet) c.outside) t (run w 3 t) (option_map_or (λ e. with_dst p e t) found t)
    (ap stage_end (statics_walk false 1 w (length w.full) 3 c.nats behind last t)
    ∙ left_with p false t found (run w (length w.full) t) (ap stage_end (ended New false 1 w t) ∙ goes_on t is))

-- Sources

-- the walk through rules for sources, of which these stand behind the statics
abbrev pub translating : WalksGoByPlaces → (ℕ → Transit → ChainEnd) → Site → Packet → (k : Kind) → IosConfig → List Rule → Walk k (stage_of true 2)
translating law enter site p k c lists = walk_of law enter site p k (stage_of true 2) (source_front c ++ lists)

-- these rules give new packets what translations by lists give
abbrev pub Choose : WalksGoByPlaces → IosConfig → List Rule → Type 0
Choose law c lists = (enter : ℕ → Transit → ChainEnd) (site : Site) (p : Packet) (t : Transit)
    → Stands (translating law enter site p New c lists) (length (source_front c)) lists
    → run (translating law enter site p New c lists) (length (source_front c)) t
    ≡ leaves_with p true t (first_end (listed_end c site New t) c.nats) (run (translating law enter site p New c lists) (length (source_front c) + length lists) t)

-- rules stand behind others
pub behind : {k : Kind} {stage : Stage} (w : Walk k stage) (front rules : List Rule) → w.full ≡ front ++ rules → Stands w 0 front × Stands w (length front) rules
behind w front rules are =
    let all : Stands w 0 (front ++ rules) = record { rest = []; are = are ∙ sym (append-nil (front ++ rules)) } in
    w.law.parts (length front) front rules all (omega arith)

source_walk : (law : WalksGoByPlaces) (c : IosConfig) (lists : List Rule) → Choose law c lists
    → (enter : ℕ → Transit → ChainEnd) (site : Site) (p : Packet) (k : Kind) (t : Transit) → t.verdict ≡ true
    → stage_end (run (translating law enter site p k c lists) 0 t) ≡ Some (sent_as c site p k t)
source_walk law c lists choose enter site p (Est r) t is =
    let w = translating law enter site p (Est r) c lists in
    let front : Stands w 0 (kept_sources c) = record { rest = drop 4 w.full; are = refl } in
    ap stage_end (w.law.walked front (tt, (tt, (tt, (tt, tt)))) t)
source_walk law c lists choose enter site p New t is =
    let w = translating law enter site p New c lists in
    let nats = statics_from true 4 c.nats in
    let place = length (source_front c) in
    let first = first_end (outer_end t.packet) c.nats in
    let later = first_end (listed_end c site New t) c.nats in
    let halves = behind w (source_front c) lists refl in
    let front : Stands w 0 (kept_sources c) = record { rest = drop 4 w.full; are = refl } in
    let fronts = w.law.parts 4 (kept_sources c) nats halves.0 refl in
    let middle : 4 + length nats ≡ place = omega arith in
    let last : place + length lists ≡ length w.full = sym (length-append (source_front c) lists) in
    ap stage_end (w.law.walked front (tt, (tt, (tt, (tt, tt)))) t)
    ∙ unless_both (is_shown (receiving t.packet) c.inside) (is_shown (sending site t.packet) c.outside) t (run w 4 t)
    (option_map_or (λ e. with_src p e t) (source_end c site New t) t)
    (ap stage_end
    (statics_walk true 2 w place 4 c.nats fronts.1 middle t
    ∙ ap (leaves_with p true t first) (choose enter site p t halves.1 ∙ ap (λ n. leaves_with p true t later (run w n t)) last)
    ∙ first_or_later p true t first later (run w (length w.full) t))
    ∙ left_with p true t (option_map_or Some first later) (run w (length w.full) t) (ap stage_end (ended New true 2 w t) ∙ goes_on t is))

-- those of the control diagram
chooses : (law : WalksGoByPlaces) (c : IosConfig) → Choose law c (choosing_from (length (source_front c)) c.lists [] c.nats)
chooses law c enter site p t s =
    let place = length (source_front c) in
    let lists = choosing_from place c.lists [] c.nats in
    choosing_from_walk 2 (translating law enter site p New c lists) c t (place + length lists) place [] c.nats s refl (λ name none. absurd (false≢true none))

-- Verdicts

-- a packet that is accepted so far begins a stage as it is
pub begins : (t : Transit) → t.verdict ≡ true → with_verdict true t ≡ t
begins t is = ap (λ v. with_verdict v t) (sym is)

-- one of two packets is accepted so far
verdict_by : (b : Bool) (x y : Transit) → x.verdict ≡ true → y.verdict ≡ true → (cond b x y).verdict ≡ true
verdict_by true x y first second = first
verdict_by false x y first second = second

-- so is one over which an end may be written
written_accepted : (p : Packet) (outward : Bool) (found : Option End) (t : Transit) → t.verdict ≡ true → (option_map_or (λ e. written p outward e t) found t).verdict ≡ true
written_accepted p outward None t is = is
written_accepted p true (Some e) t is = is
written_accepted p false (Some e) t is = is

pub routed_accepted : (c : IosConfig) (site : Site) (p : Packet) (k : Kind) (t : Transit) → t.verdict ≡ true → (routed_as c site p k t).verdict ≡ true
routed_accepted c site p New t is =
    let found = first_end (inner_end t.packet) c.nats in
    verdict_by (is_shown (receiving t.packet) c.outside) (option_map_or (λ e. with_dst p e t) found t) t (written_accepted p false found t is) is
routed_accepted c site p (Est r) t is = is

pub sent_accepted : (c : IosConfig) (site : Site) (p : Packet) (k : Kind) (t : Transit) → t.verdict ≡ true → (sent_as c site p k t).verdict ≡ true
sent_accepted c site p New t is =
    let found = source_end c site New t in
    verdict_by (is_shown (receiving t.packet) c.inside && is_shown (sending site t.packet) c.outside) (option_map_or (λ e. with_src p e t) found t) t
    (written_accepted p true found t is) is
sent_accepted c site p (Est r) t is = is

-- Stages

-- a last stage
all_of : (o : Option Transit) → option_and_then (λ t. Some t) o ≡ o
all_of None = refl
all_of (Some t) = refl

-- a stage behind lists
behind_lists : (next : Transit → Option Transit) (after : Transit → Transit) (b : Bool) (t : Transit) → next t ≡ Some (after t)
    → option_and_then next (cond b (Some t) None) ≡ option_map after (cond b (Some t) None)
behind_lists next after true t is = is
behind_lists next after false t is = refl

-- two ways on behind routing
two_ways : (next other : Transit → Option Transit) (after : Transit → Transit) (b : Bool) (t : Transit) → next (after t) ≡ other (after t)
    → option_and_then next (option_map after (cond b (Some t) None)) ≡ option_and_then other (option_map after (cond b (Some t) None))
two_ways next other after true t is = is
two_ways next other after false t is = refl

module _ (law : WalksGoByPlaces) (c : IosConfig) (lists : List Rule) (choose : Choose law c lists) (site : Site) (p : Packet) (k : Kind) where
  -- with these rules for translations by lists
  abbrev chains : List Chain
  chains = chains_with (source_front c ++ lists) c

  abbrev pub drawn : List Stage → Transit → Option Transit
  drawn stages t = stages_walk chains site p k stages t

  -- the chain of a stage, from its beginning
  abbrev pub entering : Bool → ℕ → ℕ → Transit → ChainEnd
  entering outward chain = chain_walk chains site p k (stage_of outward chain) 3 (chain ∷ [])

  pub in_stage : (t : Transit) → t.verdict ≡ true → stage_walk chains site p k (stage_of false 0) t ≡ met c site k false t
  in_stage t is =
      ap (stage_walk chains site p k (stage_of false 0)) (sym (begins t is))
      ∙ lists_walk k false 0 (walk_of law (entering false 0) site p k (stage_of false 0) (list_rules false c)) c refl (with_verdict true t) refl
      ∙ ap (met c site k false) (begins t is)

  destination_stage : (t : Transit) → t.verdict ≡ true → stage_walk chains site p k (stage_of false 1) t ≡ Some (routed_as c site p k t)
  destination_stage t is =
      ap (stage_walk chains site p k (stage_of false 1)) (sym (begins t is))
      ∙ destination_walk law (entering false 1) site p k c (with_verdict true t) refl
      ∙ ap (λ u. Some (routed_as c site p k u)) (begins t is)

  pub source_stage : (t : Transit) → t.verdict ≡ true → stage_walk chains site p k (stage_of true 2) t ≡ Some (sent_as c site p k t)
  source_stage t is =
      ap (stage_walk chains site p k (stage_of true 2)) (sym (begins t is))
      ∙ source_walk law c lists choose (entering true 2) site p k (with_verdict true t) refl
      ∙ ap (λ u. Some (sent_as c site p k u)) (begins t is)

  out_stage : (t : Transit) → t.verdict ≡ true → stage_walk chains site p k (stage_of true 3) t ≡ met c site k true t
  out_stage t is =
      ap (stage_walk chains site p k (stage_of true 3)) (sym (begins t is))
      ∙ lists_walk k true 3 (walk_of law (entering true 3) site p k (stage_of true 3) (list_rules true c)) c refl (with_verdict true t) refl
      ∙ ap (met c site k true) (begins t is)

  -- a packet that arrives
  pub arrives : (t : Transit) → t.verdict ≡ true → drawn (stage_of false 0 ∷ stage_of false 1 ∷ []) t ≡ arrived c site p k t
  arrives t is =
      let next = drawn (stage_of false 1 ∷ []) in
      ap (option_and_then next) (in_stage t is)
      ∙ behind_lists next (routed_as c site p k) (passes c site k false t) t
      (all_of (stage_walk chains site p k (stage_of false 1) t) ∙ destination_stage t is)

  -- a packet that is forwarded
  is_forwarded : (t : Transit) → t.verdict ≡ true → drawn (stage_of true 2 ∷ stage_of true 3 ∷ []) t ≡ forwarded c site p k t
  is_forwarded t is =
      let after = sent_as c site p k t in
      ap (option_and_then (drawn (stage_of true 3 ∷ []))) (source_stage t is)
      ∙ all_of (stage_walk chains site p k (stage_of true 3) after)
      ∙ out_stage after (sent_accepted c site p k t is)

  -- how a packet goes on behind routing, in the diagram and by the configuration
  abbrev drawn_on : Transit → Option Transit
  drawn_on t = onwards (drawn []) (drawn (stage_of true 2 ∷ stage_of true 3 ∷ [])) (exit_at site p.entry t.packet.dst) t

  abbrev walks_on : Transit → Option Transit
  walks_on t = onwards Some (forwarded c site p k) (exit_at site p.entry t.packet.dst) t

  -- an exit
  routed : (e : Exit) (t : Transit) → t.verdict ≡ true
      → onwards (drawn []) (drawn (stage_of true 2 ∷ stage_of true 3 ∷ [])) e t ≡ onwards Some (forwarded c site p k) e t
  routed Deliver t is = refl
  routed (Out entry) t is = is_forwarded t is
  routed Lost t is = refl

  -- every packet
  pub means_kept : means (diagram_with (source_front c ++ lists) c) site p k ≡ walk c site p k
  means_kept =
      let t = entered p in
      let after = routed_as c site p k t in
      ap (λ o. outcome_of k (cond (nat_eq p.entry 0) (Some t) o))
      (ap (option_and_then drawn_on) (arrives t refl)
      ∙ two_ways drawn_on walks_on (routed_as c site p k) (passes c site k false t) t
      (routed (exit_at site p.entry after.packet.dst) after (routed_accepted c site p k t refl)))

-- what the diagram says of a packet is what becomes of it
pub keeps_walks : (law : WalksGoByPlaces) (site : Site) (c : IosConfig) (p : Packet) (k : Kind) → means (diagram_of c) site p k ≡ walk c site p k
keeps_walks law site c p k = means_kept law c (choosing_from (length (source_front c)) c.lists [] c.nats) (chooses law c) site p k
