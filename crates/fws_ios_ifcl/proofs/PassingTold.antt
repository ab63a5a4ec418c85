-- What is told of the diagram's stages is what packets use on their ways.
use Rattle.std.proofs.Common.{◌≡◌, ℕ, ◌+◌, Bool, true, false, not, cond, ◌&&◌, nat_eq, Option, Some, None, option_map, List, [], ◌∷◌, ◌++◌, length, drop, get_or, arith, refl, sym, ap, ◌∙◌, subst, append-nil, length-append}
use Rattle.std.specs.Option.{option_map_or}
use Rattle.fws_net.specs.declared.connection.Kind.{Kind}
use Rattle.fws_net.specs.declared.connection.Kind.TheVariants.{New, Est}
use Rattle.fws_net.specs.declared.exit.Exit.{Exit}
use Rattle.fws_net.specs.declared.exit.Exit.TheVariants.{Deliver, Out, Lost}
use Rattle.fws_net.specs.declared.packet.Packet.{Packet}
use Rattle.fws_net.specs.declared.site.Site.{Site}
use Rattle.fws_net.specs.declared.transit.Transit.{Transit}
use Rattle.fws_net.specs.Conditions.{is_shown}
use Rattle.fws_net.specs.Routes.{exit_at}
use Rattle.fws_net.specs.Showing.{receiving, sending}
use Rattle.fws_net.specs.Transits.{with_verdict, entered, used_onwards}
use Rattle.fws_ifcl.specs.declared.diagram.Chain.{Chain}
use Rattle.fws_ifcl.specs.declared.diagram.Place.{Place}
use Rattle.fws_ifcl.specs.declared.diagram.Rule.{Rule}
use Rattle.fws_ifcl.specs.declared.diagram.Spot.{Spot}
use Rattle.fws_ifcl.specs.declared.diagram.Stage.{Stage}
use Rattle.fws_ifcl.specs.declared.step.ChainEnd.{ChainEnd}
use Rattle.fws_ifcl.specs.Spots.{told}
use Rattle.fws_ifcl.specs.Uses.{chain_used, stage_used, used_places}
use Rattle.fws_ifcl.specs.Walk.{chain_walk, stage_walk, stages_walk}
use Rattle.fws_ifcl_rules.specs.Places.{Walk, WalksGoByPlaces, walk_of, Stands}
use Rattle.fws_ifcl_rules.specs.UsedPlaces.{AreBeside, Bears, Telling, TellsOfUses, stages_told, tell}
use Rattle.fws_ios.specs.declared.config.IosConfig.{IosConfig}
use Rattle.fws_ios.specs.Uses.{first_translation, met_used, routed_used, sent_used, source_used, static_used, lists_used, arrived_used, forwarded_used, used}
use Rattle.fws_ios.specs.Walk.{inner_end, outer_end, passes, routed_as, sent_as}
use Rattle.fws_ios_ifcl.specs.Blocks.{statics_from}
use Rattle.fws_ios_ifcl.specs.Diagram.{list_rules, kept_destinations, destination_rules, kept_sources, source_front, stage_of}
use Rattle.fws_ios_ifcl.specs.Placed.{asking_from, placed_sources, chains_with, placed_of, spots_of}
use Rattle.fws_ios_ifcl.proofs.AppliedTold.{lists_told}
use Rattle.fws_ios_ifcl.proofs.Asked.{asks}
use Rattle.fws_ios_ifcl.proofs.AskedTold.{asking_told}
use Rattle.fws_ios_ifcl.proofs.Beside.{asking_beside_from, besides, destination_beside, front_beside, front_many, source_beside, spots_beside, statics_beside}
use Rattle.fws_ios_ifcl.proofs.Listed.{Course}
use Rattle.fws_ios_ifcl.proofs.ListedTold.{Tale, none_told}
use Rattle.fws_ios_ifcl.proofs.Passing.{arrives, begins, behind, in_stage, routed_accepted, sent_accepted, source_stage}
use Rattle.fws_ios_ifcl.proofs.TranslatedTold.{static_alone, static_first, static_or, statics_told}

-- a test ahead of the other rules, at which nothing is told
unless : (b : Bool) (rest numbers : List ℕ) → rest ≡ numbers → cond (not b && true) [] rest ≡ cond b numbers []
unless true rest numbers is = is
unless false rest numbers is = refl

-- two of them
unless_both : (a b : Bool) (rest numbers : List ℕ) → rest ≡ numbers → cond (not a && true) [] (cond (not b && true) [] rest) ≡ cond (a && b) numbers []
unless_both true b rest numbers is = unless b rest numbers is
unless_both false b rest numbers is = refl

-- behind lists
behind_lists : (next : Transit → List ℕ) (b : Bool) (t : Transit) (numbers : List ℕ) → next t ≡ numbers
    → option_map_or next (cond b (Some t) None) [] ≡ cond b numbers []
behind_lists next true t numbers is = is
behind_lists next false t numbers is = refl

-- behind a last stage
last_stage : (numbers : List ℕ) (o : Option Transit) → numbers ++ option_map_or (λ (t : Transit). []) o [] ≡ numbers
last_stage numbers None = append-nil numbers
last_stage numbers (Some t) = append-nil numbers

-- two ways on behind routing
two_ways : (next other : Transit → List ℕ) (after : Transit → Transit) (b : Bool) (t : Transit) → next (after t) ≡ other (after t)
    → option_map_or next (option_map after (cond b (Some t) None)) [] ≡ option_map_or other (option_map after (cond b (Some t) None)) []
two_ways next other after true t is = is
two_ways next other after false t is = refl

-- Destinations

destination_told : (c : IosConfig) (k : Kind) (w : Course k false 1) (u : Tale w) → w.full ≡ destination_rules c → u.beside ≡ destination_beside c → (t : Transit)
    → tell u 0 t ≡ routed_used c w.site k t
destination_told c (Est r) w u are beside t =
    let front : Stands w 0 (kept_destinations c) = record { rest = statics_from false 3 c.nats; are = are } in
    let numbers : Bears u 0 ([] ∷ [] ∷ [] ∷ []) = record { rest = statics_beside (first_translation c) c.nats; are = beside } in
    u.law.told front numbers (tt, (tt, (tt, tt))) t
destination_told c New w u are beside t =
    let first = first_translation c in
    let nats = statics_from false 3 c.nats in
    let counts = statics_beside first c.nats in
    let front : Stands w 0 (kept_destinations c) = record { rest = nats; are = are } in
    let numbers : Bears u 0 ([] ∷ [] ∷ [] ∷ []) = record { rest = counts; are = beside } in
    let rules : Stands w 3 nats = record { rest = []; are = ap (drop 3) are ∙ sym (append-nil nats) } in
    let counted : Bears u 3 counts = record { rest = []; are = ap (drop 3) beside ∙ sym (append-nil counts) } in
    let last : 3 + length nats ≡ length w.full = omega (arith, ap length are) in
    u.law.told front numbers (tt, (tt, (tt, tt))) t
    ∙ unless (is_shown (receiving t.packet) c.outside) (tell u 3 t) (static_used (inner_end t.packet) first c.nats)
    (statics_told false 1 w u (length w.full) 3 first c.nats rules counted last t
    ∙ ap (static_or (inner_end t.packet) first c.nats) (none_told New false 1 w u t) ∙ static_alone (inner_end t.packet) first c.nats)

-- Sources

source_told : (c : IosConfig) (k : Kind) (w : Course k true 2) (u : Tale w) → w.full ≡ placed_sources c → u.beside ≡ source_beside c → (t : Transit)
    → tell u 0 t ≡ sent_used c w.site k t
source_told c (Est r) w u are beside t =
    let front : Stands w 0 (kept_sources c) = record { rest = drop 4 (placed_sources c); are = are } in
    let numbers : Bears u 0 ([] ∷ [] ∷ [] ∷ [] ∷ []) = record { rest = drop 4 (source_beside c); are = beside } in
    u.law.told front numbers (tt, (tt, (tt, (tt, tt)))) t
source_told c New w u are beside t =
    let first = first_translation c in
    let nats = statics_from true 4 c.nats in
    let place = length (source_front c) in
    let lists = asking_from place c.lists c.nats in
    let counts = asking_beside_from c.lists first c.nats in
    let front : Stands w 0 (kept_sources c) = record { rest = drop 4 (placed_sources c); are = are } in
    let numbers : Bears u 0 ([] ∷ [] ∷ [] ∷ [] ∷ []) = record { rest = drop 4 (source_beside c); are = beside } in
    let all : Bears u 0 (source_beside c) = record { rest = []; are = beside ∙ sym (append-nil (source_beside c)) } in
    let many : length (front_beside c) ≡ place = front_many c in
    let halves = behind w (source_front c) lists are in
    let counted = u.law.parts place (front_beside c) counts all (omega (arith, many)) in
    let rules = w.law.parts 4 (kept_sources c) nats halves.0 refl in
    let statics = u.law.parts 4 ([] ∷ [] ∷ [] ∷ [] ∷ []) (statics_beside first c.nats) counted.0 refl in
    let middle : 4 + length nats ≡ place = omega arith in
    let last : place + length lists ≡ length w.full = sym (ap length are ∙ length-append (source_front c) lists) in
    u.law.told front numbers (tt, (tt, (tt, (tt, tt)))) t
    ∙ unless_both (is_shown (receiving t.packet) c.inside) (is_shown (sending w.site t.packet) c.outside) (tell u 4 t) (source_used c w.site New t)
    (statics_told true 2 w u place 4 first c.nats rules.1 statics.1 middle t
    ∙ ap (static_or (outer_end t.packet) first c.nats) (asking_told 2 w u t c (length w.full) (none_told New true 2 w u t) place first c.nats halves.1 counted.1 last)
    ∙ static_first (outer_end t.packet) first c.nats (lists_used c w.site New t first c.nats))

-- Stages

module _ (law : WalksGoByPlaces) (uses : TellsOfUses) (c : IosConfig) (site : Site) (p : Packet) (k : Kind) where
  abbrev chains : List Chain
  chains = chains_with (placed_sources c) c

  abbrev spots : List Spot
  spots = spots_of c

  -- the chain of a stage, from its beginning
  abbrev entering : Bool → ℕ → ℕ → Transit → ChainEnd
  entering outward chain = chain_walk chains site p k (stage_of outward chain) 3 (chain ∷ [])

  abbrev using_chains : Bool → ℕ → ℕ → Transit → List Place
  using_chains outward chain = chain_used chains site p k (stage_of outward chain) 3 (chain ∷ [])

  abbrev course : (outward : Bool) (chain : ℕ) → List Rule → Walk k (stage_of outward chain)
  course outward chain rules = walk_of law (entering outward chain) site p k (stage_of outward chain) rules

  -- what stands beside the rules of a chain
  numbered : (chain : ℕ) → AreBeside spots chain (get_or (besides c) chain [])
  numbered chain = subst (λ all. AreBeside all chain (get_or (besides c) chain [])) (sym (spots_beside uses c)) (uses.beside (besides c) chain)

  abbrev tale : (outward : Bool) (chain : ℕ) (rules : List Rule) → Telling (course outward chain rules)
  tale outward chain rules = record {
    used = using_chains outward chain;
    spots = spots;
    chain = chain;
    beside = get_or (besides c) chain [];
    law = uses.places (using_chains outward chain) (entering outward chain) spots chain site p k (stage_of outward chain) rules (get_or (besides c) chain []) (numbered chain);
  }

  -- what is told of a stage
  abbrev of_stage : Bool → ℕ → Transit → List ℕ
  of_stage outward chain t = told spots (stage_used chains site p k (stage_of outward chain) t)

  in_told : (t : Transit) → t.verdict ≡ true → of_stage false 0 t ≡ met_used c site k false t
  in_told t is =
      lists_told k false 0 (course false 0 (list_rules false c)) (tale false 0 (list_rules false c)) c refl refl (with_verdict true t)
      ∙ ap (met_used c site k false) (begins t is)

  out_told : (t : Transit) → t.verdict ≡ true → of_stage true 3 t ≡ met_used c site k true t
  out_told t is =
      lists_told k true 3 (course true 3 (list_rules true c)) (tale true 3 (list_rules true c)) c refl refl (with_verdict true t)
      ∙ ap (met_used c site k true) (begins t is)

  destination_stage_told : (t : Transit) → t.verdict ≡ true → of_stage false 1 t ≡ routed_used c site k t
  destination_stage_told t is =
      destination_told c k (course false 1 (destination_rules c)) (tale false 1 (destination_rules c)) refl refl (with_verdict true t)
      ∙ ap (routed_used c site k) (begins t is)

  source_stage_told : (t : Transit) → t.verdict ≡ true → of_stage true 2 t ≡ sent_used c site k t
  source_stage_told t is =
      source_told c k (course true 2 (placed_sources c)) (tale true 2 (placed_sources c)) refl refl (with_verdict true t)
      ∙ ap (sent_used c site k) (begins t is)

  abbrev lists : List Rule
  lists = asking_from (length (source_front c)) c.lists c.nats

  abbrev told_in : List Stage → Transit → List ℕ
  told_in stages t = stages_told spots chains site p k stages t

  -- a packet that arrives
  arrives_told : (t : Transit) → t.verdict ≡ true → told_in (stage_of false 0 ∷ stage_of false 1 ∷ []) t ≡ arrived_used c site k t
  arrives_told t is =
      let next = told_in (stage_of false 1 ∷ []) in
      let first = met_used c site k false t in
      ap (λ l. l ++ option_map_or next (stage_walk chains site p k (stage_of false 0) t) []) (in_told t is)
      ∙ ap (λ o. first ++ option_map_or next o []) (in_stage law c lists (asks law c) site p k t is)
      ∙ ap (λ l. first ++ l) (behind_lists next (passes c site k false t) t (routed_used c site k t)
      (last_stage (of_stage false 1 t) (stage_walk chains site p k (stage_of false 1) t) ∙ destination_stage_told t is))

  -- a packet that is forwarded
  forwarded_told : (t : Transit) → t.verdict ≡ true → told_in (stage_of true 2 ∷ stage_of true 3 ∷ []) t ≡ forwarded_used c site p k t
  forwarded_told t is =
      let next = told_in (stage_of true 3 ∷ []) in
      let after = sent_as c site p k t in
      let first = sent_used c site k t in
      ap (λ l. l ++ option_map_or next (stage_walk chains site p k (stage_of true 2) t) []) (source_stage_told t is)
      ∙ ap (λ o. first ++ option_map_or next o []) (source_stage law c lists (asks law c) site p k t is)
      ∙ ap (λ l. first ++ l) (last_stage (of_stage true 3 after) (stage_walk chains site p k (stage_of true 3) after) ∙ out_told after (sent_accepted c site p k t is))

  -- an exit
  routed_told : (e : Exit) (t : Transit) → t.verdict ≡ true
      → used_onwards (told_in []) (told_in (stage_of true 2 ∷ stage_of true 3 ∷ [])) e t ≡ used_onwards (λ t. []) (forwarded_used c site p k) e t
  routed_told Deliver t is = refl
  routed_told (Out entry) t is = forwarded_told t is
  routed_told Lost t is = refl

  -- how a packet goes on behind routing, in the diagram and by the configuration
  abbrev told_on : Transit → List ℕ
  told_on t = used_onwards (told_in []) (told_in (stage_of true 2 ∷ stage_of true 3 ∷ [])) (exit_at site p.entry t.packet.dst) t

  abbrev used_on : Transit → List ℕ
  used_on t = used_onwards (λ t. []) (forwarded_used c site p k) (exit_at site p.entry t.packet.dst) t

  -- every packet
  used_told : told spots (used_places (placed_of c) site p k) ≡ used c site p k
  used_told =
      let t = entered p in
      let after = routed_as c site p k t in
      let first = arrived_used c site k t in
      uses.stages spots (placed_of c) site p k
      ∙ ap (λ l. cond (nat_eq p.entry 0) [] l)
      (ap (λ l. l ++ option_map_or told_on (stages_walk chains site p k (stage_of false 0 ∷ stage_of false 1 ∷ []) t) []) (arrives_told t refl)
      ∙ ap (λ o. first ++ option_map_or told_on o []) (arrives law c lists (asks law c) site p k t refl)
      ∙ ap (λ l. first ++ l) (two_ways told_on used_on (routed_as c site p k) (passes c site k false t) t
      (routed_told (exit_at site p.entry after.packet.dst) after (routed_accepted c site p k t refl))))

-- what is told of the places that a packet's walk uses is what the packet uses
pub tells_uses : (law : WalksGoByPlaces) (uses : TellsOfUses) (site : Site) (c : IosConfig) (p : Packet) (k : Kind)
    → told (spots_of c) (used_places (placed_of c) site p k) ≡ used c site p k
tells_uses law uses site c p k = used_told law uses c site p k
