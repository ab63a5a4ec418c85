-- Passages as transits, and the parts of a walk as parts over transits.
use Rattle.std.proofs.Common.{◌≡◌, ℕ, Bool, true, false, cond, nat_eq, Option, Some, None, option_map, List, [], ◌∷◌, IfSome, refl, ap, ◌∙◌, option_and_then}
use Rattle.fws_net.specs.declared.packet.Packet.{Packet}
use Rattle.fws_net.specs.declared.connection.Kind.{Kind}
use Rattle.fws_net.specs.declared.connection.Kind.TheVariants.{New, Est}
use Rattle.fws_net.specs.declared.exit.Exit.{Exit}
use Rattle.fws_net.specs.declared.exit.Exit.TheVariants.{Deliver, Out, Lost}
use Rattle.fws_net.specs.declared.site.Site.{Site}
use Rattle.fws_net.specs.declared.transit.Transit.{Transit}
use Rattle.fws_net.specs.Routes.{exit_at}
use Rattle.fws_net.specs.Transits as transits
use Rattle.fws_rules.specs.Regular.{Part, walk_by}
use Rattle.fws_ipt.specs.declared.config.IptTable.{IptTable}
use Rattle.fws_ipt.specs.declared.config.IptConfig.{IptConfig}
use Rattle.fws_ipt.specs.declared.hook.Hook.{Hook}
use Rattle.fws_ipt.specs.declared.passage.Passage.{Passage}
use Rattle.fws_ipt.specs.Walk.{visits, arriving, delivered, forwarded, sent_out, go_to, routed, entering, way_of, outcome_of, walk}

-- the mark is the one tag
abbrev pub transit_of : Passage → Transit
transit_of m = record { packet = m.packet; tags = m.mark ∷ []; verdict = true; wrote = m.wrote }

-- without tags the mark is 0
abbrev pub mark_of : List ℕ → ℕ
mark_of [] = 0
mark_of (n ∷ ns) = n

abbrev pub passage_of : Transit → Passage
passage_of t = record { packet = t.packet; mark = mark_of t.tags; wrote = t.wrote }

-- the chains that a packet visits, as a part of its walk
abbrev pub visiting : IptConfig → Site → List (IptTable × Hook) → Part
visiting c site stations p k t = option_map transit_of (visits c site p k stations (passage_of t))

pub shown_holds : (P : Transit → Type 0) (way : Option Passage) → IfSome way (λ m. P (transit_of m)) → IfSome (option_map transit_of way) P
shown_holds P None h = tt
shown_holds P (Some m) h = h

outcome_shown : (k : Kind) (way : Option Passage) → outcome_of k way ≡ transits.outcome_of k (option_map transit_of way)
outcome_shown k None = refl
outcome_shown New (Some m) = refl
outcome_shown (Est r) (Some m) = refl

module _ (c : IptConfig) (site : Site) (p : Packet) (k : Kind) where
  abbrev behind_routing : Transit → Option Transit
  behind_routing t = transits.onwards (visiting c site delivered p k) (visiting c site forwarded p k) (exit_at site p.entry t.packet.dst) t

  gone_shown : (exit : Exit) (m : Passage)
      → option_map transit_of (go_to c site p k exit m) ≡ transits.onwards (visiting c site delivered p k) (visiting c site forwarded p k) exit (transit_of m)
  gone_shown Deliver m = refl
  gone_shown (Out entry) m = refl
  gone_shown Lost m = refl

  routed_shown : (way : Option Passage) → option_map transit_of (option_and_then (routed c site p k) way) ≡ option_and_then behind_routing (option_map transit_of way)
  routed_shown None = refl
  routed_shown (Some m) = gone_shown (exit_at site p.entry m.packet.dst) m

  chosen_shown : (b : Bool) (x y : Option Passage) (z : Option Transit) → option_map transit_of y ≡ z → option_map transit_of (cond b x y) ≡ cond b (option_map transit_of x) z
  chosen_shown true x y z e = refl
  chosen_shown false x y z e = e

  -- a walk is one in four parts
  pub walk_shown : walk c site p k ≡ walk_by (visiting c site arriving) (visiting c site delivered) (visiting c site forwarded) (visiting c site sent_out) site p k
  walk_shown =
      let arrived = visits c site p k arriving (entering p) in
      outcome_shown k (way_of c site p k)
      ∙ ap (transits.outcome_of k)
      (chosen_shown (nat_eq p.entry 0) (visits c site p k sent_out (entering p)) (option_and_then (routed c site p k) arrived)
      (option_and_then behind_routing (option_map transit_of arrived)) (routed_shown arrived))
