-- Packets that entered alike pass alike.
use Rattle.std.proofs.Common.{◌≡◌, ℕ, Bool, true, false, ◌&&◌, cond, nat_eq, Option, Some, None, List, [], ◌∷◌, refl, ap}
use Rattle.fws_net.specs.declared.packet.Packet.{Packet}
use Rattle.fws_net.specs.declared.outcome.End.{End}
use Rattle.fws_net.specs.declared.connection.Kind.{Kind}
use Rattle.fws_net.specs.declared.connection.Kind.TheVariants.{New, Est}
use Rattle.fws_net.specs.declared.site.Site.{Site}
use Rattle.fws_net.specs.declared.transit.Transit.{Transit}
use Rattle.fws_net.specs.Conditions.{is_shown}
use Rattle.fws_net.specs.Showing.{out_of}
use Rattle.fws_net.specs.Transits.{with_verdict}
use Rattle.fws_rules.specs.AlikeWays.{AlikeKinds, AlikeTransits, MakeAlike, LeadAlike, StayAlike}
use Rattle.fws_pf.specs.Walk.{tagged, written, is_met, interface_of}
use Rattle.fws_pfo.specs.declared.config.PfoConfig.{PfoConfig}
use Rattle.fws_pfo.specs.declared.config.PfoKind.{PfoKind}
use Rattle.fws_pfo.specs.declared.config.PfoKind.TheVariants.{Pass, Block, Match}
use Rattle.fws_pfo.specs.declared.config.PfoRule.{PfoRule}
use Rattle.fws_pfo.specs.Walk.{matches, moved, acted_by, acted, held_behind, ended, rules_walk, pass_walk, pass_of}

module _ (c : PfoConfig) (site : Site) (p q : Packet) (stay : StayAlike p q) where
  -- Rules

  written_alike : (outward : Bool) (e : End) → MakeAlike p (written p outward e) (written q outward e)
  written_alike true e t u h = stay.with_src e t u h
  written_alike false e t u h = stay.with_dst e t u h

  moved_alike : (outward : Bool) (to : Option End) → MakeAlike p (moved p outward to) (moved q outward to)
  moved_alike outward None t u h = h
  moved_alike outward (Some e) t u h = written_alike outward e t u h

  tagged_alike : (tag : Option ℕ) → MakeAlike p (tagged tag) (tagged tag)
  tagged_alike None t u h = h
  tagged_alike (Some n) t u h = stay.with_only_tag n t u h

  acted_by_alike : (outward : Bool) (to : Option End) (kind : PfoKind) → MakeAlike p (acted_by p outward to kind) (acted_by q outward to kind)
  acted_by_alike outward to Pass t u h = stay.with_verdict true t u h
  acted_by_alike outward to Block t u h = stay.with_verdict false t u h
  acted_by_alike outward to Match t u h = moved_alike outward to t u h

  acted_alike : (outward : Bool) (r : PfoRule) → MakeAlike p (acted p outward r) (acted q outward r)
  acted_alike outward r t u h = acted_by_alike outward r.to r.kind (tagged r.tag t) (tagged r.tag u) (tagged_alike r.tag t u h)

  ended_alike : (outward : Bool) (held : Option End) → LeadAlike p (ended p outward held) (ended q outward held)
  ended_alike outward held t u h = stay.decided (moved p outward held t) (moved q outward held u) (moved_alike outward held t u h)

  rules_alike : (outward : Bool) (rules : List PfoRule) (held : Option End) → LeadAlike p (rules_walk site p outward rules held) (rules_walk site q outward rules held)
  rules_alike outward [] held t u h = ended_alike outward held t u h
  rules_alike outward (r ∷ rs) held t u h =
      let after = acted p outward r t in
      let other = acted q outward r u in
      let holding = held_behind r held in
      let k = acted_alike outward r t u h in
      stay.chosen (matches site outward r t) (matches site outward r u) _ (rules_walk site p outward rs held t) _ (rules_walk site q outward rs held u)
      (ap (λ b. is_met r.way outward && b) (stay.holds site true outward outward false r.cond t u h))
      (stay.chosen r.quick r.quick (ended p outward holding after) (rules_walk site p outward rs holding after) (ended q outward holding other)
      (rules_walk site q outward rs holding other) refl (ended_alike outward holding after other k) (rules_alike outward rs holding after other k))
      (rules_alike outward rs held t u h)

  -- Passes

  interface_alike : (outward : Bool) (t u : Transit) → AlikeTransits p t u → interface_of site outward t ≡ interface_of site outward u
  interface_alike true t u h = ap out_of (stay.exit site t u h)
  interface_alike false t u h = ap (λ x. cond (nat_eq x 0) None (Some x)) h.packet.entry

  walked_alike : (outward : Bool) → LeadAlike p (pass_walk c site p outward) (pass_walk c site q outward)
  walked_alike outward t u h =
      stay.chosen (is_shown (interface_of site outward t) c.skip) (is_shown (interface_of site outward u) c.skip) (Some t) _ (Some u) _
      (ap (λ o. is_shown o c.skip) (interface_alike outward t u h)) h
      (rules_alike outward c.rules None (with_verdict true t) (with_verdict true u) (stay.with_verdict true t u h))

  pub pass_alike : (outward : Bool) (k l : Kind) → AlikeKinds p k l → LeadAlike p (pass_of c site p k outward) (pass_of c site q l outward)
  pass_alike outward New New same t u h = walked_alike outward t u h
  pass_alike true (Est r) (Est s) same t u h = h
  pass_alike false (Est r) (Est s) same t u h = stay.with_tracked_dst (Est r) (Est s) same t u h
  pass_alike outward _ _ same t u h = absurd same
