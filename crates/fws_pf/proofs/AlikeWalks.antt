-- Packets that entered alike pass alike.
use Rattle.std.proofs.Common.{◌≡◌, ℕ, Bool, true, false, ◌&&◌, cond, nat_eq, Option, Some, None, List, [], ◌∷◌, refl, ap, ◌∙◌, subst}
use Rattle.std.specs.Option.{option_map_or}
use Rattle.fws_net.specs.declared.packet.Packet.{Packet}
use Rattle.fws_net.specs.declared.outcome.End.{End}
use Rattle.fws_net.specs.declared.connection.Kind.{Kind}
use Rattle.fws_net.specs.declared.connection.Kind.TheVariants.{New, Est}
use Rattle.fws_net.specs.declared.site.Site.{Site}
use Rattle.fws_net.specs.declared.transit.Transit.{Transit}
use Rattle.fws_net.specs.Conditions.{holds, is_shown}
use Rattle.fws_net.specs.Showing.{out_of}
use Rattle.fws_net.specs.Transits.{decided}
use Rattle.fws_rules.specs.AlikeWays.{AlikeKinds, AlikeTransits, AlikeWays, MakeAlike, LeadAlike, StayAlike}
use Rattle.fws_pf.specs.declared.config.PfConfig.{PfConfig}
use Rattle.fws_pf.specs.declared.config.PfNat.{PfNat}
use Rattle.fws_pf.specs.declared.config.PfRule.{PfRule}
use Rattle.fws_pf.specs.Walk.{view_on, tagged, written, translated_by, translations, chosen, is_met, matches, acted, rules_walk, behind, interface_of, pass_walk, pass_of}

module _ (c : PfConfig) (site : Site) (p q : Packet) (stay : StayAlike p q) where
  -- Translation

  written_alike : (outward : Bool) (e : End) → MakeAlike p (written p outward e) (written q outward e)
  written_alike true e t u h = stay.with_src e t u h
  written_alike false e t u h = stay.with_dst e t u h

  moved_alike : (outward : Bool) (to : Option End) (t u : Transit) → AlikeTransits p t u
      → AlikeTransits p (option_map_or (λ e. written p outward e t) to t) (option_map_or (λ e. written q outward e u) to u)
  moved_alike outward None t u h = h
  moved_alike outward (Some e) t u h = written_alike outward e t u h

  tagged_alike : (tag : Option ℕ) → MakeAlike p (tagged tag) (tagged tag)
  tagged_alike None t u h = h
  tagged_alike (Some n) t u h = stay.with_only_tag n t u h

  translated_alike : (outward : Bool) (nat : PfNat) → MakeAlike p (translated_by p outward nat) (translated_by q outward nat)
  translated_alike outward nat t u h = tagged_alike nat.tag _ _ (moved_alike outward nat.to t u h)

  chosen_alike : (outward : Bool) (nats : List PfNat) (t u : Transit) → AlikeTransits p t u → chosen site outward nats t ≡ chosen site outward nats u
  chosen_alike outward [] t u h = refl
  chosen_alike outward (nat ∷ nats) t u h =
      ap (λ b. cond b (Some nat) (chosen site outward nats t)) (stay.holds site true outward outward false nat.cond t u h)
      ∙ ap (λ o. cond (holds nat.cond (view_on site outward u)) (Some nat) o) (chosen_alike outward nats t u h)

  -- Filter rules

  acted_alike : (r : PfRule) → MakeAlike p (acted r) (acted r)
  acted_alike r t u h = stay.with_verdict r.pass (tagged r.tag t) (tagged r.tag u) (tagged_alike r.tag t u h)

  rules_alike : (outward : Bool) (rules : List PfRule) → LeadAlike p (rules_walk site outward rules) (rules_walk site outward rules)
  rules_alike outward [] t u h = stay.decided t u h
  rules_alike outward (r ∷ rs) t u h =
      let k = acted_alike r t u h in
      stay.chosen (matches site outward r t) (matches site outward r u) _ (rules_walk site outward rs t) _ (rules_walk site outward rs u)
      (ap (λ b. is_met r.way outward && b) (stay.holds site true outward outward false r.cond t u h))
      (stay.chosen r.quick r.quick (decided (acted r t)) (rules_walk site outward rs (acted r t)) (decided (acted r u)) (rules_walk site outward rs (acted r u)) refl
      (stay.decided (acted r t) (acted r u) k) (rules_alike outward rs (acted r t) (acted r u) k))
      (rules_alike outward rs t u h)

  -- Passes

  behind_alike : (outward : Bool) (nat : Option PfNat) → LeadAlike p (behind c site p outward nat) (behind c site q outward nat)
  behind_alike outward None t u h = rules_alike outward c.filter t u h
  behind_alike outward (Some nat) t u h =
      let k = translated_alike outward nat t u h in
      stay.chosen nat.past nat.past (Some (translated_by p outward nat t)) _ (Some (translated_by q outward nat u)) _ refl k
      (rules_alike outward c.filter (translated_by p outward nat t) (translated_by q outward nat u) k)

  interface_alike : (outward : Bool) (t u : Transit) → AlikeTransits p t u → interface_of site outward t ≡ interface_of site outward u
  interface_alike true t u h = ap out_of (stay.exit site t u h)
  interface_alike false t u h = ap (λ x. cond (nat_eq x 0) None (Some x)) h.packet.entry

  walked_alike : (outward : Bool) → LeadAlike p (pass_walk c site p outward) (pass_walk c site q outward)
  walked_alike outward t u h =
      stay.chosen (is_shown (interface_of site outward t) c.skip) (is_shown (interface_of site outward u) c.skip) (Some t) _ (Some u) _
      (ap (λ o. is_shown o c.skip) (interface_alike outward t u h)) h
      (subst (λ o. AlikeWays p (behind c site p outward (chosen site outward (translations c outward) t) t) (behind c site q outward o u))
      (chosen_alike outward (translations c outward) t u h) (behind_alike outward (chosen site outward (translations c outward) t) t u h))

  pub pass_alike : (outward : Bool) (k l : Kind) → AlikeKinds p k l → LeadAlike p (pass_of c site p k outward) (pass_of c site q l outward)
  pass_alike outward New New same t u h = walked_alike outward t u h
  pass_alike true (Est r) (Est s) same t u h = h
  pass_alike false (Est r) (Est s) same t u h = stay.with_tracked_dst (Est r) (Est s) same t u h
  pass_alike outward _ _ same t u h = absurd same
