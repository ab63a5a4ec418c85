-- Packets that entered alike pass alike.
use Rattle.std.proofs.Common.{◌≡◌, ℕ, Bool, true, false, ◌&&◌, cond, nat_eq, Option, Some, None, option_map, List, [], ◌∷◌, refl, ap, ◌∙◌, subst}
use Rattle.std.specs.Option.{option_map_or}
use Rattle.std.proofs.lemmas.Bool.{true≢false, false≢true}
use Rattle.fws_net.specs.declared.condition.Lit.{Lit}
use Rattle.fws_net.specs.declared.packet.Packet.{Packet}
use Rattle.fws_net.specs.declared.outcome.End.{End}
use Rattle.fws_net.specs.declared.connection.Kind.{Kind}
use Rattle.fws_net.specs.declared.connection.Kind.TheVariants.{New, Est}
use Rattle.fws_net.specs.declared.site.Site.{Site}
use Rattle.fws_net.specs.declared.transit.Transit.{Transit}
use Rattle.fws_net.specs.Conditions.{holds, is_shown}
use Rattle.fws_net.specs.Connections.{is_est}
use Rattle.fws_net.specs.Ends.{host_end}
use Rattle.fws_net.specs.Fates.{has_ports}
use Rattle.fws_net.specs.Showing.{out_of, receiving, sending}
use Rattle.fws_net.specs.Transits.{seen, with_dst, with_src}
use Rattle.fws_rules.specs.Alike.{Alike}
use Rattle.fws_rules.specs.AlikeWays.{AlikeKinds, AlikeTransits, AlikeWays, MakeAlike, LeadAlike, StayAlike}
use Rattle.fws_ios.specs.declared.config.IosConfig.{IosConfig}
use Rattle.fws_ios.specs.declared.config.IosEntry.{IosEntry}
use Rattle.fws_ios.specs.declared.config.IosGroup.{IosGroup}
use Rattle.fws_ios.specs.declared.config.IosList.{IosList}
use Rattle.fws_ios.specs.declared.config.IosNat.{IosNat}
use Rattle.fws_ios.specs.declared.config.IosNat.TheVariants.{Static, List as Listed}
use Rattle.fws_ios.specs.Walk.{view_on, permits, list_named, says, interface_of, group_at, passes, met, is_of_proto, is_end, inner_end, outer_end, listed_end, first_end, source_end, translated_in, translated_out, routed_as, sent_as, arrived, forwarded}

-- Ends

and_alike : (a b c d : Bool) → a ≡ b → (a ≡ true → c ≡ d) → (a && c) ≡ (b && d)
and_alike true b c d e h = let same : c ≡ d = h refl in cc
and_alike false b c d e h = ap (λ x. x && d) e

port_alike : (port : Option ℕ) (a b x y : ℕ) → a ≡ b → (has_ports a ≡ true → x ≡ y)
    → option_map_or (λ n. has_ports a && nat_eq n x) port true ≡ option_map_or (λ n. has_ports b && nat_eq n y) port true
port_alike None a b x y e h = refl
port_alike (Some n) a b x y e h = and_alike (has_ports a) (has_ports b) (nat_eq n x) (nat_eq n y) (ap has_ports e) (λ on. ap (nat_eq n) (h on))

end_alike : (e : End) (a b v w x y : ℕ) → a ≡ b → v ≡ w → (has_ports a ≡ true → x ≡ y) → is_end e a v x ≡ is_end e b w y
end_alike e a b v w x y proto addr port = and_alike (nat_eq e.addr v) (nat_eq e.addr w) _ _ (ap (nat_eq e.addr) addr) (λ on. port_alike e.port a b x y proto port)

module _ (v w : Packet) (a : Alike v w) where
  inner_alike : (nat : IosNat) → inner_end v nat ≡ inner_end w nat
  inner_alike (Static proto local global) =
      ap (λ b. cond b (Some local) None)
      (and_alike (is_of_proto proto v.proto) (is_of_proto proto w.proto) _ _ (ap (is_of_proto proto) a.proto)
      (λ on. end_alike global v.proto w.proto v.dst w.dst v.dport w.dport a.proto a.dst a.dport))
  inner_alike (Listed name addr) = refl

  outer_alike : (nat : IosNat) → outer_end v nat ≡ outer_end w nat
  outer_alike (Static proto local global) =
      ap (λ b. cond b (Some global) None)
      (and_alike (is_of_proto proto v.proto) (is_of_proto proto w.proto) _ _ (ap (is_of_proto proto) a.proto)
      (λ on. end_alike local v.proto w.proto v.src w.src v.sport w.sport a.proto a.src a.sport))
  outer_alike (Listed name addr) = refl

first_alike : (f g : IosNat → Option End) → ((nat : IosNat) → f nat ≡ g nat) → (nats : List IosNat) → first_end f nats ≡ first_end g nats
first_alike f g same [] = refl
first_alike f g same (nat ∷ nats) =
    ap (λ o. option_map_or Some o (first_end f nats)) (same nat) ∙ ap (λ rest. option_map_or Some (g nat) rest) (first_alike f g same nats)

module _ (c : IosConfig) (site : Site) (p q : Packet) (stay : StayAlike p q) (k l : Kind) (same : AlikeKinds p k l) where
  -- Lists

  est_alike : (k l : Kind) → AlikeKinds p k l → is_est k ≡ is_est l
  est_alike New New h = refl
  est_alike (Est r) (Est s) h = refl
  est_alike _ _ h = absurd h

  entry_alike : (outward : Bool) (lits : List Lit) (t u : Transit) → AlikeTransits p t u → holds lits (view_on site k outward t) ≡ holds lits (view_on site l outward u)
  entry_alike outward lits t u h =
      stay.holds site true outward outward (is_est k) lits t u h ∙ ap (λ est. holds lits (seen site true outward outward est u)) (est_alike k l same)

  permits_alike : (outward : Bool) (entries : List IosEntry) (t u : Transit) → AlikeTransits p t u → permits site k outward entries t ≡ permits site l outward entries u
  permits_alike outward [] t u h = refl
  permits_alike outward (entry ∷ entries) t u h =
      ap (λ b. cond b entry.permit (permits site k outward entries t)) (entry_alike outward entry.cond t u h)
      ∙ ap (λ b. cond (holds entry.cond (view_on site l outward u)) entry.permit b) (permits_alike outward entries t u h)

  says_alike : (outward otherwise : Bool) (name : List ℕ) (t u : Transit) → AlikeTransits p t u → says c site k outward otherwise name t ≡ says c site l outward otherwise name u
  says_alike outward otherwise name t u h = said (list_named name c.lists)
    where
      said : (o : Option IosList) → option_map_or (λ each. permits site k outward each.entries t) o otherwise ≡ option_map_or (λ each. permits site l outward each.entries u) o otherwise
      said None = refl
      said (Some each) = permits_alike outward each.entries t u h

  -- Lists at interfaces

  receiving_alike : (t u : Transit) → AlikeTransits p t u → receiving t.packet ≡ receiving u.packet
  receiving_alike t u h = ap (λ x. cond (nat_eq x 0) None (Some x)) h.packet.entry

  sending_alike : (t u : Transit) → AlikeTransits p t u → sending site t.packet ≡ sending site u.packet
  sending_alike t u h = ap out_of (stay.exit site t u h)

  interface_alike : (outward : Bool) (t u : Transit) → AlikeTransits p t u → interface_of site outward t ≡ interface_of site outward u
  interface_alike true t u h = sending_alike t u h
  interface_alike false t u h = receiving_alike t u h

  passes_alike : (outward : Bool) (t u : Transit) → AlikeTransits p t u → passes c site k outward t ≡ passes c site l outward u
  passes_alike outward t u h =
      ap (λ face. option_map_or (λ (g : IosGroup). says c site k outward true g.list t) (group_at outward face c.groups) true) (interface_alike outward t u h)
      ∙ passed (group_at outward (interface_of site outward u) c.groups)
    where
      passed : (o : Option IosGroup) → option_map_or (λ (g : IosGroup). says c site k outward true g.list t) o true ≡ option_map_or (λ (g : IosGroup). says c site l outward true g.list u) o true
      passed None = refl
      passed (Some g) = says_alike outward true g.list t u h

  met_alike : (outward : Bool) → LeadAlike p (met c site k outward) (met c site l outward)
  met_alike outward t u h = stay.chosen (passes c site k outward t) (passes c site l outward u) (Some t) None (Some u) None (passes_alike outward t u h) h tt

  -- Translation

  listed_alike : (t u : Transit) → AlikeTransits p t u → (nat : IosNat) → listed_end c site k t nat ≡ listed_end c site l u nat
  listed_alike t u h (Static proto local global) = refl
  listed_alike t u h (Listed name addr) = ap (λ b. cond b (Some (host_end addr None)) None) (says_alike true false name t u h)

  source_alike : (t u : Transit) → AlikeTransits p t u → source_end c site k t ≡ source_end c site l u
  source_alike t u h =
      ap (λ o. option_map_or Some o (first_end (listed_end c site k t) c.nats))
      (first_alike (outer_end t.packet) (outer_end u.packet) (outer_alike t.packet u.packet h.packet) c.nats)
      ∙ ap (λ o. option_map_or Some (first_end (outer_end u.packet) c.nats) o)
      (first_alike (listed_end c site k t) (listed_end c site l u) (listed_alike t u h) c.nats)

  to_end_alike : (o : Option End) (t u : Transit) → AlikeTransits p t u → AlikeTransits p (option_map_or (λ e. with_dst p e t) o t) (option_map_or (λ e. with_dst q e u) o u)
  to_end_alike None t u h = h
  to_end_alike (Some e) t u h = stay.with_dst e t u h

  from_end_alike : (o : Option End) (t u : Transit) → AlikeTransits p t u → AlikeTransits p (option_map_or (λ e. with_src p e t) o t) (option_map_or (λ e. with_src q e u) o u)
  from_end_alike None t u h = h
  from_end_alike (Some e) t u h = stay.with_src e t u h

  translated_in_alike : MakeAlike p (translated_in p c) (translated_in q c)
  translated_in_alike t u h =
      subst (λ o. AlikeTransits p (translated_in p c t) (option_map_or (λ e. with_dst q e u) o u))
      (first_alike (inner_end t.packet) (inner_end u.packet) (inner_alike t.packet u.packet h.packet) c.nats)
      (to_end_alike (first_end (inner_end t.packet) c.nats) t u h)

  translated_out_alike : MakeAlike p (translated_out p c site k) (translated_out q c site l)
  translated_out_alike t u h =
      subst (λ o. AlikeTransits p (translated_out p c site k t) (option_map_or (λ e. with_src q e u) o u)) (source_alike t u h)
      (from_end_alike (source_end c site k t) t u h)

-- a choice by tests that agree
both_chosen : (p : Packet) (b d : Bool) (x y v w : Transit) → b ≡ d → AlikeTransits p x v → AlikeTransits p y w → AlikeTransits p (cond b x y) (cond d v w)
both_chosen p true true x y v w e h k = h
both_chosen p false false x y v w e h k = k
both_chosen p true false x y v w e h k = absurd (true≢false e)
both_chosen p false true x y v w e h k = absurd (false≢true e)

mapped_alike : (p : Packet) (f g : Transit → Transit) → MakeAlike p f g → (x y : Option Transit) → AlikeWays p x y → AlikeWays p (option_map f x) (option_map g y)
mapped_alike p f g make (Some t) (Some u) h = make t u h
mapped_alike p f g make None None h = tt
mapped_alike p f g make _ _ h = absurd h

module _ (c : IosConfig) (site : Site) (p q : Packet) (stay : StayAlike p q) where
  routed_alike : (k l : Kind) → AlikeKinds p k l → MakeAlike p (routed_as c site p k) (routed_as c site q l)
  routed_alike New New same t u h =
      both_chosen p (is_shown (receiving t.packet) c.outside) (is_shown (receiving u.packet) c.outside) (translated_in p c t) t (translated_in q c u) u
      (ap (λ o. is_shown o c.outside) (receiving_alike c site p q stay New New same t u h)) (translated_in_alike c site p q stay New New same t u h) h
  routed_alike (Est r) (Est s) same t u h = stay.with_tracked_dst (Est r) (Est s) same t u h
  routed_alike _ _ same t u h = absurd same

  sent_alike : (k l : Kind) → AlikeKinds p k l → MakeAlike p (sent_as c site p k) (sent_as c site q l)
  sent_alike New New same t u h =
      both_chosen p (is_shown (receiving t.packet) c.inside && is_shown (sending site t.packet) c.outside)
      (is_shown (receiving u.packet) c.inside && is_shown (sending site u.packet) c.outside) (translated_out p c site New t) t (translated_out q c site New u) u
      (ap (λ o. is_shown o c.inside && is_shown (sending site t.packet) c.outside) (receiving_alike c site p q stay New New same t u h)
      ∙ ap (λ o. is_shown (receiving u.packet) c.inside && is_shown o c.outside) (sending_alike c site p q stay New New same t u h))
      (translated_out_alike c site p q stay New New same t u h) h
  sent_alike (Est r) (Est s) same t u h = stay.with_tracked_src (Est r) (Est s) same t u h
  sent_alike _ _ same t u h = absurd same

  pub arrived_alike : (k l : Kind) → AlikeKinds p k l → LeadAlike p (arrived c site p k) (arrived c site q l)
  arrived_alike k l same t u h =
      mapped_alike p (routed_as c site p k) (routed_as c site q l) (routed_alike k l same) (met c site k false t) (met c site l false u)
      (met_alike c site p q stay k l same false t u h)

  pub forwarded_alike : (k l : Kind) → AlikeKinds p k l → LeadAlike p (forwarded c site p k) (forwarded c site q l)
  forwarded_alike k l same t u h = met_alike c site p q stay k l same true (sent_as c site p k t) (sent_as c site q l u) (sent_alike k l same t u h)
