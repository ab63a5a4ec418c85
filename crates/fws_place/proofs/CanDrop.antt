-- Which pairs ipfw can drop ahead of the look-up of connections.
use Rattle.std.proofs.Common.{◌≡◌, Bool, true, false, not, ◌⊎◌, inl, inr, sym, ◌∙◌, ap}
use Rattle.std.proofs.lemmas.Bool.{and_parts, both_ways, not-true, true_from_ne_false}
use Rattle.std.specs.Prelude.{◌↔◌, if◌then◌else◌, nat_eq}
use Rattle.fws_net.specs.declared.connection.Rec.{Rec}
use Rattle.fws_net.specs.declared.exit.Exit.TheVariants.{Deliver, Out, Lost}
use Rattle.fws_net.specs.declared.outcome.Outcome.TheVariants.{Drop}
use Rattle.fws_net.specs.declared.packet.Packet.{Packet}
use Rattle.fws_net.specs.declared.site.Site.{Site}
use Rattle.fws_net.specs.Routes.{is_local, route_of}
use Rattle.fws_tree.specs.declared.tables.Tables.{Tables}
use Rattle.fws_tree.specs.Regular.{AreRegular}
use Rattle.fws_place.specs.AheadOfLookup.{passes, stays, IsAcceptedNew, IsAcceptedNewAlike, IsDroppedOfAlike, IsDroppedOfPacket}
use Rattle.fws_place.specs.Clauses.{BreaksAheadOfLookup}
use Rattle.fws_place.specs.Meaning.{IsPairOf, est_of, new_of}
use Rattle.fws_place.specs.Pairs.{AllAlikeDropped, AllForwardedDropped, AllOfPacketDropped, IpfwCanDrop, IsForwarded, IsLost, NewAlikeDropped, is_host, with_destination}
use Rattle.fws_place.specs.Seen.{IsAcceptedAlike, IsAcceptedSomewhere}
use Rattle.fws_place.proofs.Viewing.{found, not_accepted}

-- Regions

-- the host's pairs aren't lost
pub host_found : (site : Site) (p : Packet) (r : Rec) → is_host p ≡ true → IsLost site p r → ⊥
host_found site p r h lost = by (nat_eq p.entry 0) (is_local site r.rdst) site.forwarding h lost
  where
    by : (h l f : Bool) → h ≡ true → (if h then (if l then Out 1 else Out (route_of site r.rdst)) else if l then Deliver else if f then Out (route_of site r.rdst) else Lost) ≡ Lost → ⊥
    by true true f e lost = cc
    by true false f e lost = cc
    by false l f e lost = cc

-- nor are pairs that are delivered
pub local_found : (site : Site) (p : Packet) (r : Rec) → is_local site r.rdst ≡ true → IsLost site p r → ⊥
local_found site p r h lost = by (nat_eq p.entry 0) (is_local site r.rdst) site.forwarding h lost
  where
    by : (h l f : Bool) → l ≡ true → (if h then (if l then Out 1 else Out (route_of site r.rdst)) else if l then Deliver else if f then Out (route_of site r.rdst) else Lost) ≡ Lost → ⊥
    by true true f e lost = cc
    by false true f e lost = cc
    by h false f e lost = cc

-- nor any where the site forwards
pub forwarded_found : (site : Site) (p : Packet) (r : Rec) → site.forwarding ≡ true → IsLost site p r → ⊥
forwarded_found site p r h lost = by (nat_eq p.entry 0) (is_local site r.rdst) site.forwarding h lost
  where
    by : (h l f : Bool) → f ≡ true → (if h then (if l then Out 1 else Out (route_of site r.rdst)) else if l then Deliver else if f then Out (route_of site r.rdst) else Lost) ≡ Lost → ⊥
    by true true f e lost = cc
    by true false f e lost = cc
    by false true f e lost = cc
    by false false true e lost = cc
    by false false false e lost = cc

-- a pair that is delivered arrives at a local address
pub staying_parts : (site : Site) (p : Packet) (r : Rec) → stays site p r ≡ true → (is_host p ≡ false) × (is_local site r.rdst ≡ true)
staying_parts site p r e = let both = and_parts (not (is_host p)) (is_local site r.rdst) e in (not-true (is_host p) both.0, both.1)

pub passing_parts : (site : Site) (p : Packet) (r : Rec) → passes site p r ≡ true → (is_host p ≡ false) × (is_local site r.rdst ≡ false)
passing_parts site p r e =
    let both = and_parts (not (is_host p)) (not (is_local site r.rdst)) e in
    (not-true (is_host p) both.0, not-true (is_local site r.rdst) both.1)

-- What can't be dropped

-- a pair that none of the three ways drops
refuted : (site : Site) (tables : Tables) (p : Packet) (r : Rec)
    → (is_host p ≡ false → AllOfPacketDropped site tables p → new_of tables p ≡ Drop → ⊥)
    → (IsForwarded site p r → AllForwardedDropped site tables p r → ⊥)
    → (is_host p ≡ true → AllAlikeDropped site tables p r → NewAlikeDropped tables p r → ⊥)
    → IpfwCanDrop site tables p r → ⊥
refuted site tables p r arriving forwarded host (inl a) = arriving a.0 a.1 a.2
refuted site tables p r arriving forwarded host (inr (inl f)) = forwarded f.0 f.1
refuted site tables p r arriving forwarded host (inr (inr h)) = host h.0 h.1 h.2

-- the packet of the pair isn't dropped always
pub packet_kept : (site : Site) (tables : Tables) → AreRegular site tables → (p : Packet) → IsAcceptedSomewhere site tables p ⊎ IsAcceptedNew tables p
    → AllOfPacketDropped site tables p → new_of tables p ≡ Drop → ⊥
packet_kept site tables regular p (inl s) all new = s.accepted (all s.ends s.of_site (found site tables regular p s.ends s.of_site s.accepted))
packet_kept site tables regular p (inr n) all new = n new

-- some pair that looks like it isn't dropped, or the new packet
alike_kept : (site : Site) (tables : Tables) → AreRegular site tables → (p : Packet) (r : Rec) → IsAcceptedAlike site tables p r ⊎ IsAcceptedNewAlike tables p r
    → AllAlikeDropped site tables p r → NewAlikeDropped tables p r → ⊥
alike_kept site tables regular p r (inl s) all new = s.accepted (all s.other s.ends s.alike s.of_site (found site tables regular s.other s.ends s.of_site s.accepted))
alike_kept site tables regular p r (inr n) all new = n.1 new

-- where a forwarded pair looks like one that is accepted, not all forwarded ones that look like it are dropped
forwarded_kept : (site : Site) (tables : Tables) → AreRegular site tables → (p : Packet) (r : Rec) → IsAcceptedAlike site tables p r → IsForwarded site p r
    → AllForwardedDropped site tables p r → ⊥
forwarded_kept site tables regular p r s forwarded all = s.accepted (all s.other s.ends s.alike (record {
  of_site = s.of_site;
  arrives = ap (λ e. nat_eq e 0) (sym s.alike.entry) ∙ forwarded.arrives;
  elsewhere = ap (λ a. is_local site a) (sym s.alike.rdst) ∙ forwarded.elsewhere;
  found = found site tables regular s.other s.ends s.of_site s.accepted;
}))

-- a dropped pair of the host breaks the clause
pub host_breaks : (site : Site) (tables : Tables) → AreRegular site tables → (p : Packet) (r : Rec) → IsPairOf site p r → is_host p ≡ true
    → IsDroppedOfAlike site tables p r → BreaksAheadOfLookup site tables p r
host_breaks site tables regular p r w host d = record {
  dropped = record { of_site = w; found = host_found site p r host; dropped = d.0 };
  lasting = refuted site tables p r (λ arrives all new. both_ways (is_host p) arrives host) (λ forwarded all. both_ways (is_host p) forwarded.arrives host)
      (λ h all new. alike_kept site tables regular p r d.1 all new);
}

-- one that is delivered
pub staying_breaks : (site : Site) (tables : Tables) → AreRegular site tables → (p : Packet) (r : Rec) → IsPairOf site p r → stays site p r ≡ true
    → IsDroppedOfPacket site tables p r → BreaksAheadOfLookup site tables p r
staying_breaks site tables regular p r w here d =
    let parts = staying_parts site p r here in
    record {
      dropped = record { of_site = w; found = local_found site p r parts.1; dropped = d.0 };
      lasting = refuted site tables p r (λ arrives all new. packet_kept site tables regular p d.1 all new)
          (λ forwarded all. both_ways (is_local site r.rdst) forwarded.elsewhere parts.1) (λ host all new. both_ways (is_host p) parts.0 host);
    }

-- one that is forwarded
pub passing_breaks : (site : Site) (tables : Tables) → AreRegular site tables → (p : Packet) (r : Rec) → IsPairOf site p r → (IsLost site p r → ⊥) → passes site p r ≡ true
    → IsDroppedOfPacket site tables p r → IsAcceptedAlike site tables p r → BreaksAheadOfLookup site tables p r
passing_breaks site tables regular p r w kept here d s =
    let parts = passing_parts site p r here in
    record {
      dropped = record { of_site = w; found = kept; dropped = d.0 };
      lasting = refuted site tables p r (λ arrives all new. packet_kept site tables regular p d.1 all new)
          (λ forwarded all. forwarded_kept site tables regular p r s forwarded all) (λ host all new. both_ways (is_host p) parts.0 host);
    }

-- What can be dropped

-- what is tested and doesn't fail holds
pub stable : (D : Type 0) (x : Bool) → ((x ≡ true) ↔ D) → ((D → ⊥) → ⊥) → D
stable D x both n = both.0 (true_from_ne_false x (λ off. n (λ d. both_ways x off (both.1 d))))

-- where a pair of the host breaks the clause, one that looks like it is accepted or the new packet
pub host_shown : (site : Site) (tables : Tables) (p : Packet) (r : Rec) (x : Bool) → is_host p ≡ true → ((x ≡ true) ↔ IsDroppedOfAlike site tables p r)
    → BreaksAheadOfLookup site tables p r → IsDroppedOfAlike site tables p r
host_shown site tables p r x host told breaks =
    let drop : est_of tables p r ≡ Drop = breaks.dropped.dropped in
    stable (IsDroppedOfAlike site tables p r) x told (λ none. breaks.lasting (inr (inr (
      host,
      (λ q s alike w lost. not_accepted (est_of tables q s) (λ a. none (drop, inl (record { other = q; ends = s; of_site = w; alike = alike; accepted = a })))),
      not_accepted (new_of tables (with_destination r p)) (λ a. none (drop, inr (host, a))),
    ))))

-- where all pairs of a packet that arrives are dropped and the new one is, it can be dropped
packet_drops : (site : Site) (tables : Tables) (p : Packet) (r : Rec) → is_host p ≡ false → est_of tables p r ≡ Drop → (IsDroppedOfPacket site tables p r → ⊥)
    → IpfwCanDrop site tables p r
packet_drops site tables p r arrives drop none = inl (
  arrives,
  (λ s w lost. not_accepted (est_of tables p s) (λ a. none (drop, inl (record { ends = s; of_site = w; accepted = a })))),
  not_accepted (new_of tables p) (λ a. none (drop, inr a)),
)

-- where a pair that is delivered breaks the clause, its packet is accepted
pub staying_shown : (site : Site) (tables : Tables) (p : Packet) (r : Rec) (x : Bool) → stays site p r ≡ true → ((x ≡ true) ↔ IsDroppedOfPacket site tables p r)
    → BreaksAheadOfLookup site tables p r → IsDroppedOfPacket site tables p r
staying_shown site tables p r x here told breaks =
    let arrives : is_host p ≡ false = (staying_parts site p r here).0 in
    stable (IsDroppedOfPacket site tables p r) x told (λ none. breaks.lasting (packet_drops site tables p r arrives breaks.dropped.dropped none))

-- where one that is forwarded does, its packet is accepted and a pair that looks like it
pub passing_shown : (site : Site) (tables : Tables) (p : Packet) (r : Rec) (x : Bool) → passes site p r ≡ true
    → ((x ≡ true) ↔ (IsDroppedOfPacket site tables p r × IsAcceptedAlike site tables p r))
    → BreaksAheadOfLookup site tables p r → IsDroppedOfPacket site tables p r × IsAcceptedAlike site tables p r
passing_shown site tables p r x here told breaks =
    let parts = passing_parts site p r here in
    stable (IsDroppedOfPacket site tables p r × IsAcceptedAlike site tables p r) x told (λ none. breaks.lasting (inr (inl (
      record { of_site = breaks.dropped.of_site; arrives = parts.0; elsewhere = parts.1; found = breaks.dropped.found },
      (λ q s alike forwarded. not_accepted (est_of tables q s) (λ a. breaks.lasting (packet_drops site tables p r parts.0 breaks.dropped.dropped
          (λ d. none (d, record { other = q; ends = s; of_site = forwarded.of_site; alike = alike; accepted = a }))))),
    ))))
