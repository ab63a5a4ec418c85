-- Pairs: a packet, and the ends with which a connection sends it. Which of them are dropped, and which of them rules can't
-- tell from each other.
use Rattle.std.specs.Prelude.{◌≡◌, ◌⊎◌, Bool, true, false, nat_eq}
use Rattle.fws_net.specs.declared.connection.Rec.{Rec}
use Rattle.fws_net.specs.declared.exit.Exit.TheVariants.{Lost}
use Rattle.fws_net.specs.declared.outcome.Outcome.TheVariants.{Drop}
use Rattle.fws_net.specs.declared.packet.Packet.{Packet}
use Rattle.fws_net.specs.declared.site.Site.{Site}
use Rattle.fws_net.specs.Routes.{exit_at, is_local}
use Rattle.fws_tree.specs.declared.tables.Tables.{Tables}
use Rattle.fws_place.specs.Meaning.{IsPairOf, new_of, est_of}

-- the host's own packets come from no interface
abbrev pub is_host : Packet → Bool
is_host p = nat_eq p.entry 0

-- the pair is lost: it arrives for another host, and the site doesn't forward
abbrev pub IsLost : Site → Packet → Rec → Type 0
IsLost site p r = exit_at site p.entry r.rdst ≡ Lost

-- a pair that isn't lost is dropped
pub record IsDropped (site : Site) (tables : Tables) (p : Packet) (r : Rec) : Type 0 where
  pub of_site : IsPairOf site p r
  pub found : IsLost site p r → ⊥
  pub dropped : est_of tables p r ≡ Drop

-- the pair arrives and is forwarded
pub record IsForwarded (site : Site) (p : Packet) (r : Rec) : Type 0 where
  pub of_site : IsPairOf site p r
  pub arrives : is_host p ≡ false
  pub elsewhere : is_local site r.rdst ≡ false
  pub found : IsLost site p r → ⊥

-- a rule behind routing can't tell the two pairs apart: it sees the destination with which the connection sends a packet,
-- and all else as the packet entered
pub record LookAlike (p : Packet) (r : Rec) (q : Packet) (s : Rec) : Type 0 where
  pub entry : p.entry ≡ q.entry
  pub proto : p.proto ≡ q.proto
  pub src : p.src ≡ q.src
  pub sport : p.sport ≡ q.sport
  pub flags : p.flags ≡ q.flags
  pub icmp : p.icmp ≡ q.icmp
  pub rdst : r.rdst ≡ s.rdst
  pub rdport : r.rdport ≡ s.rdport

-- whatever connection it belongs to, the packet is dropped wherever it isn't lost
abbrev pub AllOfPacketDropped : Site → Tables → Packet → Type 0
AllOfPacketDropped site tables p = (r : Rec) → IsPairOf site p r → (IsLost site p r → ⊥) → est_of tables p r ≡ Drop

-- all pairs that look like this one and aren't lost are dropped
abbrev pub AllAlikeDropped : Site → Tables → Packet → Rec → Type 0
AllAlikeDropped site tables p r =
    (q : Packet) (s : Rec) → LookAlike p r q s → IsPairOf site q s → (IsLost site q s → ⊥) → est_of tables q s ≡ Drop

-- all forwarded pairs that look like this one are dropped
abbrev pub AllForwardedDropped : Site → Tables → Packet → Rec → Type 0
AllForwardedDropped site tables p r = (q : Packet) (s : Rec) → LookAlike p r q s → IsForwarded site q s → est_of tables q s ≡ Drop

-- the packet as rules see it with the destination of the connection in place
abbrev pub with_destination : Rec → Packet → Packet
with_destination r p = record p { dst = r.rdst; dport = r.rdport }

-- new packets that look like the packet of this pair are dropped
abbrev pub NewAlikeDropped : Tables → Packet → Rec → Type 0
NewAlikeDropped tables p r = new_of tables (with_destination r p) ≡ Drop

-- before the connections are looked up ipfw can drop this pair: with all of its packet and the new packet like it; or where
-- it is forwarded, with all forwarded pairs like it; and one of the host with all pairs like it, and the new packets like them
abbrev pub IpfwCanDrop : Site → Tables → Packet → Rec → Type 0
IpfwCanDrop site tables p r =
    ((is_host p ≡ false) × AllOfPacketDropped site tables p × (new_of tables p ≡ Drop))
    ⊎ (IsForwarded site p r × AllForwardedDropped site tables p r)
    ⊎ ((is_host p ≡ true) × AllAlikeDropped site tables p r × NewAlikeDropped tables p r)
