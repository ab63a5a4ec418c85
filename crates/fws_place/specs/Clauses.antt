-- The clauses of the placement conditions, each by the packets that break it.
use Rattle.std.specs.Prelude.{◌≡◌, ◌≢◌, ◌⊎◌, Bool, true, false, ◌&&◌, ◌||◌, not, nat_eq, Option, Some, None}
use Rattle.std.specs.Int.Bits.{bit_and}
use Rattle.fws_net.specs.declared.connection.Rec.{Rec}
use Rattle.fws_net.specs.declared.exit.Exit.TheVariants.{Lost}
use Rattle.fws_net.specs.declared.outcome.Rewrite.{Rewrite}
use Rattle.fws_net.specs.declared.outcome.Outcome.TheVariants.{Drop, Accept}
use Rattle.fws_net.specs.declared.packet.Packet.{Packet}
use Rattle.fws_net.specs.declared.site.Site.{Site}
use Rattle.fws_net.specs.Routes.{exit_at}
use Rattle.fws_net.specs.Transits.{nothing_written}
use Rattle.fws_tree.specs.declared.tables.Tables.{Tables}
use Rattle.fws_place.specs.declared.breach.Pair.{Pair}
use Rattle.fws_place.specs.declared.clause.Clause.{Clause}
use Rattle.fws_place.specs.declared.clause.Clause.TheVariants.{FewOutcomes, KeepsSourcePorts, KeepsHostDestinations, KeepsDeliveredSources, DropsByOneView, FewRedirects, DropsAheadOfLookup, DropsNoEstablished, OneDestination, OneHostSource, PassesHost, KeepsDestinations, WritesInsideOut, TellsByAckAlone, OneSource, DropsAlways, WritesWholeAddresses}
use Rattle.fws_place.specs.Counts.{IsInFirst, ShowLeavesAbove, ShowTooManyRedirects}
use Rattle.fws_place.specs.Meaning.{IsPacketOf, IsPairOf, new_of, est_of}
use Rattle.fws_place.specs.Pairs.{AllOfPacketDropped, AllAlikeDropped, IpfwCanDrop, IsDropped, is_host}
use Rattle.fws_place.specs.Rewritings.{goes_outside, is_accepted_with, is_accepted, is_delivered, is_network, new_exit, writes_destination, writes_source, writes_source_port}

-- What is named

-- one packet of the site is named, and it is such
pub record NamesPacket (site : Site) (Such : Packet → Type 0) (first : Pair) (second : Option Pair) : Type 0 where
  pub of_site : IsPacketOf site first.packet
  pub new : first.rec ≡ None
  pub alone : second ≡ None
  pub such : Such first.packet

-- one pair of the site is named, and it is such
pub record NamesPair (site : Site) (Such : Packet → Rec → Type 0) (first : Pair) (second : Option Pair) : Type 0 where
  pub ends : Rec
  pub of_site : IsPairOf site first.packet ends
  pub established : first.rec ≡ Some ends
  pub alone : second ≡ None
  pub such : Such first.packet ends

-- two packets of the site are named, and they are such
pub record NamesPackets (site : Site) (Such : Packet → Packet → Type 0) (first : Pair) (second : Option Pair) : Type 0 where
  pub other : Packet
  pub of_site : IsPacketOf site first.packet
  pub other_of_site : IsPacketOf site other
  pub new : first.rec ≡ None
  pub both : second ≡ Some (record { packet = other; rec = None })
  pub such : Such first.packet other

-- two pairs of the site are named, and they are such
pub record NamesPairs (site : Site) (Such : Packet → Rec → Packet → Rec → Type 0) (first : Pair) (second : Option Pair) : Type 0 where
  pub ends : Rec
  pub other : Packet
  pub other_ends : Rec
  pub of_site : IsPairOf site first.packet ends
  pub other_of_site : IsPairOf site other other_ends
  pub established : first.rec ≡ Some ends
  pub both : second ≡ Some (record { packet = other; rec = Some other_ends })
  pub such : Such first.packet ends other other_ends

-- a new packet is accepted with a rewriting that passes the test
abbrev pub IsAcceptedWith : Tables → (Rewrite → Bool) → Packet → Type 0
IsAcceptedWith tables test p = is_accepted_with test (new_of tables p) ≡ true

-- Dropped pairs

-- a dropped pair is neither one of a packet whose pairs are all dropped, nor are all pairs that look like it dropped
pub record BreaksByOneView (site : Site) (tables : Tables) (p : Packet) (r : Rec) : Type 0 where
  pub dropped : IsDropped site tables p r
  pub packet : AllOfPacketDropped site tables p → ⊥
  pub alike : AllAlikeDropped site tables p r → ⊥

-- ipfw can't drop a dropped pair
pub record BreaksAheadOfLookup (site : Site) (tables : Tables) (p : Packet) (r : Rec) : Type 0 where
  pub dropped : IsDropped site tables p r
  pub lasting : IpfwCanDrop site tables p r → ⊥

-- a dropped pair isn't one of a packet that is dropped whatever its class
pub record BreaksAlways (site : Site) (tables : Tables) (p : Packet) (r : Rec) : Type 0 where
  pub dropped : IsDropped site tables p r
  pub sometimes : AllOfPacketDropped site tables p × (new_of tables p ≡ Drop) → ⊥

-- Two packets

-- they agree in all but flags and ICMP types
pub record AgreeButFlagsAndType (p q : Packet) : Type 0 where
  pub entry : p.entry ≡ q.entry
  pub proto : p.proto ≡ q.proto
  pub dst : p.dst ≡ q.dst
  pub dport : p.dport ≡ q.dport
  pub src : p.src ≡ q.src
  pub sport : p.sport ≡ q.sport

-- they agree in all but the entry and flags
pub record AgreeButEntryAndFlags (p q : Packet) : Type 0 where
  pub proto : p.proto ≡ q.proto
  pub dst : p.dst ≡ q.dst
  pub dport : p.dport ≡ q.dport
  pub src : p.src ≡ q.src
  pub sport : p.sport ≡ q.sport
  pub icmp : p.icmp ≡ q.icmp

-- they agree in all but flags
abbrev pub AgreeButFlags : Packet → Packet → Type 0
AgreeButFlags p q = p ≡ record q { flags = p.flags }

-- ACK or RST is set
abbrev pub has_ack_or_rst : Packet → Bool
has_ack_or_rst p = not (nat_eq (bit_and p.flags 20) 0)

-- two packets are accepted and their rewritings differ in such a way
pub record Differ (tables : Tables) (In : Rewrite → Rewrite → Type 0) (p q : Packet) : Type 0 where
  pub rewriting : Rewrite
  pub other : Rewrite
  pub accepted : new_of tables p ≡ Accept rewriting
  pub other_accepted : new_of tables q ≡ Accept other
  pub differ : In rewriting other

-- they get different destinations
abbrev pub InDestination : Rewrite → Rewrite → Type 0
InDestination v w = v.dst ≢ w.dst

-- they get different sources
abbrev pub InSource : Rewrite → Rewrite → Type 0
InSource v w = v.src ≢ w.src

-- two arriving packets get different destinations for their flags or ICMP types
pub record BreaksOneDestination (tables : Tables) (p q : Packet) : Type 0 where
  pub arrives : is_host p ≡ false
  pub agree : AgreeButFlagsAndType p q
  pub differ : Differ tables InDestination p q

-- two packets of the host get different sources for their flags or ICMP types
pub record BreaksOneHostSource (tables : Tables) (p q : Packet) : Type 0 where
  pub host : is_host p ≡ true
  pub agree : AgreeButFlagsAndType p q
  pub differ : Differ tables InSource p q

-- two packets from the inside to the outside get different sources for their entries or flags
pub record BreaksOneSource (site : Site) (tables : Tables) (p q : Packet) : Type 0 where
  pub outside : IsAcceptedWith tables (goes_outside site p) p
  pub other_outside : IsAcceptedWith tables (goes_outside site q) q
  pub agree : AgreeButEntryAndFlags p q
  pub differ : Differ tables InSource p q

-- ACK and RST

-- one of two arriving packets that differ in flags alone is accepted and one dropped, and ACK or RST doesn't tell them apart
pub record BreaksByAckNew (tables : Tables) (p q : Packet) : Type 0 where
  pub arrives : is_host p ≡ false
  pub agree : AgreeButFlags p q
  pub same : has_ack_or_rst p ≡ has_ack_or_rst q
  pub differ : is_accepted (new_of tables p) ≢ is_accepted (new_of tables q)

-- likewise for two pairs with the same ends that aren't lost
pub record BreaksByAckEstablished (site : Site) (tables : Tables) (p : Packet) (r : Rec) (q : Packet) (s : Rec) : Type 0 where
  pub arrives : is_host p ≡ false
  pub agree : AgreeButFlags p q
  pub ends : r ≡ s
  pub found : exit_at site p.entry r.rdst ≢ Lost
  pub same : has_ack_or_rst p ≡ has_ack_or_rst q
  pub differ : is_accepted (est_of tables p r) ≢ is_accepted (est_of tables q s)

-- the first packet has ACK or RST, is dropped when it is new and accepted in some connection; the second one differs from it
-- in flags alone, has neither, and is dropped in every connection
pub record BreaksByAckAhead (site : Site) (tables : Tables) (p q : Packet) : Type 0 where
  pub arrives : is_host p ≡ false
  pub found : exit_at site p.entry p.dst ≢ Lost
  pub tcp : p.proto ≡ 6
  pub agree : AgreeButFlags p q
  pub acknowledges : has_ack_or_rst p ≡ true
  pub begins : has_ack_or_rst q ≡ false
  pub dropped : new_of tables p ≡ Drop
  pub sometimes : AllOfPacketDropped site tables p → ⊥
  pub always : AllOfPacketDropped site tables q

-- The host on Cisco IOS

-- the host's own new packet isn't accepted as it is
pub record BreaksHost (tables : Tables) (p : Packet) : Type 0 where
  pub host : is_host p ≡ true
  pub changed : new_of tables p ≢ Accept nothing_written

-- a pair of the host is dropped
pub record BreaksHostEstablished (site : Site) (tables : Tables) (p : Packet) (r : Rec) : Type 0 where
  pub host : is_host p ≡ true
  pub dropped : IsDropped site tables p r

-- Clauses

-- the named packets show that the tables don't meet the clause
abbrev pub Breaks : Site → Tables → Clause → Pair → Option Pair → Type 0
Breaks site tables FewOutcomes = NamesPacket site (IsInFirst (ShowLeavesAbove 60000) tables)
Breaks site tables KeepsSourcePorts = NamesPacket site (IsAcceptedWith tables writes_source_port)
Breaks site tables KeepsHostDestinations =
    NamesPacket site (λ p. (is_host p ≡ true) × IsAcceptedWith tables writes_destination p)
Breaks site tables KeepsDeliveredSources =
    NamesPacket site (λ p. IsAcceptedWith tables (λ w. is_delivered (new_exit site p w) && writes_source w) p)
Breaks site tables DropsByOneView = NamesPair site (BreaksByOneView site tables)
Breaks site tables FewRedirects = NamesPacket site (IsInFirst (ShowTooManyRedirects site tables) tables)
Breaks site tables DropsAheadOfLookup = NamesPair site (BreaksAheadOfLookup site tables)
Breaks site tables DropsNoEstablished = NamesPair site (IsDropped site tables)
Breaks site tables OneDestination = NamesPackets site (BreaksOneDestination tables)
Breaks site tables OneHostSource = NamesPackets site (BreaksOneHostSource tables)
Breaks site tables PassesHost = λ first second.
    NamesPacket site (BreaksHost tables) first second ⊎ NamesPair site (BreaksHostEstablished site tables) first second
Breaks site tables KeepsDestinations = NamesPacket site (IsAcceptedWith tables writes_destination)
Breaks site tables WritesInsideOut =
    NamesPacket site (λ p. IsAcceptedWith tables (λ w. writes_source w && not (goes_outside site p w)) p)
Breaks site tables TellsByAckAlone = λ first second.
    NamesPackets site (BreaksByAckNew tables) first second ⊎ NamesPairs site (BreaksByAckEstablished site tables) first second
    ⊎ NamesPackets site (BreaksByAckAhead site tables) first second
Breaks site tables OneSource = NamesPackets site (BreaksOneSource site tables)
Breaks site tables DropsAlways = NamesPair site (BreaksAlways site tables)
Breaks site tables WritesWholeAddresses =
    NamesPacket site (IsAcceptedWith tables (λ w. is_network w.src || is_network w.dst))
