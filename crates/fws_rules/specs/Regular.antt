-- Walks that have in common what the walks of all systems have.
use Rattle.std.specs.Prelude.{◌≡◌, ◌≢◌, false, Option, IfSome}
use Rattle.fws_net.specs.declared.packet.Packet.{Packet}
use Rattle.fws_net.specs.declared.outcome.Outcome.{Outcome}
use Rattle.fws_net.specs.declared.outcome.Outcome.TheVariants.{Drop, Accept}
use Rattle.fws_net.specs.declared.outcome.Rewrite.{Rewrite}
use Rattle.fws_net.specs.declared.connection.Rec.{Rec}
use Rattle.fws_net.specs.declared.connection.Kind.{Kind}
use Rattle.fws_net.specs.declared.connection.Kind.TheVariants.{New, Est}
use Rattle.fws_net.specs.declared.exit.Exit.TheVariants.{Lost}
use Rattle.fws_net.specs.declared.site.Site.{Site}
use Rattle.fws_net.specs.declared.transit.Transit.{Transit}
use Rattle.fws_net.specs.Fates.{has_ports, written_addr}
use Rattle.fws_net.specs.RegularWalks.{WritesNoPort, IsRegularWalk}
use Rattle.fws_net.specs.Routes.{exit_at}
use Rattle.fws_net.specs.Transits.{nothing_written, entered, way_by, outcome_of}
use Rattle.fws_rules.specs.Alike.{Alike}
use Rattle.fws_rules.specs.AlikeWays.{AlikeKinds, LeadAlike}

-- packets that differ in nothing that a condition can see have one outcome
abbrev pub GivesAlikeOutcomes : (Packet → Kind → Outcome) → Type 0
GivesAlikeOutcomes walk = (p q : Packet) (k l : Kind) → Alike p q → AlikeKinds p k l → walk p k ≡ walk q l

-- a walk that does so, and for the rest has what regular walks have
pub record IsAlikeWalk (site : Site) (walk : Packet → Kind → Outcome) : Type 0 where
  pub alike : GivesAlikeOutcomes walk
  -- a port is written at protocols that have one alone
  pub written : (p : Packet) (w : Rewrite) → walk p New ≡ Accept w → has_ports p.proto ≡ false → WritesNoPort w
  -- an established packet that is accepted isn't rewritten
  pub unwritten : (p : Packet) (r : Rec) (w : Rewrite) → walk p (Est r) ≡ Accept w → w ≡ nothing_written
  -- a new packet that is accepted leaves
  pub leaves : (p : Packet) (w : Rewrite) → walk p New ≡ Accept w → exit_at site p.entry (written_addr w.dst p.dst) ≢ Lost
  -- an established one is dropped where its exit is lost
  pub lost : (p : Packet) (r : Rec) → exit_at site p.entry r.rdst ≡ Lost → walk p (Est r) ≡ Drop

-- such a walk is regular
abbrev pub AlikeWalksAreRegular : Type 0
AlikeWalksAreRegular = (site : Site) (walk : Packet → Kind → Outcome) → IsAlikeWalk site walk → IsRegularWalk site walk

-- Walks in parts

-- a part of a walk: what becomes of a packet of a class on its way
abbrev pub Part : Type 0
Part = Packet → Kind → Transit → Option Transit

-- the walk whose parts are these: before routing, where a packet is delivered, forwarded, and sent by the host
abbrev pub walk_by : Part → Part → Part → Part → Site → Packet → Kind → Outcome
walk_by arrive deliver forward send site p k = outcome_of k (way_by (arrive p k) (deliver p k) (forward p k) (send p k) site p)

-- no port was written, and the packet that entered as p still has its protocol
pub record IsPortless (p : Packet) (t : Transit) : Type 0 where
  pub proto : t.packet.proto ≡ p.proto
  pub wrote : WritesNoPort t.wrote

-- a part that leads alike packets alike ways, and writes no port where there is none
pub record IsRegularPart (part : Part) : Type 0 where
  pub alike : (p q : Packet) (k l : Kind) → Alike p q → AlikeKinds p k l → LeadAlike p (part p k) (part q l)
  pub portless : (p : Packet) → has_ports p.proto ≡ false → (t : Transit) → IsPortless p t → IfSome (part p New t) (IsPortless p)

-- the destination stands as it was written over that of the packet that entered as p
abbrev pub StandsAsWritten : Packet → Transit → Type 0
StandsAsWritten p t = t.packet.dst ≡ written_addr t.wrote.dst p.dst

-- what is written over the destination is still the same
abbrev pub KeepsDestination : Transit → Transit → Type 0
KeepsDestination t u = u.wrote.dst ≡ t.wrote.dst

-- all parts are regular, and packets are routed by the destination with which they leave
pub record AreRegularParts (arrive deliver forward send : Part) : Type 0 where
  pub arrives : IsRegularPart arrive
  pub delivers : IsRegularPart deliver
  pub forwards : IsRegularPart forward
  pub sends : IsRegularPart send
  -- a new packet by the one that is written so far, and behind routing no other is written
  pub routed : (p : Packet) → IfSome (arrive p New (entered p)) (StandsAsWritten p)
  pub delivered : (p : Packet) (t : Transit) → IfSome (deliver p New t) (KeepsDestination t)
  pub forwarded : (p : Packet) (t : Transit) → IfSome (forward p New t) (KeepsDestination t)
  -- an established one by that of its connection
  pub tracked : (p : Packet) (r : Rec) → IfSome (arrive p (Est r) (entered p)) (λ t. t.packet.dst ≡ r.rdst)

-- a walk in regular parts is such a walk
abbrev pub RegularPartsMakeAlikeWalks : Type 0
RegularPartsMakeAlikeWalks =
    (site : Site) (arrive deliver forward send : Part) → AreRegularParts arrive deliver forward send → IsAlikeWalk site (walk_by arrive deliver forward send site)
