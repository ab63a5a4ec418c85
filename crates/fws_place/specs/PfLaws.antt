-- Laws of tables that fit pf.
use Rattle.std.specs.Prelude.{◌≡◌, ◌≢◌, ◌⊎◌, true, false, None}
use Rattle.fws_net.specs.declared.connection.Rec.{Rec}
use Rattle.fws_net.specs.declared.exit.Exit.TheVariants.{Lost}
use Rattle.fws_net.specs.declared.outcome.Outcome.TheVariants.{Drop, Accept}
use Rattle.fws_net.specs.declared.outcome.Rewrite.{Rewrite}
use Rattle.fws_net.specs.declared.packet.Lang.TheVariants.{Pf}
use Rattle.fws_net.specs.declared.packet.Packet.{Packet}
use Rattle.fws_net.specs.declared.site.Site.{Site}
use Rattle.fws_net.specs.Fates.{has_ports}
use Rattle.fws_net.specs.RegularWalks.{WritesNoPort}
use Rattle.fws_net.specs.Transits.{nothing_written}
use Rattle.fws_tree.specs.declared.tables.Tables.{Tables}
use Rattle.fws_tree.specs.Regular.{AreRegular}
use Rattle.fws_place.specs.Clauses.{AgreeButFlagsAndType}
use Rattle.fws_place.specs.Fits.{Fits}
use Rattle.fws_place.specs.Meaning.{IsPacketOf, IsPairOf, est_of, new_of}
use Rattle.fws_place.specs.Pairs.{IsLost, is_host}
use Rattle.fws_place.specs.Rewritings.{is_delivered, new_exit, writes_source_port}

-- a pair is lost and dropped, or it is accepted and nothing is written
abbrev pub PfPairsPass : Type 0
PfPairsPass = (site : Site) (tables : Tables) → AreRegular site tables → Fits Pf site tables → (p : Packet) (r : Rec) → IsPairOf site p r
    → (IsLost site p r × (est_of tables p r ≡ Drop)) ⊎ (est_of tables p r ≡ Accept nothing_written)

-- packets that arrive, agree in all but flags and ICMP types and are accepted get the same destination
abbrev pub PfDestinationsAgree : Type 0
PfDestinationsAgree = (site : Site) (tables : Tables) → Fits Pf site tables → (p q : Packet) (v w : Rewrite) → IsPacketOf site p → IsPacketOf site q
    → is_host p ≡ false → AgreeButFlagsAndType p q → new_of tables p ≡ Accept v → new_of tables q ≡ Accept w → v.dst ≡ w.dst

-- packets of the host that agree in all but flags and ICMP types and are accepted get the same source
abbrev pub PfHostSourcesAgree : Type 0
PfHostSourcesAgree = (site : Site) (tables : Tables) → Fits Pf site tables → (p q : Packet) (v w : Rewrite) → IsPacketOf site p → IsPacketOf site q
    → is_host p ≡ true → AgreeButFlagsAndType p q → new_of tables p ≡ Accept v → new_of tables q ≡ Accept w → v.src ≡ w.src

-- what is kept of a new packet that is accepted with this rewriting
pub record IsKeptByPf (site : Site) (p : Packet) (w : Rewrite) : Type 0 where
  -- no source port is written; one of the host keeps its destination, and one that is delivered its source
  pub source_port : writes_source_port w ≡ false
  pub host : is_host p ≡ true → w.dst ≡ None
  pub delivered : is_delivered (new_exit site p w) ≡ true → w.src ≡ None
  -- a port is written at protocols that have one alone
  pub ports : has_ports p.proto ≡ false → WritesNoPort w
  -- it leaves
  pub leaves : new_exit site p w ≢ Lost

abbrev pub PfKeepsNewPackets : Type 0
PfKeepsNewPackets = (site : Site) (tables : Tables) → AreRegular site tables → Fits Pf site tables → (p : Packet) (w : Rewrite) → IsPacketOf site p
    → new_of tables p ≡ Accept w → IsKeptByPf site p w
