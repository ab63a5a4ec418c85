-- Laws of tables that fit Cisco IOS.
use Rattle.std.specs.Prelude.{◌≡◌, ◌≢◌, ◌⊎◌, ◌↔◌, Bool, true, false, None, Some}
use Rattle.fws_net.specs.declared.connection.Rec.{Rec}
use Rattle.fws_net.specs.declared.exit.Exit.TheVariants.{Lost}
use Rattle.fws_net.specs.declared.outcome.End.{End}
use Rattle.fws_net.specs.declared.outcome.Outcome.TheVariants.{Drop, Accept}
use Rattle.fws_net.specs.declared.outcome.Rewrite.{Rewrite}
use Rattle.fws_net.specs.declared.packet.Lang.TheVariants.{Ios}
use Rattle.fws_net.specs.declared.packet.Packet.{Packet}
use Rattle.fws_net.specs.declared.site.Site.{Site}
use Rattle.fws_net.specs.Routes.{exit_at}
use Rattle.fws_net.specs.Transits.{nothing_written}
use Rattle.fws_tree.specs.declared.tables.Tables.{Tables}
use Rattle.fws_tree.specs.Regular.{AreRegular}
use Rattle.fws_place.specs.Clauses.{AgreeButEntryAndFlags, AgreeButFlags, has_ack_or_rst}
use Rattle.fws_place.specs.Fits.{Fits}
use Rattle.fws_place.specs.Meaning.{IsPacketOf, IsPairOf, est_of, new_of}
use Rattle.fws_place.specs.Pairs.{IsLost, is_host}
use Rattle.fws_place.specs.Rewritings.{goes_outside, is_accepted, is_delivered, new_exit, writes_source_port}
use Rattle.fws_place.specs.Seen.{IsAcceptedSomewhere}

-- the host's own packets pass as they are, new or established
abbrev pub IosHostPasses : Type 0
IosHostPasses = (site : Site) (tables : Tables) → AreRegular site tables → Fits Ios site tables → (p : Packet) → IsPacketOf site p → is_host p ≡ true
    → (new_of tables p ≡ Accept nothing_written) × ((r : Rec) → IsPairOf site p r → est_of tables p r ≡ Accept nothing_written)

-- an arriving pair is lost and dropped, or its packet alone tells what becomes of it: it is accepted with nothing written
-- where its packet is accepted in some connection, and else dropped
abbrev pub IosPairsAreTold : Type 0
IosPairsAreTold = (site : Site) (tables : Tables) → AreRegular site tables → Fits Ios site tables → (p : Packet) (r : Rec) → IsPairOf site p r
    → is_host p ≡ false
    → (IsLost site p r × (est_of tables p r ≡ Drop))
    ⊎ (IsAcceptedSomewhere site tables p × (est_of tables p r ≡ Accept nothing_written))
    ⊎ ((IsAcceptedSomewhere site tables p → ⊥) × (est_of tables p r ≡ Drop))

-- an arriving packet that is accepted when it is new is accepted in some connection
abbrev pub IosAcceptedGoOn : Type 0
IosAcceptedGoOn = (site : Site) (tables : Tables) → AreRegular site tables → Fits Ios site tables → (p : Packet) (w : Rewrite) → IsPacketOf site p
    → is_host p ≡ false
    → new_of tables p ≡ Accept w → IsAcceptedSomewhere site tables p

-- what is kept of a new packet that is accepted with this rewriting
pub record IsKeptByIos (site : Site) (p : Packet) (w : Rewrite) : Type 0 where
  -- no destination is written, no source port, and no network over a source
  pub dst : w.dst ≡ None
  pub port : writes_source_port w ≡ false
  pub whole : (e : End) → w.src ≡ Some e → e.len ≡ 32
  -- a source is written from the inside to the outside alone, and not over what is delivered
  pub crosses : (e : End) → w.src ≡ Some e → goes_outside site p w ≡ true
  pub delivered : is_delivered (new_exit site p w) ≡ true → w.src ≡ None
  -- it leaves
  pub leaves : new_exit site p w ≢ Lost

abbrev pub IosKeepsNewPackets : Type 0
IosKeepsNewPackets = (site : Site) (tables : Tables) → AreRegular site tables → Fits Ios site tables → (p : Packet) (w : Rewrite) → IsPacketOf site p
    → new_of tables p ≡ Accept w → IsKeptByIos site p w

-- of arriving packets that differ in flags alone ACK or RST tells which are accepted when they are new
abbrev pub IosNewByAck : Type 0
IosNewByAck = (site : Site) (tables : Tables) → AreRegular site tables → Fits Ios site tables → (p q : Packet) → IsPacketOf site p → IsPacketOf site q
    → is_host p ≡ false
    → AgreeButFlags p q → has_ack_or_rst p ≡ has_ack_or_rst q → is_accepted (new_of tables p) ≡ is_accepted (new_of tables q)

-- and which are accepted in some connection
abbrev pub IosEstablishedByAck : Type 0
IosEstablishedByAck = (site : Site) (tables : Tables) → AreRegular site tables → Fits Ios site tables → (p q : Packet) → IsPacketOf site p → IsPacketOf site q
    → is_host p ≡ false → AgreeButFlags p q → has_ack_or_rst p ≡ has_ack_or_rst q → IsAcceptedSomewhere site tables p → IsAcceptedSomewhere site tables q

-- where a segment with ACK or RST that isn't lost is dropped when it is new and accepted in some connection, one that differs
-- from it in flags alone and has neither is accepted in some connection, if it is decided whether it is
abbrev pub IosAckAhead : Type 0
IosAckAhead = (site : Site) (tables : Tables) → AreRegular site tables → Fits Ios site tables → (p q : Packet) (b : Bool) → IsPacketOf site p
    → IsPacketOf site q
    → is_host p ≡ false → exit_at site p.entry p.dst ≢ Lost → p.proto ≡ 6 → AgreeButFlags p q → has_ack_or_rst p ≡ true → has_ack_or_rst q ≡ false
    → new_of tables p ≡ Drop → IsAcceptedSomewhere site tables p → ((b ≡ true) ↔ IsAcceptedSomewhere site tables q) → IsAcceptedSomewhere site tables q

-- packets from the inside to the outside that agree in all but entries and flags and are accepted get the same source
abbrev pub IosSourcesAgree : Type 0
IosSourcesAgree = (site : Site) (tables : Tables) → AreRegular site tables → Fits Ios site tables → (p q : Packet) (v w : Rewrite) → IsPacketOf site p
    → IsPacketOf site q
    → AgreeButEntryAndFlags p q → new_of tables p ≡ Accept v → new_of tables q ≡ Accept w → goes_outside site p v ≡ true → goes_outside site q w ≡ true
    → v.src ≡ w.src
