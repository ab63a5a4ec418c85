-- What is known of tables that fit Cisco IOS.
use Rattle.std.proofs.Common.{◌≡◌, ◌⊎◌, Bool, true, false}
use Rattle.std.specs.Prelude.{◌≢◌, ◌↔◌}
use Rattle.fws_net.specs.declared.connection.Rec.{Rec}
use Rattle.fws_net.specs.declared.exit.Exit.TheVariants.{Lost}
use Rattle.fws_net.specs.declared.outcome.Outcome.TheVariants.{Drop, Accept}
use Rattle.fws_net.specs.declared.outcome.Rewrite.{Rewrite}
use Rattle.fws_net.specs.declared.packet.Packet.{Packet}
use Rattle.fws_net.specs.declared.site.Site.{Site}
use Rattle.fws_net.specs.Routes.{exit_at}
use Rattle.fws_net.specs.Transits.{nothing_written}
use Rattle.fws_tree.specs.declared.tables.Tables.{Tables}
use Rattle.fws_place.specs.Clauses.{AgreeButFlags, has_ack_or_rst}
use Rattle.fws_place.specs.IosLaws.{IsKeptByIos}
use Rattle.fws_place.specs.Meaning.{IsPacketOf, IsPairOf, est_of, new_of}
use Rattle.fws_place.specs.Pairs.{IsLost, is_host}
use Rattle.fws_place.specs.Rewritings.{is_accepted}
use Rattle.fws_place.specs.Seen.{IsAcceptedSomewhere}

-- an arriving pair is lost and dropped, or accepted just where some pair of its packet is
abbrev pub IsToldPair : Site → Tables → Packet → Rec → Type 0
IsToldPair site tables p r =
    (IsLost site p r × (est_of tables p r ≡ Drop))
    ⊎ (IsAcceptedSomewhere site tables p × (est_of tables p r ≡ Accept nothing_written))
    ⊎ ((IsAcceptedSomewhere site tables p → ⊥) × (est_of tables p r ≡ Drop))

pub record Known (site : Site) (tables : Tables) : Type 0 where
  pub host : (p : Packet) → IsPacketOf site p → is_host p ≡ true
      → (new_of tables p ≡ Accept nothing_written) × ((r : Rec) → IsPairOf site p r → est_of tables p r ≡ Accept nothing_written)
  pub pairs : (p : Packet) (r : Rec) → IsPairOf site p r → is_host p ≡ false → IsToldPair site tables p r
  pub goes_on : (p : Packet) (w : Rewrite) → IsPacketOf site p → is_host p ≡ false → new_of tables p ≡ Accept w → IsAcceptedSomewhere site tables p
  pub kept : (p : Packet) (w : Rewrite) → IsPacketOf site p → new_of tables p ≡ Accept w → IsKeptByIos site p w
  pub lost : (p : Packet) (r : Rec) → IsPairOf site p r → IsLost site p r → est_of tables p r ≡ Drop
  pub new_by_ack : (p q : Packet) → IsPacketOf site p → IsPacketOf site q → is_host p ≡ false → AgreeButFlags p q → has_ack_or_rst p ≡ has_ack_or_rst q
      → is_accepted (new_of tables p) ≡ is_accepted (new_of tables q)
  pub known_by_ack : (p q : Packet) → IsPacketOf site p → IsPacketOf site q → is_host p ≡ false → AgreeButFlags p q → has_ack_or_rst p ≡ has_ack_or_rst q
      → IsAcceptedSomewhere site tables p → IsAcceptedSomewhere site tables q
  pub ahead : (p q : Packet) (b : Bool) → IsPacketOf site p → IsPacketOf site q → is_host p ≡ false → (exit_at site p.entry p.dst ≢ Lost) → p.proto ≡ 6
      → AgreeButFlags p q → has_ack_or_rst p ≡ true → has_ack_or_rst q ≡ false → new_of tables p ≡ Drop → IsAcceptedSomewhere site tables p
      → ((b ≡ true) ↔ IsAcceptedSomewhere site tables q) → IsAcceptedSomewhere site tables q
