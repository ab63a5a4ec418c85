-- Laws of what ipfw's placement condition says of dropped packets.
use Rattle.std.specs.Prelude.{◌≡◌, Bool, true, false, ◌&&◌, ◌||◌, Some, if◌then◌else◌}
use Rattle.fws_net.specs.declared.connection.Rec.{Rec}
use Rattle.fws_net.specs.declared.outcome.Outcome.TheVariants.{Drop, Accept}
use Rattle.fws_net.specs.declared.packet.Packet.{Packet}
use Rattle.fws_net.specs.declared.site.Site.{Site}
use Rattle.fws_net.specs.Transits.{nothing_written}
use Rattle.fws_tree.specs.declared.tables.Tables.{Tables}
use Rattle.fws_tree.specs.Plain.{Plain, value}
use Rattle.fws_tree.specs.Regular.{AreRegular}
use Rattle.fws_place.specs.declared.clause.Clause.TheVariants.{DropsAheadOfLookup}
use Rattle.fws_place.specs.AheadOfLookup.{stays}
use Rattle.fws_place.specs.Fits.{Meets}
use Rattle.fws_place.specs.Meaning.{IsPairOf, est_of, new_of, point_of}
use Rattle.fws_place.specs.Pairs.{IsLost, is_host, with_destination}
use Rattle.fws_place.specs.Seen.{IsAcceptedSomewhere, IsAcceptedAlike, Tells}

-- where ipfw can drop all dropped pairs, the trees that tell of both views tell the outcome of a pair that isn't lost: the
-- packet as it entered that of what arrives, and the view behind routing that of all but what is delivered
abbrev pub IpfwPairsAreTold : Type 0
IpfwPairsAreTold = (site : Site) (tables : Tables) (packet behind : Plain Bool) → AreRegular site tables → Meets site tables DropsAheadOfLookup
    → Tells site (λ p r. IsAcceptedSomewhere site tables p) packet → Tells site (IsAcceptedAlike site tables) behind
    → (p : Packet) (r : Rec) (b c : Bool) → IsPairOf site p r → (IsLost site p r → ⊥)
    → value packet (point_of p r) ≡ Some b → value behind (point_of p r) ≡ Some c
    → est_of tables p r ≡ (if (is_host p || b) && (stays site p r || c) then Accept nothing_written else Drop)

-- a packet that arrives and is accepted in no connection is dropped when it is new
abbrev pub IpfwDropsNewArrivals : Type 0
IpfwDropsNewArrivals = (site : Site) (tables : Tables) (packet : Plain Bool) → AreRegular site tables → Meets site tables DropsAheadOfLookup
    → Tells site (λ p r. IsAcceptedSomewhere site tables p) packet
    → (p : Packet) (r : Rec) → IsPairOf site p r → is_host p ≡ false → value packet (point_of p r) ≡ Some false → new_of tables p ≡ Drop

-- a packet of the host with the destination of the connection in place, as which no pair that is accepted looks, is dropped
-- when it is new
abbrev pub IpfwDropsNewHost : Type 0
IpfwDropsNewHost = (site : Site) (tables : Tables) (behind : Plain Bool) → AreRegular site tables → Meets site tables DropsAheadOfLookup
    → Tells site (IsAcceptedAlike site tables) behind
    → (p : Packet) (r : Rec) → IsPairOf site p r → is_host p ≡ true → value behind (point_of p r) ≡ Some false
    → new_of tables (with_destination r p) ≡ Drop
