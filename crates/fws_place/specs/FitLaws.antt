-- Laws of placement conditions.
use Rattle.std.specs.Prelude.{◌≡◌, ◌↔◌, Bool, ◌&&◌, Some, List, ℕ, if◌then◌else◌}
use Rattle.fws_box.specs.Sides.{IsWithin}
use Rattle.fws_net.specs.declared.connection.Rec.{Rec}
use Rattle.fws_net.specs.declared.outcome.Outcome.TheVariants.{Drop, Accept}
use Rattle.fws_net.specs.declared.packet.Lang.{Lang}
use Rattle.fws_net.specs.declared.packet.Packet.{Packet}
use Rattle.fws_net.specs.declared.site.Site.{Site}
use Rattle.fws_net.specs.Points.{tops_of, packet_of}
use Rattle.fws_net.specs.Transits.{nothing_written}
use Rattle.fws_tree.specs.declared.tables.Tables.{Tables}
use Rattle.fws_tree.specs.Plain.{Plain, value}
use Rattle.fws_tree.specs.Regular.{AreRegular}
use Rattle.fws_place.specs.declared.breach.Breach.{Breach}
use Rattle.fws_place.specs.declared.clause.Clause.TheVariants.{DropsByOneView}
use Rattle.fws_place.specs.Fits.{Fits, IsBreach, Meets}
use Rattle.fws_place.specs.Meaning.{IsPairOf, est_of, point_of, rec_of}
use Rattle.fws_place.specs.Pairs.{IsLost}
use Rattle.fws_place.specs.Seen.{IsAcceptedPair, IsAcceptedSomewhere, IsAcceptedAlike, Tells}

-- tables of which a clause is broken don't fit
abbrev pub BreachesRefuteFits : Type 0
BreachesRefuteFits = (target : Lang) (site : Site) (tables : Tables) (b : Breach) → IsBreach target site tables b → Fits target site tables → ⊥

-- where pairs are dropped by one view, a pair that isn't lost is accepted exactly where both views accept
abbrev pub FittingDropsAreSeen : Type 0
FittingDropsAreSeen = (site : Site) (tables : Tables) → AreRegular site tables → Meets site tables DropsByOneView
    → (p : Packet) (r : Rec) → IsPairOf site p r → (IsLost site p r → ⊥)
    → IsAcceptedPair tables p r ↔ (IsAcceptedSomewhere site tables p × IsAcceptedAlike site tables p r)

-- and trees that tell of both views tell the outcome
abbrev pub FittingPairsAreTold : Type 0
FittingPairsAreTold = (site : Site) (tables : Tables) (packet behind : Plain Bool) → AreRegular site tables → Meets site tables DropsByOneView
    → Tells site (λ p r. IsAcceptedSomewhere site tables p) packet → Tells site (IsAcceptedAlike site tables) behind
    → (p : Packet) (r : Rec) (b c : Bool) → IsPairOf site p r → (IsLost site p r → ⊥)
    → value packet (point_of p r) ≡ Some b → value behind (point_of p r) ≡ Some c
    → est_of tables p r ≡ (if b && c then Accept nothing_written else Drop)

-- lost pairs are dropped
abbrev pub LostPairsAreDropped : Type 0
LostPairsAreDropped = (site : Site) (tables : Tables) → AreRegular site tables → (p : Packet) (r : Rec) → IsPairOf site p r → IsLost site p r
    → est_of tables p r ≡ Drop

-- a point of a site is that of its packet and its ends
abbrev pub PointsAreOfPairs : Type 0
PointsAreOfPairs = (site : Site) (q : List ℕ) → IsWithin (tops_of site) q → point_of (packet_of q) (rec_of q) ≡ q
