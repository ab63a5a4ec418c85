-- What the laws of placement say of the packets of a site whose tables fit.
use Rattle.std.proofs.Common.{Bool}
use Rattle.fws_net.specs.declared.site.Site.{Site}
use Rattle.fws_place.specs.FitLaws.{LostPairsAreDropped}
use Rattle.fws_place.specs.IpfwLaws.{IpfwDropsNewArrivals, IpfwDropsNewHost, IpfwPairsAreTold}
use Rattle.fws_place.specs.Seen.{IsAcceptedAlike, IsAcceptedSomewhere, Tells}
use Rattle.fws_place.specs.TellingLaws.{PointsAreSeen, ViewsAreTold}
use Rattle.fws_place.specs.declared.clause.Clause.TheVariants.{DropsAheadOfLookup}
use Rattle.fws_place.specs.Fits.{Meets}
use Rattle.fws_tree.specs.declared.tables.Tables.{Tables}
use Rattle.fws_tree.specs.Plain.{Plain}
use Rattle.fws_tree.specs.Regular.{AreRegular}
use Rattle.fws_ipfw_put.specs.Known.{Known}

pub known_by : (site : Site) (tables : Tables) (packet behind : Plain Bool) → AreRegular site tables → Meets site tables DropsAheadOfLookup
    → Tells site (λ p r. IsAcceptedSomewhere site tables p) packet → Tells site (IsAcceptedAlike site tables) behind
    → ViewsAreTold → PointsAreSeen → LostPairsAreDropped → IpfwPairsAreTold → IpfwDropsNewArrivals → IpfwDropsNewHost
    → Known site tables packet behind
known_by site tables packet behind regular ahead of_packet of_behind views points lost pairs arrivals own =
    let told = views site tables regular in
    record {
      fresh_told = told.fresh;
      packet_told = told.packet packet of_packet;
      behind_told = told.behind behind of_behind;
      entered = λ p r. (points p r).entered;
      routed = λ p r. (points p r).routed;
      packet_value = λ p r of_site. let at = of_packet.tells p r of_site in (at.0, at.1);
      behind_value = λ p r of_site. let at = of_behind.tells p r of_site in (at.0, at.1);
      told = pairs site tables packet behind regular ahead of_packet of_behind;
      lost = lost site tables regular;
      arrivals = arrivals site tables packet regular ahead of_packet;
      own = own site tables behind regular ahead of_behind;
    }
