-- Walks through code that was unfolded, and the rules of a configuration that they use.
use Rattle.std.specs.Prelude.{◌≡◌, ℕ, Option, List}
use Rattle.fws_flat.specs.declared.code.Flat.{Flat}
use Rattle.fws_flat.specs.Uses.{used_places}
use Rattle.fws_flat.specs.Walk.{means}
use Rattle.fws_ifcl.specs.declared.diagram.Place.{Place}
use Rattle.fws_ifcl.specs.declared.diagram.Spot.{Spot}
use Rattle.fws_ifcl.specs.Spots.{told as told_by_spots}
use Rattle.fws_net.specs.declared.connection.Kind.{Kind}
use Rattle.fws_net.specs.declared.outcome.Outcome.{Outcome}
use Rattle.fws_net.specs.declared.packet.Packet.{Packet}
use Rattle.fws_net.specs.declared.site.Site.{Site}
use Rattle.fws_trace.specs.PacketText.{IsOfSite}
use Rattle.fws_unfold.specs.Told.{told}

-- the numbers of the rules that a packet's walk through the code uses, by the places for which instructions stand, and the rules that
-- stand at these
abbrev pub used_of : Flat → List (Option Place) → List Spot → Site → Packet → Kind → List ℕ
used_of code from spots site p k = told_by_spots spots (told from (used_places code site p k))

-- the code gives each packet of the site, whatever its class, the outcome of a walk, and tells of it the rules that the walk uses
pub record IsWalkOf (site : Site) (code : Flat) (from : List (Option Place)) (spots : List Spot) (walk : Packet → Kind → Outcome) (used : Packet → Kind → List ℕ) : Type 0 where
  pub walks : (p : Packet) (k : Kind) → IsOfSite site p → means code site p k ≡ walk p k
  pub uses : (p : Packet) (k : Kind) → IsOfSite site p → used_of code from spots site p k ≡ used p k
