-- What rules can tell of established packets: which of them are accepted for some connection, and which look like one that is.
use Rattle.std.specs.Prelude.{◌≡◌, ◌≢◌, ◌↔◌, Bool, Some, true}
use Rattle.fws_net.specs.declared.connection.Rec.{Rec}
use Rattle.fws_net.specs.declared.outcome.Outcome.TheVariants.{Drop}
use Rattle.fws_net.specs.declared.packet.Packet.{Packet}
use Rattle.fws_net.specs.declared.site.Site.{Site}
use Rattle.fws_tree.specs.declared.tables.Tables.{Tables}
use Rattle.fws_tree.specs.Plain.{Plain, value}
use Rattle.fws_place.specs.Meaning.{IsPairOf, est_of, point_of}
use Rattle.fws_place.specs.Pairs.{LookAlike}

-- the pair is accepted
abbrev pub IsAcceptedPair : Tables → Packet → Rec → Type 0
IsAcceptedPair tables p r = est_of tables p r ≢ Drop

-- some connection sends the packet so that it is accepted
pub record IsAcceptedSomewhere (site : Site) (tables : Tables) (p : Packet) : Type 0 where
  pub ends : Rec
  pub of_site : IsPairOf site p ends
  pub accepted : est_of tables p ends ≢ Drop

-- some pair that looks like this one is accepted
pub record IsAcceptedAlike (site : Site) (tables : Tables) (p : Packet) (r : Rec) : Type 0 where
  pub other : Packet
  pub ends : Rec
  pub of_site : IsPairOf site other ends
  pub alike : LookAlike p r other ends
  pub accepted : est_of tables other ends ≢ Drop

-- the tree tells of each pair whether it has a property
pub record Tells (site : Site) (P : Packet → Rec → Type 0) (t : Plain Bool) : Type 0 where
  pub tells : (p : Packet) (r : Rec) → IsPairOf site p r → (b : Bool) × (value t (point_of p r) ≡ Some b) × ((b ≡ true) ↔ P p r)
