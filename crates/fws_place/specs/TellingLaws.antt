-- Laws of what rules can tell.
use Rattle.std.specs.Prelude.{Bool}
use Rattle.fws_net.specs.declared.connection.Rec.{Rec}
use Rattle.fws_net.specs.declared.packet.Packet.{Packet}
use Rattle.fws_net.specs.declared.site.Site.{Site}
use Rattle.fws_net.specs.Points.{tops_of}
use Rattle.fws_net.specs.Transits.{with_rec_dst}
use Rattle.fws_tree.specs.declared.tables.Tables.{Tables}
use Rattle.fws_tree.specs.Plain.{Plain}
use Rattle.fws_tree.specs.Regular.{AreRegular}
use Rattle.fws_tree_seen.specs.declared.seen.Seen.TheVariants.{Entered, Routed}
use Rattle.fws_tree_seen.specs.Shown.{IsSeenAs, IsTold}
use Rattle.fws_place.specs.Meaning.{point_of}
use Rattle.fws_place.specs.Seen.{IsAcceptedAlike, IsAcceptedSomewhere, Tells}

-- rules can tell by a packet as it enters what becomes of it where it is new, and whether it is accepted in some connection;
-- and behind routing whether some pair that looks like its own is accepted
pub record AreTold (site : Site) (tables : Tables) : Type 0 where
  pub fresh : IsTold Entered (tops_of site) tables.fresh.1
  pub packet : (t : Plain Bool) → Tells site (λ p r. IsAcceptedSomewhere site tables p) t → IsTold Entered (tops_of site) t
  pub behind : (t : Plain Bool) → Tells site (IsAcceptedAlike site tables) t → IsTold Routed (tops_of site) t

-- of regular tables rules can tell so much
abbrev pub ViewsAreTold : Type 0
ViewsAreTold = (site : Site) (tables : Tables) → AreRegular site tables → AreTold site tables

-- the packet of a pair is seen as the pair's point: as it enters, and with the destination of its connection behind routing
pub record IsSeen (p : Packet) (r : Rec) : Type 0 where
  pub entered : IsSeenAs Entered p (point_of p r)
  pub routed : IsSeenAs Routed (with_rec_dst r p) (point_of p r)

-- each pair's packet is seen so
abbrev pub PointsAreSeen : Type 0
PointsAreSeen = (p : Packet) (r : Rec) → IsSeen p r
