-- Whether two policies do the same with every packet, or a packet with which they don't.
use Rattle.std.specs.Prelude.{◌≡◌, ◌≢◌, Option, None, Some}
use Rattle.fws_box.specs.Sides.{IsWithin}
use Rattle.fws_net.specs.declared.connection.Kind.{Kind}
use Rattle.fws_net.specs.declared.connection.Kind.TheVariants.{New, Est}
use Rattle.fws_net.specs.declared.connection.Rec.{Rec}
use Rattle.fws_net.specs.declared.outcome.Fate.{Fate}
use Rattle.fws_net.specs.declared.outcome.Outcome.{Outcome}
use Rattle.fws_net.specs.declared.packet.Packet.{Packet}
use Rattle.fws_net.specs.declared.site.Site.{Site}
use Rattle.fws_net.specs.Connections.{fate_in}
use Rattle.fws_net.specs.Points.{tops_of}
use Rattle.fws_trace.specs.Outcomes.{point_of}
use Rattle.fws_dead.specs.declared.compare.Compare.{Compare}
use Rattle.fws_dead.specs.declared.compare.Compare.TheVariants.{Same, Differ}

-- the class of the packet of a pair: new, or established with the ends with which it leaves
abbrev pub class_of : Option Rec → Kind
class_of None = New
class_of (Some ends) = Est ends

-- a packet of the site, of a class with ends for which there is room
abbrev pub IsOfSite : Site → Packet → Kind → Type 0
IsOfSite site p k = IsWithin (tops_of site) (point_of p k)

-- the fate that a meaning gives a packet of a class
abbrev pub fate_by : (Packet → Kind → Outcome) → Packet → Kind → Fate
fate_by means p k = fate_in (means p k) p k

-- two meanings give every packet of the site and every class the same fate
abbrev pub AreSame : Site → (Packet → Kind → Outcome) → (Packet → Kind → Outcome) → Type 0
AreSame site means other = (p : Packet) (k : Kind) → IsOfSite site p k → fate_by means p k ≡ fate_by other p k

-- they give this packet of the site, of this class, these two fates, which differ
pub record AreApart (site : Site) (means other : Packet → Kind → Outcome) (p : Packet) (k : Kind) (first second : Fate) : Type 0 where
  pub of_site : IsOfSite site p k
  pub first_is : first ≡ fate_by means p k
  pub second_is : second ≡ fate_by other p k
  pub differ : first ≢ second

-- what a comparison says of two meanings
abbrev pub IsComparison : Site → (Packet → Kind → Outcome) → (Packet → Kind → Outcome) → Compare → Type 0
IsComparison site means other Same = AreSame site means other
IsComparison site means other (Differ at first second) = AreApart site means other at.packet (class_of at.rec) first second
