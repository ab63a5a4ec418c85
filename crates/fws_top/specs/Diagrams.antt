-- What a control diagram does with the packets of a site.
use Rattle.std.specs.Prelude.{◌≡◌, List}
use Rattle.fws_ifcl.specs.declared.diagram.Ifcl.{Ifcl}
use Rattle.fws_ifcl.specs.declared.diagram.Spot.{Spot}
use Rattle.fws_ifcl.specs.Spots.{told}
use Rattle.fws_ifcl.specs.Uses.{used_places}
use Rattle.fws_ifcl.specs.Walk.{means}
use Rattle.fws_net.specs.declared.connection.Kind.{Kind}
use Rattle.fws_net.specs.declared.packet.Packet.{Packet}
use Rattle.fws_net.specs.declared.site.Site.{Site}
use Rattle.fws_top.specs.Judged.{IsPacketOf}
use Rattle.fws_top.specs.Walked.{Uses, Walk}

-- the diagram does what the walk says
abbrev pub Draws : Ifcl → Site → Walk → Type 0
Draws d site walk = (p : Packet) (k : Kind) → IsPacketOf site p → means d site p k ≡ walk p k

-- the rules at the places that a packet uses, by these spots, are those that it uses
abbrev pub ShowsUses : Ifcl → List Spot → Site → Uses → Type 0
ShowsUses d spots site used = (p : Packet) (k : Kind) → IsPacketOf site p → told spots (used_places d site p k) ≡ used p k
