-- What a rule sees of the packet of a point.
use Rattle.std.specs.Prelude.{ℕ, ◌+◌, ◌-◌, ◌%◌, ◌^◌, Some, None, List, if◌then◌else◌}
use Rattle.fws_box.specs.declared.field.Field.TheVariants.{Proto, Dst, Dport, Src, Sport, SentDst, SentDport, SentSrc, SentSport}
use Rattle.fws_box.specs.Fields.{value_of}
use Rattle.fws_net.specs.declared.packet.Packet.{Packet}
use Rattle.fws_net.specs.declared.site.Site.{Site}
use Rattle.fws_net.specs.declared.view.View.{View}
use Rattle.fws_net.specs.Connections.{est_port}
use Rattle.fws_net.specs.Fates.{sent_port}
use Rattle.fws_net.specs.Points.{packet_of}
use Rattle.fws_net.specs.Showing.{receiving, sending}
use Rattle.fws_box_conditions.specs.declared.scene.Standing.{Standing}
use Rattle.fws_box_conditions.specs.declared.scene.Standing.TheVariants.{Entered, Written, Tracked}
use Rattle.fws_box_conditions.specs.declared.scene.Scene.{Scene}

-- an address that was a and with which the connection sends r
abbrev pub standing_addr : Standing → ℕ → ℕ → ℕ
standing_addr Entered a r = a
standing_addr (Written e) a r = e.addr + a % 2 ^ (32 - e.len)
standing_addr Tracked a r = r

-- a port that was p and with which the connection sends r
abbrev pub standing_port : Standing → ℕ → ℕ → ℕ → ℕ
standing_port Entered proto p r = p
standing_port (Written e) proto p r = sent_port proto (Some e) p
standing_port Tracked proto p r = est_port proto r p

-- the packet of a point, as it stands
abbrev pub standing_packet : Scene → List ℕ → Packet
standing_packet scene p = record (packet_of p) {
  dst = standing_addr scene.dst (value_of p Dst) (value_of p SentDst);
  dport = standing_port scene.dst (value_of p Proto) (value_of p Dport) (value_of p SentDport);
  src = standing_addr scene.src (value_of p Src) (value_of p SentSrc);
  sport = standing_port scene.src (value_of p Proto) (value_of p Sport) (value_of p SentSport);
}

-- what a rule sees of the packet of a point
abbrev pub view_of : Site → Scene → List ℕ → View
view_of site scene p = record {
  packet = standing_packet scene p;
  recv = if scene.shows_recv then receiving (packet_of p) else None;
  xmit = if scene.shows_xmit then sending site (standing_packet scene p) else None;
  outward = scene.outward;
  est = scene.est;
  tags = scene.tags;
}
