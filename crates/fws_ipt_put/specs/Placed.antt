-- A configuration that does what tables say.
use Rattle.std.specs.Prelude.{◌≡◌, true, Bool}
use Rattle.fws_ipt.specs.declared.config.IptConfig.{IptConfig}
use Rattle.fws_ipt.specs.Walk.{walk}
use Rattle.fws_ipt_print.specs.Printable.{is_printable}
use Rattle.fws_net.specs.declared.connection.Kind.TheVariants.{New, Est}
use Rattle.fws_net.specs.declared.connection.Rec.{Rec}
use Rattle.fws_net.specs.declared.packet.Packet.{Packet}
use Rattle.fws_net.specs.declared.site.Site.{Site}
use Rattle.fws_place.specs.Meaning.{IsPacketOf, IsPairOf, new_of, est_of}
use Rattle.fws_tree.specs.declared.tables.Tables.{Tables}

-- every configuration of iptables keeps state where it accepts
abbrev pub tracks : Site → IptConfig → Bool
tracks site c = true

-- the configuration can be printed, keeps state, and gives every packet of the site, new or established, the outcome of the tables
pub record IsPlaced (site : Site) (tables : Tables) (c : IptConfig) : Type 0 where
  pub printable : is_printable site c ≡ true
  pub tracks : tracks site c ≡ true
  pub new : (p : Packet) → IsPacketOf site p → walk c site p New ≡ new_of tables p
  pub established : (p : Packet) (r : Rec) → IsPairOf site p r → walk c site p (Est r) ≡ est_of tables p r
