-- A configuration that does what tables say.
use Rattle.std.specs.Prelude.{◌≡◌, Bool, true, ◌&&◌, ◌||◌, not}
use Rattle.std.specs.List.{list_all, list_any}
use Rattle.fws_net.specs.declared.connection.Kind.TheVariants.{New, Est}
use Rattle.fws_net.specs.declared.connection.Rec.{Rec}
use Rattle.fws_net.specs.declared.packet.Packet.{Packet}
use Rattle.fws_net.specs.declared.site.Site.{Site}
use Rattle.fws_pf.specs.declared.config.PfConfig.{PfConfig}
use Rattle.fws_pf.specs.Walk.{walk}
use Rattle.fws_pf_print.specs.Printable.{is_printable, skips_none}
use Rattle.fws_pf_put_filter.specs.Filters.{catches_all}
use Rattle.fws_place.specs.Meaning.{IsPacketOf, IsPairOf, new_of, est_of}
use Rattle.fws_tree.specs.declared.tables.Tables.{Tables}

-- the configuration keeps state where it accepts: no interface is skipped, some rule matches every packet on both passes, and each rule
-- that passes packets keeps state
abbrev pub tracks : Site → PfConfig → Bool
tracks site c = skips_none c.skip && list_any catches_all c.filter && list_all (λ r. not r.pass || r.keep) c.filter

-- the configuration can be printed, keeps state, and gives every packet of the site, new or established, the outcome of the tables
pub record IsPlaced (site : Site) (tables : Tables) (c : PfConfig) : Type 0 where
  pub printable : is_printable site c ≡ true
  pub tracks : tracks site c ≡ true
  pub new : (p : Packet) → IsPacketOf site p → walk c site p New ≡ new_of tables p
  pub established : (p : Packet) (r : Rec) → IsPairOf site p r → walk c site p (Est r) ≡ est_of tables p r
