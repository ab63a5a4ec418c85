-- A configuration that does what tables say.
use Rattle.std.specs.Prelude.{◌≡◌, ℕ, Bool, true, false, ◌&&◌, ◌||◌, not, Some, is_some, List}
use Rattle.std.specs.List.{list_all, range_with_len}
use Rattle.std.specs.Option.{option_map_or}
use Rattle.fws_net.specs.declared.connection.Kind.TheVariants.{New, Est}
use Rattle.fws_net.specs.declared.connection.Rec.{Rec}
use Rattle.fws_net.specs.declared.packet.Packet.{Packet}
use Rattle.fws_net.specs.declared.site.Site.{Site}
use Rattle.fws_ios.specs.declared.config.IosConfig.{IosConfig}
use Rattle.fws_ios.specs.declared.config.IosEntry.{IosEntry}
use Rattle.fws_ios.specs.declared.config.IosGroup.{IosGroup}
use Rattle.fws_ios.specs.declared.config.IosList.{IosList}
use Rattle.fws_ios.specs.Walk.{group_at, list_named, walk}
use Rattle.fws_ios_print.specs.Printable.{face_count, is_printable, is_state}
use Rattle.fws_place.specs.Meaning.{IsPacketOf, IsPairOf, new_of, est_of}
use Rattle.fws_tree.specs.declared.tables.Tables.{Tables}

-- an entry that permits packets keeps state, unless it is the one for packets of connections
abbrev pub keeps_state : IosEntry → Bool
keeps_state e = not e.permit || (e.reflect || is_state e.cond)

-- the list that is applied is defined, and each of its entries keeps state
abbrev pub is_keeping : List IosList → IosGroup → Bool
is_keeping lists g = option_map_or (λ l. list_all keeps_state l.entries) (list_named g.list lists) false

-- packets that come in by the interface meet a list
abbrev pub is_guarded : List IosGroup → ℕ → Bool
is_guarded groups face = is_some (group_at false (Some face) groups)

-- the configuration keeps state of what it permits: at each interface and at loopback packets that come in meet a list, and each
-- list that is applied is defined and keeps state
abbrev pub tracks : Site → IosConfig → Bool
tracks site c = list_all (is_guarded c.groups) (range_with_len 1 (face_count site)) && list_all (is_keeping c.lists) c.groups

-- the configuration can be printed, keeps state, and gives every packet of the site, new or established, the outcome of the tables
pub record IsPlaced (site : Site) (tables : Tables) (c : IosConfig) : Type 0 where
  pub printable : is_printable site c ≡ true
  pub tracks : tracks site c ≡ true
  pub new : (p : Packet) → IsPacketOf site p → walk c site p New ≡ new_of tables p
  pub established : (p : Packet) (r : Rec) → IsPairOf site p r → walk c site p (Est r) ≡ est_of tables p r
