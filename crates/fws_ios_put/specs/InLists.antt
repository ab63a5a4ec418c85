-- Lists that packets meet as they come in.
use Rattle.std.specs.Prelude.{◌≡◌, ◌≢◌, ℕ, ◌≤◌, ◌+◌, true, false, None, Some, Option, List, length}
use Rattle.std.specs.List.{list_all}
use Rattle.fws_iv.specs.Ivs.{has}
use Rattle.fws_net.specs.declared.connection.Kind.TheVariants.{New, Est}
use Rattle.fws_net.specs.declared.connection.Rec.{Rec}
use Rattle.fws_net.specs.declared.exit.Exit.TheVariants.{Lost}
use Rattle.fws_net.specs.declared.outcome.Outcome.TheVariants.{Accept}
use Rattle.fws_net.specs.declared.outcome.Rewrite.{Rewrite}
use Rattle.fws_net.specs.declared.packet.Packet.{Packet}
use Rattle.fws_net.specs.declared.site.Site.{Site}
use Rattle.fws_net.specs.declared.transit.Transit.{Transit}
use Rattle.fws_net.specs.Routes.{exit_at}
use Rattle.fws_net.specs.Transits.{entered, nothing_written}
use Rattle.fws_ios.specs.declared.config.IosConfig.{IosConfig}
use Rattle.fws_ios.specs.declared.config.IosEntry.{IosEntry}
use Rattle.fws_ios.specs.declared.config.IosGroup.{IosGroup}
use Rattle.fws_ios.specs.declared.config.IosList.{IosList}
use Rattle.fws_ios.specs.Walk.{group_at, list_named, permits, source_end}
use Rattle.fws_ios_print.specs.Printable.{has_entries, is_printed_entry, is_printed_nat}
use Rattle.fws_place.specs.Meaning.{IsPacketOf, IsPairOf, est_of, new_of}
use Rattle.fws_place.specs.Rewritings.{goes_outside, is_accepted, is_inside, is_outside, side_of}
use Rattle.fws_tree.specs.declared.tables.Tables.{Tables}
use Rattle.fws_ios_put.specs.Placed.{keeps_state}

-- entries that permit just what the tables accept of the packets that come in by this entry, wherever these aren't lost; what they
-- say of lost packets doesn't count
pub record IsInList (site : Site) (tables : Tables) (entry : ℕ) (entries : List IosEntry) : Type 0 where
  pub some : has_entries entries ≡ true
  pub printed : list_all is_printed_entry entries ≡ true
  pub keeps : list_all keeps_state entries ≡ true
  pub new : (p : Packet) → IsPacketOf site p → p.entry ≡ entry → exit_at site entry p.dst ≢ Lost
      → permits site New false entries (entered p) ≡ is_accepted (new_of tables p)
  pub established : (p : Packet) (r : Rec) → IsPairOf site p r → p.entry ≡ entry → exit_at site entry r.rdst ≢ Lost
      → permits site (Est r) false entries (entered p) ≡ is_accepted (est_of tables p r)

-- packets that come in by the entry meet a list that is defined, and decides as the tables do
pub record IsGuarded (site : Site) (tables : Tables) (c : IosConfig) (entry : ℕ) : Type 0 where
  pub group : IosGroup
  pub l : IosList
  pub applied : group_at false (Some entry) c.groups ≡ Some group
  pub defined : list_named group.list c.lists ≡ Some l
  pub decides : IsInList site tables entry l.entries

-- packets meet a list as they come in by any entry and none as they go out, and get sources from the inside to the outside
pub record IsLaidOut (site : Site) (tables : Tables) (c : IosConfig) : Type 0 where
  pub inward : (entry : ℕ) → 1 ≤ entry → entry ≤ length site.faces + 1 → IsGuarded site tables c entry
  pub outward : (face : Option ℕ) → group_at true face c.groups ≡ None
  pub inside : (n : ℕ) → has c.inside n ≡ is_inside (side_of site n)
  pub outside : (n : ℕ) → has c.outside n ≡ is_outside (side_of site n)
  pub nats : list_all is_printed_nat c.nats ≡ true
  pub sources : (p : Packet) (w : Rewrite) → IsPacketOf site p → new_of tables p ≡ Accept w → goes_outside site p nothing_written ≡ true
      → (m : Transit) → m.packet ≡ p → source_end c site New m ≡ w.src
