-- Configurations whose tags are the numbers of states, which do what tables say.
use Rattle.std.specs.Prelude.{◌≡◌, ℕ, true, List}
use Rattle.std.specs.List.{list_all, list_any}
use Rattle.fws_net.specs.declared.connection.Kind.TheVariants.{New, Est}
use Rattle.fws_net.specs.declared.connection.Rec.{Rec}
use Rattle.fws_net.specs.declared.outcome.Outcome.{Outcome}
use Rattle.fws_net.specs.declared.packet.Lang.TheVariants.{Pf}
use Rattle.fws_net.specs.declared.packet.Packet.{Packet}
use Rattle.fws_net.specs.declared.site.Site.{Site}
use Rattle.fws_net.specs.Points.{tops_of}
use Rattle.fws_net.specs.Routes.{IsSound}
use Rattle.fws_tree.specs.declared.node.Node.{Node}
use Rattle.fws_tree.specs.declared.tables.Tables.{Tables}
use Rattle.fws_tree.specs.Regular.{AreRegular}
use Rattle.fws_tree.specs.Shared.{IsShared}
use Rattle.fws_place.specs.Fits.{Fits}
use Rattle.fws_place.specs.Meaning.{IsPacketOf, IsPairOf, new_of, est_of}
use Rattle.fws_pf.specs.declared.config.PfConfig.{PfConfig}
use Rattle.fws_pf.specs.Walk.{walk}
use Rattle.fws_pf_put_filter.specs.Filters.{catches_all}
use Rattle.fws_pf_put_filter.specs.States.{AreStates}
use Rattle.fws_pf_put.specs.Renumbered.{ArePrinted, keeps_state}

-- tables that fit pf, with the leaves, the nodes and the states of the tree of new packets
pub record IsFitting (site : Site) (tables : Tables) (leaves : List Outcome) (nodes : List Node) (states : List ℕ) : Type 0 where
  pub sound : IsSound site
  pub regular : AreRegular site tables
  pub fits : Fits Pf site tables
  pub shared : IsShared (tops_of site) tables.fresh.1 leaves nodes
  pub stated : AreStates leaves nodes states

-- all but the tags of the configuration can be printed; it keeps state, and gives every packet of the site the outcome of the tables
pub record IsDrafted (site : Site) (tables : Tables) (c : PfConfig) : Type 0 where
  pub printed : ArePrinted site c
  pub catches : list_any catches_all c.filter ≡ true
  pub tracks : list_all keeps_state c.filter ≡ true
  pub new : (p : Packet) → IsPacketOf site p → walk c site p New ≡ new_of tables p
  pub established : (p : Packet) (r : Rec) → IsPairOf site p r → walk c site p (Est r) ≡ est_of tables p r
