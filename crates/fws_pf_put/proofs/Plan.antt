-- What is known of a policy that is placed, and of the translations and rules that were put for it.
use Rattle.std.proofs.Common.{◌≡◌, ℕ, ◌⊎◌, true, false, List, [], ◌++◌, length}
use Rattle.fws_iv.specs.declared.iv.Iv.{Iv}
use Rattle.fws_net.specs.declared.connection.Rec.{Rec}
use Rattle.fws_net.specs.declared.outcome.End.{End}
use Rattle.fws_net.specs.declared.outcome.Outcome.{Outcome}
use Rattle.fws_net.specs.declared.outcome.Outcome.TheVariants.{Drop, Accept}
use Rattle.fws_net.specs.declared.outcome.Rewrite.{Rewrite}
use Rattle.fws_net.specs.declared.packet.Packet.{Packet}
use Rattle.fws_net.specs.declared.site.Site.{Site}
use Rattle.fws_net.specs.Points.{tops_of}
use Rattle.fws_net.specs.Transits.{nothing_written}
use Rattle.fws_tree.specs.declared.node.Node.{Node}
use Rattle.fws_tree.specs.declared.tables.Tables.{Tables}
use Rattle.fws_tree.specs.Plain.{IsReduced}
use Rattle.fws_tree.specs.Shared.{IsShared}
use Rattle.fws_tree_seen.specs.declared.seen.Seen.TheVariants.{Entered}
use Rattle.fws_tree_seen.specs.NodeLaws.{LeafNodesAreLeaves}
use Rattle.fws_tree_seen.specs.Shown.{IsTold}
use Rattle.fws_tree_seen.specs.SightLaws.{ReachedValuesAreTold, SeenPointsAreTopped}
use Rattle.fws_pf.specs.declared.config.PfConfig.{PfConfig}
use Rattle.fws_pf.specs.declared.config.PfNat.{PfNat}
use Rattle.fws_pf_put_filter.specs.Filters.{IsFilter}
use Rattle.fws_pf_put_filter.specs.States.{AreStates}
use Rattle.fws_pf_put_nat.specs.Translations.{IsTranslations}
use Rattle.fws_place.specs.Meaning.{IsPacketOf, IsPairOf, est_of, new_of}
use Rattle.fws_place.specs.Pairs.{IsLost}
use Rattle.fws_place.specs.PfLaws.{IsKeptByPf}
use Rattle.fws_place.specs.TellingLaws.{PointsAreSeen}
use Rattle.fws_pf_put.specs.Gathered.{TellSources, rewrite_at}
use Rattle.fws_pf_put.specs.Sources.{AreSources}

-- the laws of lower layers on which all rests
pub record Laws : Type 0 where
  pub reached : ReachedValuesAreTold Outcome
  pub topped : SeenPointsAreTopped
  pub leaves : LeafNodesAreLeaves Outcome
  pub seen : PointsAreSeen

-- what is known of the packets of a site whose tables fit
pub record Known (site : Site) (tables : Tables) : Type 0 where
  pub told : IsTold Entered (tops_of site) tables.fresh.1
  pub reduced : IsReduced (tops_of site) tables.fresh.1
  pub kept : (p : Packet) (w : Rewrite) → IsPacketOf site p → new_of tables p ≡ Accept w → IsKeptByPf site p w
  pub pairs : (p : Packet) (r : Rec) → IsPairOf site p r → (IsLost site p r × (est_of tables p r ≡ Drop)) ⊎ (est_of tables p r ≡ Accept nothing_written)
  pub lost : (p : Packet) (r : Rec) → IsPairOf site p r → IsLost site p r → est_of tables p r ≡ Drop

-- the configuration by its parts
pub record Plan (site : Site) (tables : Tables) (c : PfConfig) : Type 0 where
  pub laws : Laws
  pub known : Known site tables
  pub leaves : List Outcome
  pub nodes : List Node
  pub states : List ℕ
  pub shared : IsShared (tops_of site) tables.fresh.1 leaves nodes
  pub stated : AreStates leaves nodes states
  pub ends : List End
  pub sets : List (List Iv)
  pub tell : TellSources (tops_of site) tables.fresh.1 ends sets
  pub sources : List PfNat
  pub host : List PfNat
  pub are_sources : AreSources (rewrite_at leaves nodes states) ends sets (length nodes) sources
  pub inward : IsTranslations site (tops_of site) tables.fresh.1 leaves nodes states false c.rdr
  pub outward : IsTranslations site (tops_of site) tables.fresh.1 leaves nodes states true host
  pub nat_is : c.nat ≡ sources ++ host
  pub skip : c.skip ≡ []
  pub filter : IsFilter site (tops_of site) leaves nodes states c.filter
