-- What is known of a tree of new packets that is placed.
use Rattle.std.specs.Prelude.{◌≡◌, ℕ, List}
use Rattle.fws_net.specs.declared.outcome.Outcome.{Outcome}
use Rattle.fws_net.specs.declared.site.Site.{Site}
use Rattle.fws_net.specs.Points.{tops_of}
use Rattle.fws_net.specs.Routes.{IsSound}
use Rattle.fws_tree.specs.declared.node.Node.{Node}
use Rattle.fws_tree.specs.Plain.{Plain}
use Rattle.fws_tree.specs.Shared.{IsShared}
use Rattle.fws_tree_seen.specs.declared.seen.Seen.TheVariants.{Entered}
use Rattle.fws_tree_seen.specs.Shown.{IsTold}
use Rattle.fws_pf_put_filter.specs.States.{AreStates}

-- these are the leaves, the nodes and the states of a tree over the packets of the site, of which rules can tell the outcomes
pub record IsPlanned (site : Site) (tops : List ℕ) (t : Plain Outcome) (leaves : List Outcome) (nodes : List Node) (states : List ℕ) : Type 0 where
  pub sound : IsSound site
  pub tops_are : tops ≡ tops_of site
  pub told : IsTold Entered tops t
  pub shared : IsShared tops t leaves nodes
  pub stated : AreStates leaves nodes states
