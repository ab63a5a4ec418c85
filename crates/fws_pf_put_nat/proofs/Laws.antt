-- Laws of lower crates that lemmas rest on.
use Rattle.fws_net.specs.declared.outcome.Outcome.{Outcome}
use Rattle.fws_tree_seen.specs.NodeLaws.{CutNodesPartValues, LeafNodesAreLeaves}

pub record NodeLaws : Type 0 where
  pub leaf : LeafNodesAreLeaves Outcome
  pub cut : CutNodesPartValues Outcome
