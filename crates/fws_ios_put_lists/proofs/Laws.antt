-- Laws of lower crates that lemmas rest on.
use Rattle.std.specs.Prelude.{Bool}
use Rattle.fws_tree_seen.specs.NodeLaws.{CutNodesPartValues, LeafNodesAreLeaves}

pub record NodeLaws : Type 0 where
  pub leaf : LeafNodesAreLeaves Bool
  pub cut : CutNodesPartValues Bool
