use Rattle.std.proofs.Common.{◌≡◌, ◌<◌, length}
use Rattle.fws_tree.specs.Building.{Extends}
use Rattle.fws_tree.specs.Held.{AreOrderedFrom}
use Rattle.fws_tree.specs.Loaded.{AreLoaded}
use Rattle.fws_tree.proofs.load.load_nodes.Given as goal

abbrev pub invariant-loop-k : goal.invariant-loop-k
invariant-loop-k l = record {
  ordered : AreOrderedFrom 0 l.store;
  extends : Extends l.fn.store l.store;
  rest : l.rest < length l.store;
  many : length l.at.items ≡ l.k;
  loaded : AreLoaded l.tops l.nodes l.values l.store l.at.items;
}
