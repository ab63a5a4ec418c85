use Rattle.std.proofs.Common.{◌-◌, take}
use Rattle.fws_tree.specs.Building.{IsArena, Extends}
use Rattle.fws_tree.specs.Shown.{AreShown}
use Rattle.fws_tree.proofs.Showing.{AreShownPieces, AreAddedUnder}
use Rattle.fws_tree.proofs.show.+show.Given as goal

abbrev pub decreases-show : goal.decreases-show
decreases-show l = 12 - l.field

abbrev pub invariant-loop-cut : goal.invariant-loop-cut
invariant-loop-cut l = record {
  arena : IsArena l.arena;
  extends : Extends l.fn.arena l.arena;
  added : AreAddedUnder l.fn.arena l.arena l.pieces.items;
  known : AreShown l.store l.tops l.places l.arena l.memo;
  shown : AreShownPieces l.store l.tops l.places l.own l.at (take l.cut-index l.cut-items) l.arena l.pieces.items;
}
