use Rattle.std.proofs.Common.{◌≤◌}
use Rattle.fws_tree.proofs.Showing.{AreClipped}
use Rattle.fws_tree.proofs.show.clip.Given as goal

abbrev pub invariant-loop-s : goal.invariant-loop-s
invariant-loop-s l = record {
  order : l.lo ≤ l.top;
  clipped : AreClipped l.steps l.last l.s-index l.lo l.pieces.items;
}
