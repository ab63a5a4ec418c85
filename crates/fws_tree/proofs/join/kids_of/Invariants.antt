use Rattle.std.proofs.Common.{take}
use Rattle.fws_tree.proofs.Gathering.{IsGathered}
use Rattle.fws_tree.proofs.join.kids_of.Given as goal

abbrev pub invariant-loop-piece : goal.invariant-loop-piece
invariant-loop-piece l = IsGathered (take l.piece-index l.pieces) l.kids.items l.order.keys
