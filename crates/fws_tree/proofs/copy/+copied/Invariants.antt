use Rattle.std.proofs.Common.{take}
use Rattle.fws_tree.specs.Building.{Extends}
use Rattle.fws_tree.specs.Copied.{AreCopied}
use Rattle.fws_tree.specs.Held.{AreOrderedFrom}
use Rattle.fws_tree.proofs.Copying.{AreStepsCopied}
use Rattle.fws_tree.proofs.copy.+copied.Given as goal

abbrev pub decreases-copied : goal.decreases-copied
decreases-copied l = l.at

abbrev pub invariant-loop-s : goal.invariant-loop-s
invariant-loop-s l = record {
  ordered : AreOrderedFrom 0 l.fresh;
  early : Extends l.fn.fresh l.fresh;
  steps : AreStepsCopied l.store l.fresh (take l.s-index l.steps) l.copies.items;
  known : AreCopied l.store l.fresh l.memo;
}
