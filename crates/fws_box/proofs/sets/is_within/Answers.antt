use Rattle.std.proofs.Common.{arith}
use Rattle.fws_box.proofs.Placed.{ordered_at}
use Rattle.fws_box.proofs.sets.is_within.Goals as goal

pub overlap-requires-clause-order : goal.overlap-requires-clause-order
overlap-requires-clause-order c = ordered_at 0 c.args.inner.now c.loop-part.part-index _ c.requires.inner (omega arith)
