use Rattle.std.proofs.Common.{max, arith, rules}
use Rattle.fws_exec.proofs.Bounding.{more_done, more_left}
use Rattle.fws_exec.proofs.hull.larger_of.Goals as goal

pub loop-k-preserved : goal.loop-k-preserved
loop-k-preserved c = record {
  twelve = search rules;
  done = more_done max c.loop-k.greatest c.args.a.now c.args.b.now c.loop-k.k _ (omega arith) (omega arith) c.loop-k.invariant.done c.loop-k.invariant.left;
  left = more_left c.loop-k.greatest c.args.a.now c.loop-k.k _ c.loop-k.invariant.left;
}
