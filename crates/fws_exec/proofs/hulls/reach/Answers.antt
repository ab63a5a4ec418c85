use Rattle.std.proofs.Common.{sym, subst}
use Rattle.fws_exec.specs.Hulls.{HasAt}
use Rattle.fws_exec.proofs.Bounding.{push_grows}
use Rattle.fws_exec.proofs.hulls.reach.Goals as goal

pub loop-hulls-preserved : goal.loop-hulls-preserved
loop-hulls-preserved c = record {
  grown = λ n p had. subst (λ hs. HasAt hs n p) (sym c.in_ok-push.ensures.items) (push_grows c.loop-hulls.hulls.items _ n p (c.loop-hulls.invariant.grown n p had));
}
