use Rattle.std.proofs.Common.{◌<◌, length, arith}
use Rattle.fws_tree.proofs.Cells.{extends-trans}
use Rattle.fws_tree.proofs.Projecting.{any_step}
use Rattle.fws_tree.proofs.exists.any_of.Goals as goal

pub returns-in_err-any-clause-extends : goal.returns-in_err-any-clause-extends
returns-in_err-any-clause-extends c = extends-trans _ _ _ c.loop-kid.invariant.extends c.merge.ensures.extends

pub loop-kid-preserved : goal.loop-kid-preserved
loop-kid-preserved c = let some : 0 < length c.args.store.now = omega arith in record {
  ordered = c.merge.ensures.ordered;
  extends = extends-trans _ _ _ c.loop-kid.invariant.extends c.merge.ensures.extends;
  inside = c.in_ok-any.ensures.inside;
  held = λ p. any_step c.args.store.now c.loop-kid.store c.merge.new.store c.args.at.now c.args.kids.now c.loop-kid.kid-index c.kid-item.result c.loop-kid.any c.number_at-cell.result c.in_ok-any.any _ p
      c.loop-kid.invariant.extends c.requires.at some c.loop-kid-test.true c.kid-item.is c.number_at-cell.ensures (c.in_ok-any.ensures.merged p) (c.loop-kid.invariant.held p);
}
