use Rattle.std.proofs.Common.{All, subst}
use Rattle.std.proofs.lemmas.List.{take_all}
use Rattle.std.specs.Prelude.{Contains}
use Rattle.fws_place.proofs.Counting.{leaf_put}
use Rattle.fws_place.proofs.apart.once.Goals as goal

pub loop-leaf-preserved : goal.loop-leaf-preserved
loop-leaf-preserved g c =
    leaf_put c.args.leaves.now c.loop-leaf.leaf-index c.leaf-item.result c.loop-leaf.kept.keys c.put_leaf.new.kept.keys c.loop-leaf-test.true c.leaf-item.is c.in_ok-put_leaf.ensures c.loop-leaf.invariant

pub returns : goal.returns
returns g c =
    subst (λ leaves. All (Contains c.loop-leaf.kept.keys) leaves) (take_all c.loop-leaf.leaf-index c.args.leaves.now c.loop-leaf-test.false) c.loop-leaf.invariant.covered
