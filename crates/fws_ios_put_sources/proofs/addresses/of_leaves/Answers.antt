use Rattle.std.proofs.Common.{All, subst}
use Rattle.std.proofs.lemmas.List.{take_all}
use Rattle.fws_ios_put_sources.specs.Picking.{HasSource}
use Rattle.fws_ios_put_sources.proofs.Gathered.{sources_more}
use Rattle.fws_ios_put_sources.proofs.addresses.of_leaves.Goals as goal

pub loop-leaf-preserved : goal.loop-leaf-preserved
loop-leaf-preserved c =
    let e = c.in_ok-put_leaf.ensures in
    sources_more c.loop-leaf.addrs.keys c.put_leaf.new.addrs.keys c.args.leaves.now c.loop-leaf.leaf-index c.leaf-item.result c.loop-leaf-test.true c.leaf-item.is
    c.loop-leaf.invariant e.there e.extends

pub returns : goal.returns
returns c = subst (λ leaves. All (HasSource c.loop-leaf.addrs.keys) leaves) (take_all c.loop-leaf.leaf-index c.args.leaves.now c.loop-leaf-test.false) c.loop-leaf.invariant
