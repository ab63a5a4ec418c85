use Rattle.fws_tree.proofs.Cells.{extends-trans}
use Rattle.fws_tree.proofs.MadeLeaves.{made-next, made-all}
use Rattle.fws_tree.proofs.other_leaves.made_places.Goals as goal

pub loop-leaf-preserved : goal.loop-leaf-preserved
loop-leaf-preserved g c = record {
  extends = extends-trans c.args.made.now.keys c.loop-leaf.made.keys c.number.new.leaves.keys c.loop-leaf.invariant.extends c.number.ensures.extends;
  different = c.number.ensures.different;
  made = made-next (g.R.Relabelling.gives c.args.by.now) c.args.leaves.now c.loop-leaf.made.keys c.number.new.leaves.keys c.loop-leaf.places.items c.push.new.self.items c.loop-leaf.leaf-index c.in_ok-number.field-0
      c.leaf-item.result c.in_ok-leaf.leaf c.loop-leaf.invariant.made c.number.ensures.extends c.leaf-item.is c.loop-leaf-test.true c.in_ok-leaf.ensures c.in_ok-number.ensures.place c.in_ok-push.ensures.items;
}

pub returns-clause-places : goal.returns-clause-places
returns-clause-places g c = made-all (g.R.Relabelling.gives c.args.by.now) c.args.leaves.now c.loop-leaf.made.keys c.loop-leaf.places.items c.loop-leaf.leaf-index c.loop-leaf.invariant.made c.loop-leaf-test.false
