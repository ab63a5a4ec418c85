use Rattle.std.proofs.Common.{ℕ}
use Rattle.fws_tree.proofs.MetPairs.{leaves-next}
use Rattle.fws_tree.proofs.pairing.pair_places.Goals as goal

pub loop-pair-preserved : goal.loop-pair-preserved
loop-pair-preserved g c = let d : ℕ × ℕ = (0, 0) in record {
  different = c.pair_place.ensures.different c.loop-pair.invariant.different;
  made = leaves-next c.args.first.now c.args.second.now c.args.pairs.now c.loop-pair.leaves.keys c.pair_place.new.leaves.keys c.loop-pair.places.items c.push.new.self.items c.loop-pair.pair-index c.in_ok-pair_place.field-0 d c.in_ok-leaf.leaf
      c.loop-pair.invariant.made c.pair_place.ensures.extends c.loop-pair-test.true c.in_ok-leaf.ensures c.in_ok-pair_place.ensures.place c.in_ok-push.ensures.items;
}
