use Rattle.std.proofs.Common.{ℕ, ◌+◌, List, [], ◌∷◌, length, length-append, refl, ◌∙◌, ap}
use Rattle.fws_tree.specs.PathCounts.{node_sum}
use Rattle.fws_tree.proofs.PathCounting.{counted-next}
use Rattle.fws_tree.proofs.row_count.path_counts.Goals as goal

pub loop-node-preserved : goal.loop-node-preserved
loop-node-preserved g c = record {
  many = ap (λ (xs : List ℕ). length xs) c.in_ok-push.ensures.items ∙ length-append c.loop-node.counts.items (c.in_ok-count.count ∷ []) ∙ ap (λ n. n + 1) c.loop-node.invariant.many;
  counted = counted-next c.args.leaves.now c.args.nodes.now c.loop-node.counts.items c.push.new.self.items (length c.args.leaves.now) c.in_ok-count.count c.loop-node.node-index c.node-item.result
      c.requires c.loop-node-test.true c.node-item.is c.loop-node.invariant.many refl c.loop-node.invariant.counted (c.in_ok-count.ensures ∙ ap (λ (cs : List ℕ). node_sum (length c.args.leaves.now) cs c.node-item.result) c.as_slice.ensures.value) c.in_ok-push.ensures.items;
}
