use Rattle.std.proofs.Common.{◌≡◌, ◌≤◌, ◌++◌, List, length, vec_len}
use Rattle.fws_pf.specs.declared.config.PfRule.{PfRule}
use Rattle.fws_pf_put_filter.specs.Blocks.{AreMoves}
use Rattle.fws_pf_put_filter.proofs.put.put_moves.Given as goal

abbrev pub invariant-loop-k : goal.invariant-loop-k
invariant-loop-k l = record {
  within : l.k ≤ length l.plan.nodes.now;
  size : vec_len l.sums ≡ length l.plan.nodes.now;
  moves : (block : List PfRule) × (l.rules ≡ l.fn.rules ++ block)
      × AreMoves l.plan.site.now l.plan.tree.now.0 l.plan.leaves.now l.plan.nodes.now l.plan.states.now l.k block;
}

abbrev pub decreases-loop-k : goal.decreases-loop-k
decreases-loop-k l = l.k
