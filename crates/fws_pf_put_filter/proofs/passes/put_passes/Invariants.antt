use Rattle.std.proofs.Common.{◌≡◌, ◌++◌, List}
use Rattle.fws_pf.specs.declared.config.PfRule.{PfRule}
use Rattle.fws_pf_put_filter.specs.Blocks.{ArePasses}
use Rattle.fws_pf_put_filter.proofs.passes.put_passes.Given as goal

abbrev pub invariant-loop-k : goal.invariant-loop-k
invariant-loop-k l =
    (block : List PfRule) × (l.rules ≡ l.fn.rules ++ block) × ArePasses l.plan.site.now l.plan.leaves.now l.plan.nodes.now l.plan.states.now l.k block
