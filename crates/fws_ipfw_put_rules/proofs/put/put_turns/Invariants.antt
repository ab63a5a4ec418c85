use Rattle.std.proofs.Common.{◌≡◌, ◌++◌, List, take}
use Rattle.fws_ipfw.specs.declared.config.IpfwRule.{IpfwRule}
use Rattle.fws_ipfw_put_rules.specs.Blocks.{AreTurnRules}
use Rattle.fws_ipfw_put_rules.proofs.put.put_turns.Given as goal

abbrev pub invariant-loop-turn : goal.invariant-loop-turn
invariant-loop-turn l =
    (block : List IpfwRule) × (l.rules ≡ l.fn.rules ++ block)
    × AreTurnRules l.plan.site.now l.plan.tree.now.0 l.plan.section.now l.plan.tree.now.1 l.plan.leaves.now l.plan.nodes.now l.cond (take l.turn-index l.turns) block
