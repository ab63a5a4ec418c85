use Rattle.std.proofs.Common.{◌≡◌, ◌++◌, List}
use Rattle.fws_pf.specs.declared.config.PfNat.{PfNat}
use Rattle.fws_pf_put_nat.specs.Scenes.{scene}
use Rattle.fws_pf_put_nat.specs.Turns.{AreTurnRules}
use Rattle.fws_pf_put_nat.proofs.nodes.+put_node.Given as goal

abbrev pub decreases-put_node : goal.decreases-put_node
decreases-put_node l = l.at

abbrev pub invariant-loop-turn : goal.invariant-loop-turn
invariant-loop-turn l =
    (block : List PfNat) × (l.rules ≡ l.fn.rules ++ block)
    × AreTurnRules (scene l.sheet.site.now l.sheet.tree.now.0 l.sheet.tree.now.1 l.sheet.leaves.now l.sheet.nodes.now l.sheet.states.now l.sheet.outward l.sheet.ends.now l.sheet.start) l.falls l.turn-items l.turn-index block
