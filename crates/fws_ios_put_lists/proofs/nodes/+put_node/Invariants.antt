use Rattle.std.proofs.Common.{◌≡◌, ◌++◌, List}
use Rattle.fws_ios.specs.declared.config.IosEntry.{IosEntry}
use Rattle.fws_ios_put_lists.specs.Blocks.{scene}
use Rattle.fws_ios_put_lists.specs.Turns.{AreTurnEntries}
use Rattle.fws_ios_put_lists.proofs.nodes.+put_node.Given as goal

abbrev pub decreases-put_node : goal.decreases-put_node
decreases-put_node l = l.at

abbrev pub invariant-loop-turn : goal.invariant-loop-turn
invariant-loop-turn l =
    (block : List IosEntry) × (l.entries ≡ l.fn.entries ++ block)
    × AreTurnEntries (scene l.sheet.tree.now.0 l.sheet.tree.now.1 l.sheet.leaves.now l.sheet.nodes.now) l.sheet.keep l.fn.falls l.turn-items l.turn-index block
