use Rattle.std.proofs.Common.{◌≡◌, ◌++◌, List}
use Rattle.fws_pf_put_nat.specs.declared.turn.Turn.{Turn}
use Rattle.fws_pf_put_nat.specs.Scenes.{scene}
use Rattle.fws_pf_put_nat.specs.Turns.{AreTests}
use Rattle.fws_pf_put_nat.proofs.turns.put_kids.Given as goal

abbrev pub invariant-loop-kid : goal.invariant-loop-kid
invariant-loop-kid l =
    (block : List Turn) × (l.turns ≡ l.initial.turns ++ block)
    × AreTests (scene l.sheet.site.now l.sheet.tree.now.0 l.sheet.tree.now.1 l.sheet.leaves.now l.sheet.nodes.now l.sheet.states.now l.sheet.outward l.sheet.ends.now l.sheet.start) l.side l.kids l.path l.last l.kid-index block
