use Rattle.std.proofs.Common.{◌≡◌, ◌++◌, List, take}
use Rattle.fws_ipfw_put_rules.specs.declared.turn.Turn.{Turn}
use Rattle.fws_ipfw_put_rules.specs.Turns.{AreEntries, AreKidTurns}
use Rattle.fws_ipfw_put_rules.proofs.entries.put_kids.Given as goal

abbrev pub invariant-loop-kid : goal.invariant-loop-kid
invariant-loop-kid l =
    (block : List Turn) × (l.turns ≡ l.initial.turns ++ block) × AreKidTurns (AreEntries l.top) (take l.kid-index l.kids) block
