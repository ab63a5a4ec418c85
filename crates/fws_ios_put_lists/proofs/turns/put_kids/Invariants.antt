use Rattle.std.proofs.Common.{◌≡◌, ◌++◌, List}
use Rattle.fws_ios_put_lists.specs.declared.turn.Turn.{Turn}
use Rattle.fws_ios_put_lists.specs.Turns.{AreTests}
use Rattle.fws_ios_put_lists.proofs.turns.put_kids.Given as goal

abbrev pub invariant-loop-kid : goal.invariant-loop-kid
invariant-loop-kid l = (block : List Turn) × (l.turns ≡ l.initial.turns ++ block) × AreTests l.side l.kids l.path l.last l.falls l.kid-index block
