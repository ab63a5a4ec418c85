use Rattle.std.proofs.Common.{◌≡◌, ◌++◌, take, drop}
use Rattle.fws_num.specs.Comments.{ahead_from}
use Rattle.fws_num.specs.declared.word.Mode.TheVariants.{Between}
use Rattle.fws_num.proofs.comments.Comments.ahead.Given as goal

abbrev pub invariant-loop-i : goal.invariant-loop-i
invariant-loop-i l = take l.i l.line ++ ahead_from l.self l.mode (drop l.i l.line) ≡ ahead_from l.self Between l.line
