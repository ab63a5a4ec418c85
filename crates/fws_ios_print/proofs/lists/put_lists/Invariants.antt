use Rattle.std.proofs.Common.{◌≡◌, ◌++◌, drop}
use Rattle.fws_num.specs.Written.{ended}
use Rattle.fws_ios_print.specs.PrintedText.{list_lines}
use Rattle.fws_ios_print.proofs.lists.put_lists.Given as goal

abbrev pub invariant-loop-list : goal.invariant-loop-list
invariant-loop-list l = l.out ++ ended (list_lines (drop l.list-index l.lists)) ≡ l.initial.out ++ ended (list_lines l.lists)
