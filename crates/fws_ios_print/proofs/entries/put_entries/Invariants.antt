use Rattle.std.proofs.Common.{◌≡◌, ◌++◌, drop}
use Rattle.fws_num.specs.Written.{ended}
use Rattle.fws_ios_print.specs.PrintedText.{entry_lines}
use Rattle.fws_ios_print.proofs.entries.put_entries.Given as goal

abbrev pub invariant-loop-entry : goal.invariant-loop-entry
invariant-loop-entry l = l.out ++ ended (entry_lines (drop l.entry-index l.entries)) ≡ l.initial.out ++ ended (entry_lines l.entries)
