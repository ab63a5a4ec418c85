use Rattle.std.proofs.Common.{◌≡◌, [], drop}
use Rattle.fws_ios.specs.FileText.{with_marked}
use Rattle.fws_ios_read.proofs.progress.marked.Given as goal

abbrev pub invariant-loop-mark : goal.invariant-loop-mark
invariant-loop-mark l = with_marked l.outside l.set (drop l.mark-index l.marks) ≡ with_marked l.outside [] l.marks
