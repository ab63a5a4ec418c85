use Rattle.std.proofs.Common.{◌≡◌, drop}
use Rattle.fws_ipfw.specs.FileText.{defined_from}
use Rattle.fws_ipfw_read.proofs.lines.note_all.Given as goal

abbrev pub invariant-loop-line : goal.invariant-loop-line
invariant-loop-line l = defined_from l.site l.known (drop l.line-index l.lines) ≡ defined_from l.site l.fn.known l.lines
