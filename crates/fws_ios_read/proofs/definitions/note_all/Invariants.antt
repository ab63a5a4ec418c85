use Rattle.std.proofs.Common.{◌≡◌, drop}
use Rattle.fws_ios.specs.FileText.{defined_from}
use Rattle.fws_ios_read.proofs.definitions.note_all.Given as goal

abbrev pub invariant-loop-line : goal.invariant-loop-line
invariant-loop-line l = defined_from l.pools (drop l.line-index l.lines) ≡ defined_from l.fn.pools l.lines
