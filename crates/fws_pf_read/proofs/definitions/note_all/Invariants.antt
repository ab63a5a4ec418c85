use Rattle.std.proofs.Common.{◌≡◌, drop}
use Rattle.fws_pf.specs.FileText.{tables_from}
use Rattle.fws_pf_read.proofs.definitions.note_all.Given as goal

abbrev pub invariant-loop-line : goal.invariant-loop-line
invariant-loop-line l = tables_from l.site l.macros l.tables (drop l.line-index l.lines) ≡ tables_from l.site l.fn.macros l.fn.tables l.lines
