use Rattle.std.proofs.Common.{◌≡◌, ◌+◌, length}
use Rattle.fws_num.specs.Lines.{lines_of}
use Rattle.fws_pf.specs.Statements.{joined, read_statements}
use Rattle.fws_pf_words.specs.Ahead.{statements_ahead}
use Rattle.fws_pf_words.proofs.statements.read_statements.Given as goal

abbrev pub invariant-loop-line : goal.invariant-loop-line
invariant-loop-line l = record {
  so_far : statements_ahead l.reader (lines_of l.rest) ≡ read_statements (joined 1 (lines_of l.fn.text));
  counted : l.reader.number + length (lines_of l.rest) ≡ 1 + length (lines_of l.fn.text);
}

abbrev pub decreases-loop-line : goal.decreases-loop-line
decreases-loop-line l = length l.rest
