use Rattle.std.proofs.Common.{◌≡◌, ◌+◌, ◌++◌, length}
use Rattle.fws_num.specs.Lines.{lines_of, numbered}
use Rattle.fws_num.proofs.lines.read_lines.Given as goal

abbrev pub invariant-loop-line : goal.invariant-loop-line
invariant-loop-line l = record {
  so_far : l.lines ++ numbered l.comments l.number (lines_of l.rest) ≡ numbered l.comments 1 (lines_of l.fn.text);
  counted : l.number + length (lines_of l.rest) ≡ 1 + length (lines_of l.fn.text);
}

abbrev pub decreases-loop-line : goal.decreases-loop-line
decreases-loop-line l = length l.rest
