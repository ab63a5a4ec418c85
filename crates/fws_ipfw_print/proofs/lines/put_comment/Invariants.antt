use Rattle.std.proofs.Common.{◌≡◌, map, drop}
use Rattle.fws_ipfw_print.specs.PrintedText.{comment_between}
use Rattle.fws_ipfw_print.proofs.lines.put_comment.Given as goal

abbrev pub invariant-loop-row : goal.invariant-loop-row
invariant-loop-row l = record {
  same : l.out ≡ l.initial.out;
  left : comment_between l.from l.to (map (λ row. (row.0, row.1.now)) (drop l.row-index l.rows)) ≡ comment_between l.from l.to (map (λ row. (row.0, row.1.now)) l.rows);
}
