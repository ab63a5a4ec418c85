use Rattle.std.proofs.Common.{◌≡◌, ◌+◌, ◌++◌, drop}
use Rattle.fws_ipt_put.specs.Marks.{mark_chains}
use Rattle.fws_ipt_put.proofs.builtin.put_marks.Given as goal

abbrev pub invariant-loop-place : goal.invariant-loop-place
invariant-loop-place l = l.chains ++ mark_chains (l.place + 5) (drop l.place l.marks) ≡ l.fn.chains ++ mark_chains 5 l.marks
