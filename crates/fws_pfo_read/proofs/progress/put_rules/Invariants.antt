use Rattle.std.proofs.Common.{◌≡◌, ◌++◌, map}
use Rattle.fws_pfo.specs.Drawn.{rule_of}
use Rattle.fws_pfo_read.specs.Views.{draft_of}
use Rattle.fws_pfo_read.proofs.progress.put_rules.Given as goal

abbrev pub invariant-loop-cond : goal.invariant-loop-cond
invariant-loop-cond l = l.rules ≡ l.fn.rules ++ map (rule_of (draft_of l.d)) l.yielded
