use Rattle.std.proofs.Common.{◌≡◌, ◌++◌, map}
use Rattle.fws_pf.specs.Drawn.{filter_rule}
use Rattle.fws_pf_read.proofs.progress.put_filters.Given as goal

abbrev pub invariant-loop-cond : goal.invariant-loop-cond
invariant-loop-cond l = l.rules ≡ l.fn.rules ++ map (filter_rule l.rule) l.yielded
