use Rattle.std.proofs.Common.{◌≡◌, ◌++◌}
use Rattle.fws_pf_put_filter.specs.Rules.{moves}
use Rattle.fws_pf_put_filter.proofs.nodes.put_moves.Given as goal

abbrev pub invariant-loop-cond : goal.invariant-loop-cond
invariant-loop-cond l = l.rules ≡ l.initial.rules ++ moves l.way l.from l.to l.yielded
