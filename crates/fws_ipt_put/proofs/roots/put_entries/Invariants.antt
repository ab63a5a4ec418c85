use Rattle.std.proofs.Common.{◌≡◌, ◌++◌}
use Rattle.fws_ipt_put.specs.Roots.{entry_rules}
use Rattle.fws_ipt_put.proofs.roots.put_entries.Given as goal

abbrev pub invariant-loop-before : goal.invariant-loop-before
invariant-loop-before l = l.rules ≡ l.fn.rules ++ entry_rules l.est l.branches l.usual l.before
