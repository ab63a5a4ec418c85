use Rattle.std.proofs.Common.{◌≡◌, drop}
use Rattle.fws_ipt.specs.Walk.{builtin_from}
use Rattle.fws_ipt.proofs.builtin.builtin_at.Given as goal

abbrev pub invariant-loop-n : goal.invariant-loop-n
invariant-loop-n l = builtin_from l.n l.table l.hook (drop l.n l.chains) ≡ builtin_from 0 l.table l.hook l.chains
