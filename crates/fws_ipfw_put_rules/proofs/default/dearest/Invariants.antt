use Rattle.std.proofs.Common.{◌<◌, length}
use Rattle.fws_ipfw_put_rules.proofs.default.dearest.Given as goal

abbrev pub invariant-loop-i : goal.invariant-loop-i
invariant-loop-i l = l.best < length l.kids
