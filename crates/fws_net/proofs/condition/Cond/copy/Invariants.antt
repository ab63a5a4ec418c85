use Rattle.std.proofs.Common.{◌≡◌, take}
use Rattle.fws_net.proofs.condition.Cond.copy.Given as goal

abbrev pub invariant-loop-lit : goal.invariant-loop-lit
invariant-loop-lit l = l.cond ≡ take l.lit-index l.lit-items
