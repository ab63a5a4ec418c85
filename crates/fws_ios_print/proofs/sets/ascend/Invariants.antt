use Rattle.std.proofs.Common.{◌≡◌, drop}
use Rattle.fws_ios_print.specs.Printable.{ascend}
use Rattle.fws_ios_print.proofs.sets.ascend.Given as goal

abbrev pub invariant-loop-lit : goal.invariant-loop-lit
invariant-loop-lit l = ascend l.least (drop l.lit-index l.cond) ≡ ascend 0 l.cond
