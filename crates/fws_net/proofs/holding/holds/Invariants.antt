use Rattle.std.proofs.Common.{◌≡◌, drop}
use Rattle.fws_net.specs.Conditions.{holds}
use Rattle.fws_net.proofs.holding.holds.Given as goal

abbrev pub invariant-loop-lit : goal.invariant-loop-lit
invariant-loop-lit l = holds (drop l.lit-index l.lit-items) l.v ≡ holds l.lit-items l.v
