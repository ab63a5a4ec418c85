use Rattle.std.proofs.Common.{◌≡◌, drop, find}
use Rattle.fws_net.specs.Conditions.{holds}
use Rattle.fws_pf.proofs.model.translating.first_holding.Given as goal

abbrev pub invariant-loop-nat : goal.invariant-loop-nat
invariant-loop-nat l = find (λ nat. holds nat.cond l.view) (drop l.nat-index l.nats) ≡ find (λ nat. holds nat.cond l.view) l.nats
