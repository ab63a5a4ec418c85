use Rattle.std.proofs.Common.{◌≡◌, ◌^◌, ◌<◌, ◌++◌, All, drop}
use Rattle.fws_ipfw.specs.declared.config.IpfwNat.{IpfwNat}
use Rattle.fws_ipfw_put.specs.Instances.{source_nats}
use Rattle.fws_ipfw_put.proofs.instances.put_source_nats.Given as goal

abbrev pub invariant-loop-place : goal.invariant-loop-place
invariant-loop-place l =
    (l.nats ++ source_nats l.destinations l.place (drop l.place l.ends) ≡ l.fn.nats ++ source_nats l.destinations 0 l.ends) × All (λ (nat : IpfwNat). nat.alias < 2 ^ 32) l.nats
