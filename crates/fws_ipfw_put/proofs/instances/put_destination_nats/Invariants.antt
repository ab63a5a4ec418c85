use Rattle.std.proofs.Common.{◌≡◌, ◌^◌, ◌<◌, ◌++◌, All, drop}
use Rattle.fws_ipfw.specs.declared.config.IpfwNat.{IpfwNat}
use Rattle.fws_ipfw_put.specs.Instances.{destination_nats}
use Rattle.fws_ipfw_put.proofs.instances.put_destination_nats.Given as goal

abbrev pub invariant-loop-place : goal.invariant-loop-place
invariant-loop-place l =
    (l.nats ++ destination_nats l.shown l.place (drop l.place l.ends) ≡ l.fn.nats ++ destination_nats l.shown 0 l.ends) × All (λ (nat : IpfwNat). nat.alias < 2 ^ 32) l.nats
