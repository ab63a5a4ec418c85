use Rattle.std.proofs.Common.{◌≡◌, ℕ, ◌≤◌, ◌-◌, true, length, take}
use Rattle.std.specs.List.{list_all, list_any}
use Rattle.fws_iv.specs.Ivs.{has}
use Rattle.fws_ipfw_put_rules.specs.Groups.{are_ports}
use Rattle.fws_ipfw_put_rules.proofs.groups.port_groups.Given as goal

abbrev pub invariant-loop-from : goal.invariant-loop-from
invariant-loop-from l = record {
  within : l.from ≤ length l.parts;
  same : (x : ℕ) → list_any (λ s. has s x) l.groups.items ≡ has (take l.from l.parts) x;
  each : list_all are_ports l.groups.items ≡ true;
}

abbrev pub decreases-loop-from : goal.decreases-loop-from
decreases-loop-from l = length l.parts - l.from
