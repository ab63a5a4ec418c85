use Rattle.std.proofs.Common.{◌≡◌, ◌||◌, ℕ, ◌-◌, true, length}
use Rattle.std.specs.List.{list_all, list_any}
use Rattle.fws_iv.specs.Ivs.{has}
use Rattle.fws_ipfw_put_rules.specs.Groups.{are_addresses}
use Rattle.fws_ipfw_put_rules.proofs.groups.address_groups.Given as goal

abbrev pub invariant-loop-k : goal.invariant-loop-k
invariant-loop-k l = record {
  same : (x : ℕ) → (list_any (λ s. has s x) l.groups.items || has l.rest x) ≡ has l.set x;
  each : list_all are_addresses l.groups.items ≡ true;
}

abbrev pub decreases-loop-k : goal.decreases-loop-k
decreases-loop-k l = length l.networks.items - l.k
