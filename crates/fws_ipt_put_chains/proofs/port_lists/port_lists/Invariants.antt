use Rattle.std.proofs.Common.{◌≡◌, ℕ, ◌≤◌, ◌-◌, true, length, take}
use Rattle.std.specs.List.{list_all, list_any}
use Rattle.fws_iv.specs.Ivs.{has}
use Rattle.fws_ipt_print.specs.Printable.{are_ports}
use Rattle.fws_ipt_put_chains.proofs.port_lists.port_lists.Given as goal

abbrev pub invariant-loop-from : goal.invariant-loop-from
invariant-loop-from l = record {
  within : l.from ≤ length l.parts;
  same : (x : ℕ) → list_any (λ s. has s x) l.lists.items ≡ has (take l.from l.parts) x;
  short : list_all are_ports l.lists.items ≡ true;
}

abbrev pub decreases-loop-from : goal.decreases-loop-from
decreases-loop-from l = length l.parts - l.from
