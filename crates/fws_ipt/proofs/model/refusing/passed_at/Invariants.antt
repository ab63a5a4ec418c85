use Rattle.std.proofs.Common.{◌≡◌, ◌≤◌, drop}
use Rattle.fws_ipt.specs.Refusals.{passed_at}
use Rattle.fws_ipt.proofs.model.refusing.passed_at.Given as goal

abbrev pub invariant-loop-n : goal.invariant-loop-n
invariant-loop-n l = record {
  small : l.sum ≤ 1000000;
  so_far : passed_at l.faces l.chains l.sum l.n (drop l.n l.chains) ≡ passed_at l.faces l.chains 3 0 l.chains;
}
