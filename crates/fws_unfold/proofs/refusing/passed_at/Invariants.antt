use Rattle.std.proofs.Common.{◌≡◌, ◌≤◌, drop}
use Rattle.fws_ifcl.specs.Refusals.{passed_at}
use Rattle.fws_unfold.proofs.refusing.passed_at.Given as goal

abbrev pub invariant-loop-n : goal.invariant-loop-n
invariant-loop-n l = record {
  small : l.sum ≤ 1000000;
  so_far : passed_at l.f l.sum l.n (drop l.n l.f.chains) ≡ passed_at l.f 0 0 l.f.chains;
}
