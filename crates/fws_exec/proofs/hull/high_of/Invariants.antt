use Rattle.std.proofs.Common.{◌≡◌, ℕ, ◌≤◌, true, take}
use Rattle.fws_iv.specs.Ivs.{has}
use Rattle.fws_exec.proofs.hull.high_of.Given as goal

abbrev pub invariant-loop-part : goal.invariant-loop-part
invariant-loop-part l = record {
  high : (v : ℕ) → has (take l.part-index l.set) v ≡ true → v ≤ l.high;
}
