use Rattle.std.proofs.Common.{◌≡◌, ℕ, ◌≤◌, true, take}
use Rattle.fws_iv.specs.Ivs.{has}
use Rattle.fws_exec.proofs.hull.low_of.Given as goal

abbrev pub invariant-loop-part : goal.invariant-loop-part
invariant-loop-part l = record {
  low : (v : ℕ) → has (take l.part-index l.set) v ≡ true → l.low ≤ v;
}
