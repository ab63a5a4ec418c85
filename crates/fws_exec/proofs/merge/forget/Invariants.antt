use Rattle.std.proofs.Common.{◌≡◌, ℕ, false, slice_get}
use Rattle.fws_exec.specs.Joined.{is_joined}
use Rattle.fws_exec.proofs.merge.forget.Given as goal

abbrev pub invariant-loop-number : goal.invariant-loop-number
invariant-loop-number l = record {
  kept : (n : ℕ) → is_joined l.twins l.joined n ≡ false → slice_get l.hulls.items n ≡ slice_get l.initial.hulls.items n;
}
