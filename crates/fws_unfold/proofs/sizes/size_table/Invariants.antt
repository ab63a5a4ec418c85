use Rattle.std.proofs.Common.{◌≡◌, ℕ}
use Rattle.fws_ifcl.specs.Refusals.{size_within}
use Rattle.fws_unfold.specs.Levels.{capped, size_at}
use Rattle.fws_unfold.proofs.sizes.size_table.Given as goal

abbrev pub invariant-loop-n : goal.invariant-loop-n
invariant-loop-n l = (c : ℕ) → size_at l.level.items c ≡ capped (size_within l.calls.chains.now l._n c)
