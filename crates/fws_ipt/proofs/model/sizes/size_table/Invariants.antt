use Rattle.std.proofs.Common.{◌≡◌, ℕ}
use Rattle.fws_ipt.specs.Refusals.{size_within}
use Rattle.fws_ipt.specs.Levels.{capped, size_at}
use Rattle.fws_ipt.proofs.model.sizes.size_table.Given as goal

abbrev pub invariant-loop-n : goal.invariant-loop-n
invariant-loop-n l = (c : ℕ) → size_at l.level.items c ≡ capped (size_within l.faces l.chains l._n c)
