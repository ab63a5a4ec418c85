use Rattle.std.proofs.Common.{◌≡◌, ℕ}
use Rattle.fws_ipt.specs.Refusals.{reaches}
use Rattle.fws_ipt.specs.Levels.{flag_at}
use Rattle.fws_ipt.proofs.model.levels.reach_table.Given as goal

abbrev pub invariant-loop-n : goal.invariant-loop-n
invariant-loop-n l = (c : ℕ) → flag_at l.level.items c ≡ reaches l.chains l._n c l.to
