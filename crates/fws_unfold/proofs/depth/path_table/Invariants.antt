use Rattle.std.proofs.Common.{◌≡◌, ℕ}
use Rattle.fws_ifcl.specs.Refusals.{begins_path}
use Rattle.fws_unfold.specs.Levels.{flag_at}
use Rattle.fws_unfold.proofs.depth.path_table.Given as goal

abbrev pub invariant-loop-n : goal.invariant-loop-n
invariant-loop-n l = (c : ℕ) → flag_at l.level.items c ≡ begins_path l.calls.chains.now l._n c
