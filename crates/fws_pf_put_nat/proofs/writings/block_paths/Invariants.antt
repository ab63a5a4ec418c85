use Rattle.std.proofs.Common.{◌+◌, ◌-◌, ◌≤◌}
use Rattle.fws_pf_put_nat.specs.Writings.{AreBlockPaths}
use Rattle.fws_pf_put_nat.proofs.writings.block_paths.Given as goal

abbrev pub invariant-loop-from : goal.invariant-loop-from
invariant-loop-from l = (l.lo ≤ l.from) × (l.from ≤ l.last + 1) × AreBlockPaths l.outward l.path l.len l.lo l.from l.paths

abbrev pub decreases-loop-from : goal.decreases-loop-from
decreases-loop-from l = l.last + 1 - l.from
