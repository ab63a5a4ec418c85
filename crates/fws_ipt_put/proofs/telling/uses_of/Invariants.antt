use Rattle.std.proofs.Common.{◌≡◌, length, take}
use Rattle.fws_ipt_put.specs.Gathered.{AreUses}
use Rattle.fws_ipt_put.proofs.telling.uses_of.Given as goal

abbrev pub invariant-loop-row : goal.invariant-loop-row
invariant-loop-row l = (length l.uses.items ≡ length l.rewrites.keys) × AreUses l.rewrites.keys l.uses.items (take l.row-index l.rows)
