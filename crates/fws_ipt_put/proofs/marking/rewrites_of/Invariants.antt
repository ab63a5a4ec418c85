use Rattle.std.proofs.Common.{take}
use Rattle.fws_ipt_put.specs.Gathered.{HaveRewrites}
use Rattle.fws_ipt_put.proofs.marking.rewrites_of.Given as goal

abbrev pub invariant-loop-row : goal.invariant-loop-row
invariant-loop-row l = HaveRewrites l.rewrites.keys (take l.row-index l.rows)
