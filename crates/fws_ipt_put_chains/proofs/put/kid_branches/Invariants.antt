use Rattle.std.proofs.Common.{◌≡◌, map, take}
use Rattle.fws_ipt_put_chains.specs.Acts.{branch_of}
use Rattle.fws_ipt_put_chains.proofs.put.kid_branches.Given as goal

abbrev pub invariant-loop-kid : goal.invariant-loop-kid
invariant-loop-kid l = l.branches ≡ map (branch_of l.acts) (take l.kid-index l.kids)
