use Rattle.std.proofs.Common.{◌≡◌, drop}
use Rattle.fws_ipt_put.specs.Roots.{go_at}
use Rattle.fws_ipt_put.proofs.roots.go_at.Given as goal

abbrev pub invariant-loop-branch : goal.invariant-loop-branch
invariant-loop-branch l = go_at (drop l.branch-index l.branches) l.entry ≡ go_at l.branches l.entry
