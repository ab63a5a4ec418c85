use Rattle.std.proofs.Common.{◌≡◌, ◌++◌, map, drop}
use Rattle.fws_ipt_ifcl.specs.Blocks.{sided}
use Rattle.fws_ipt_ifcl.proofs.blocks.put_sided.Given as goal

abbrev pub invariant-loop-rule : goal.invariant-loop-rule
invariant-loop-rule l = l.rules.items ++ map (sided l.outward) (drop l.rule-index l.inner) ≡ l.fn.rules.items ++ map (sided l.outward) l.inner
