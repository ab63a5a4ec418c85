use Rattle.std.proofs.Common.{◌≡◌, ◌++◌, ◌-◌}
use Rattle.fws_pfo_ifcl.specs.Blocks.{without_others}
use Rattle.fws_pfo_ifcl.proofs.acting.put_without_others.Given as goal

abbrev pub invariant-loop-tag : goal.invariant-loop-tag
invariant-loop-tag l = l.acts.items ++ without_others l.n l.tag (l.tags - l.tag) ≡ l.fn.acts.items ++ without_others l.n 0 l.tags
