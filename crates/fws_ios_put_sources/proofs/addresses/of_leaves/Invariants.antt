use Rattle.std.proofs.Common.{take, All}
use Rattle.fws_ios_put_sources.specs.Picking.{HasSource}
use Rattle.fws_ios_put_sources.proofs.addresses.of_leaves.Given as goal

abbrev pub invariant-loop-leaf : goal.invariant-loop-leaf
invariant-loop-leaf l = All (HasSource l.addrs.keys) (take l.leaf-index l.leaves)
