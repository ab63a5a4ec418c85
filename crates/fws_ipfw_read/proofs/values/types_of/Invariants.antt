use Rattle.std.proofs.Common.{◌≡◌, [], drop}
use Rattle.fws_ipfw.specs.Values.{with_types}
use Rattle.fws_ipfw_read.proofs.values.types_of.Given as goal

abbrev pub invariant-loop-item : goal.invariant-loop-item
invariant-loop-item l = with_types l.set (drop l.item-index l.items) ≡ with_types [] l.items
