use Rattle.std.proofs.Common.{◌≡◌, [], drop}
use Rattle.fws_ipfw.specs.Values.{with_networks}
use Rattle.fws_ipfw_read.proofs.addresses.networks_of.Given as goal

abbrev pub invariant-loop-item : goal.invariant-loop-item
invariant-loop-item l = with_networks l.set (drop l.item-index l.items) ≡ with_networks [] l.items
