use Rattle.std.proofs.Common.{◌≡◌, [], drop}
use Rattle.fws_net.specs.Ports.{with_ports}
use Rattle.fws_net.proofs.ports.read_ports.Given as goal

abbrev pub invariant-loop-item : goal.invariant-loop-item
invariant-loop-item l = with_ports l.divider l.set (drop l.item-index l.item-items) ≡ with_ports l.divider [] l.item-items
