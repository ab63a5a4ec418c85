use Rattle.std.proofs.Common.{◌≡◌, take}
use Rattle.fws_net.specs.RouteSets.{nets_within}
use Rattle.fws_net.proofs.route_sets.nets_within.Given as goal

abbrev pub invariant-loop-line : goal.invariant-loop-line
invariant-loop-line l = l.kept.items ≡ nets_within l.block (take l.line-index l.lines)
