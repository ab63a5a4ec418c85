use Rattle.std.proofs.Common.{◌≡◌, ◌++◌, drop, map}
use Rattle.fws_net.specs.Routes.{net_line}
use Rattle.fws_net.proofs.route_sets.put_nets.Given as goal

abbrev pub invariant-loop-own : goal.invariant-loop-own
invariant-loop-own l = l.lines.items ++ map (net_line l.entry) (drop l.own-index l.addrs) ≡ l.initial.lines.items ++ map (net_line l.entry) l.addrs
