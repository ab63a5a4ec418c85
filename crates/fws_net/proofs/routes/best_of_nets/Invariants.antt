use Rattle.std.proofs.Common.{◌≡◌, drop, map}
use Rattle.fws_net.specs.Routes.{joined, longest, net_line}
use Rattle.fws_net.proofs.routes.best_of_nets.Given as goal

abbrev pub invariant-loop-own : goal.invariant-loop-own
invariant-loop-own l =
    joined l.best (longest (map (net_line l.entry) (drop l.own-index l.addrs)) l.a) ≡ joined l.initial.best (longest (map (net_line l.entry) l.addrs) l.a)
