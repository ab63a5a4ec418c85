use Rattle.std.proofs.Common.{◌≡◌, ◌++◌, drop}
use Rattle.fws_ipfw_put.specs.Instances.{redirects_to}
use Rattle.fws_ipfw_put.proofs.instances.redirects_to.Given as goal

abbrev pub invariant-loop-each : goal.invariant-loop-each
invariant-loop-each l = l.redirects ++ redirects_to l.end (drop l.each-index l.shown) ≡ redirects_to l.end l.shown
