use Rattle.std.proofs.Common.{◌≡◌, ◌++◌, drop}
use Rattle.fws_ipfw_ifcl.specs.Blocks.{starts_from}
use Rattle.fws_ipfw_ifcl.proofs.layout.places_of.Given as goal

abbrev pub invariant-loop-rule : goal.invariant-loop-rule
invariant-loop-rule l =
    l.starts.items ++ starts_from l.nats l.translated l.place (drop l.rule-index l.rules) ≡ starts_from l.nats l.translated l.first l.rules
