use Rattle.std.proofs.Common.{◌≡◌, drop}
use Rattle.fws_net.specs.RouteSets.{block_entry}
use Rattle.fws_net.proofs.route_sets.block_entry.Given as goal

abbrev pub invariant-loop-line : goal.invariant-loop-line
invariant-loop-line l = block_entry l.block (drop l.line-index l.lines) l.other ≡ block_entry l.block l.lines l.other
