use Rattle.std.proofs.Common.{◌≡◌, ◌+◌, ◌++◌, drop}
use Rattle.fws_net.specs.Routes.{nets_from}
use Rattle.fws_net.proofs.route_sets.nets.Given as goal

abbrev pub invariant-loop-face : goal.invariant-loop-face
invariant-loop-face l = record {
  so_far : l.lines.items ++ nets_from l.entry (drop l.face-index l.faces) ≡ nets_from 2 l.faces;
  counted : l.entry ≡ l.face-index + 2;
}
