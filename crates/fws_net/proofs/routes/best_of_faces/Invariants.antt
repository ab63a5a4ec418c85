use Rattle.std.proofs.Common.{◌≡◌, ◌+◌, drop}
use Rattle.fws_net.specs.Routes.{joined, longest, nets_from}
use Rattle.fws_net.proofs.routes.best_of_faces.Given as goal

abbrev pub invariant-loop-face : goal.invariant-loop-face
invariant-loop-face l = record {
  so_far : joined l.best (longest (nets_from l.entry (drop l.face-index l.faces)) l.a) ≡ longest (nets_from 2 l.faces) l.a;
  counted : l.entry ≡ l.face-index + 2;
}
