use Rattle.std.proofs.Common.{◌≡◌, ◌+◌, drop}
use Rattle.fws_net.specs.Faces.{named_from}
use Rattle.fws_net.proofs.faces.entry_named.Given as goal

abbrev pub invariant-loop-face : goal.invariant-loop-face
invariant-loop-face l = record {
  so_far : named_from l.entry l.lang (drop l.face-index l.face-items) l.name ≡ named_from 2 l.lang l.face-items l.name;
  counted : l.entry ≡ l.face-index + 2;
}
