use Rattle.std.proofs.Common.{◌≡◌, ◌+◌, drop}
use Rattle.fws_net.specs.SiteLines.{entry_from}
use Rattle.fws_trace.proofs.packets.read_face.Given as goal

abbrev pub invariant-loop-face : goal.invariant-loop-face
invariant-loop-face l = record {
  so_far : entry_from l.entry (drop l.face-index l.face-items) l.name ≡ entry_from 2 l.face-items l.name;
  counted : l.entry ≡ l.face-index + 2;
}
