use Rattle.std.proofs.Common.{◌≡◌, ◌+◌, [], drop}
use Rattle.fws_net.specs.Faces.{with_entries, with_entry, name_in}
use Rattle.fws_net.proofs.faces.entries_beginning.Given as goal

abbrev pub invariant-loop-face : goal.invariant-loop-face
invariant-loop-face l = record {
  so_far : with_entries l.entry l.lang (drop l.face-index l.face-items) l.front l.set
      ≡ with_entries 2 l.lang l.face-items l.front (with_entry 1 (name_in l.lang l.site.lo) l.front []);
  counted : l.entry ≡ l.face-index + 2;
}
