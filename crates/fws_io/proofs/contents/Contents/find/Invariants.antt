use Rattle.std.proofs.Common.{◌≡◌, drop}
use Rattle.fws_io.specs.Contents.{content_of, is_held}
use Rattle.fws_io.proofs.contents.Contents.find.Given as goal

-- what the entries that are left hold is what all of them hold
abbrev pub invariant-loop-entry : goal.invariant-loop-entry
invariant-loop-entry l = record {
  held : is_held (drop l.entry-index l.entry-items) l.name ≡ is_held l.entry-items l.name;
  content : content_of (drop l.entry-index l.entry-items) l.name ≡ content_of l.entry-items l.name;
}
