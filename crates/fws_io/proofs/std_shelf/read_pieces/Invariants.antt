use Rattle.std.proofs.Common.{length, ◌+◌, ◌-◌, ◌≡◌, ◌≤◌}
use Rattle.std.specs.Io.KnownBytes.{Consumes}
use Rattle.fws_io.proofs.std_shelf.read_pieces.Given as goal

-- the text is what was taken so far, within the limit
abbrev pub invariant-loop-count : goal.invariant-loop-count
invariant-loop-count g l = record {
  counted : length l.text ≡ l.taken;
  within : l.taken ≤ l.limit;
  turns : l.turns.made ≤ l.initial.turns.made + l.taken;
  taken : Consumes (g.F.Read.remaining l.initial.file) (g.F.Read.remaining l.file) l.text;
}

-- so there are at most one turn more than the limit has bytes
abbrev pub decreases-loop-count : goal.decreases-loop-count
decreases-loop-count g l = l.limit + 1 - l.taken
