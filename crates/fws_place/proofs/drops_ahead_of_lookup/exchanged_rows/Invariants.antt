use Rattle.std.proofs.Common.{◌≡◌, ◌++◌, drop}
use Rattle.fws_place.specs.AheadOfLookup.{exchanged_rows}
use Rattle.fws_place.proofs.drops_ahead_of_lookup.exchanged_rows.Given as goal

abbrev pub invariant-loop-row : goal.invariant-loop-row
invariant-loop-row l = l.made.items ++ exchanged_rows (drop l.row-index l.rows) ≡ exchanged_rows l.rows
