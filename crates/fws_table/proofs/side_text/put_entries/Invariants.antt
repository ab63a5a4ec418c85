use Rattle.std.proofs.Common.{◌≡◌, ◌-◌, ◌++◌, map}
use Rattle.std.specs.List.{join_with_byte, range_with_len}
use Rattle.fws_table.specs.TableText.{entry_name}
use Rattle.fws_table.proofs.side_text.put_entries.Given as goal

abbrev pub invariant-loop-entry : goal.invariant-loop-entry
invariant-loop-entry l =
    l.out ≡ l.initial.out ++ join_with_byte 44 (map (entry_name l.site) (range_with_len l.part.lo (l.entry - l.part.lo)))
