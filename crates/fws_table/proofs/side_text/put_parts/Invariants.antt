use Rattle.std.proofs.Common.{◌≡◌, ◌++◌, map, take}
use Rattle.std.specs.List.{join_with_byte}
use Rattle.fws_table.specs.TableText.{part_text}
use Rattle.fws_table.proofs.side_text.put_parts.Given as goal

abbrev pub invariant-loop-place : goal.invariant-loop-place
invariant-loop-place l =
    l.out ≡ l.initial.out ++ join_with_byte 44 (map (part_text l.site l.kind) (take l.place l.parts))
