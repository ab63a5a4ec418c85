use Rattle.std.proofs.Common.{◌≡◌, ◌++◌, take}
use Rattle.std.specs.List.{join_with_byte}
use Rattle.fws_table.specs.TableText.{field_kinds, side_texts}
use Rattle.fws_table.proofs.row_text.put_sides.Given as goal

abbrev pub invariant-loop-field : goal.invariant-loop-field
invariant-loop-field l =
    l.out ≡ l.initial.out ++ join_with_byte 32 (take l.field (side_texts l.site field_kinds l.tops l.sides))
