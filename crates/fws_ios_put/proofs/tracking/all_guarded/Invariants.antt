use Rattle.std.proofs.Common.{◌≡◌, ◌+◌, ◌-◌}
use Rattle.std.specs.List.{list_all, range_with_len}
use Rattle.fws_ios_print.specs.Printable.{face_count}
use Rattle.fws_ios_put.specs.Placed.{is_guarded}
use Rattle.fws_ios_put.proofs.tracking.all_guarded.Given as goal

abbrev pub invariant-loop-i : goal.invariant-loop-i
invariant-loop-i l =
    list_all (is_guarded l.groups) (range_with_len (l.i + 1) (face_count l.site - l.i)) ≡ list_all (is_guarded l.groups) (range_with_len 1 (face_count l.site))
