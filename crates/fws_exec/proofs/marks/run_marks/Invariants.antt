use Rattle.std.proofs.Common.{◌≡◌, ◌-◌, ℕ, cond, List, drop, length}
use Rattle.fws_box.specs.Boxes.{sides_of}
use Rattle.fws_box.specs.Sides.{sides_have, IsWithin}
use Rattle.fws_net.specs.Points.{tops_of}
use Rattle.fws_tree.specs.Marks.{mark_at}
use Rattle.fws_exec.specs.Divided.{seen_at}
use Rattle.fws_exec.specs.Runs.{picked}
use Rattle.fws_exec.proofs.marks.run_marks.Given as goal

abbrev pub invariant-loop-at : goal.invariant-loop-at
invariant-loop-at l = (p : List ℕ) → IsWithin (tops_of l.ground.site.now) p
    → mark_at l.marks.items (cond (sides_have (sides_of l.area) p) (picked l.place (seen_at l.ground.site.now l.ground.state l.fn.part l.progress p) (drop l.at l.code)) 0) p
    ≡ cond (sides_have (sides_of l.area) p) (picked l.place (seen_at l.ground.site.now l.ground.state l.fn.part l.progress p) l.code) 0

abbrev pub decreases-loop-at : goal.decreases-loop-at
decreases-loop-at l = length l.code - l.at
