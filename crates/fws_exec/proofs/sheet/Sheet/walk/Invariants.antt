use Rattle.std.proofs.Common.{◌≡◌, ◌-◌, ◌≤◌}
use Rattle.fws_net.specs.Points.{tops_of}
use Rattle.fws_exec.specs.Courses.{Keeps}
use Rattle.fws_exec.specs.Sheets.{tops_in, IsSheet}
use Rattle.fws_exec.proofs.sheet.Sheet.walk.Given as goal

abbrev pub invariant-loop-place : goal.invariant-loop-place
invariant-loop-place l = record {
  sheet : IsSheet l.self;
  tops : tops_in l.self ≡ tops_of l.errand.ground.site.now;
  same : tops_in l.self ≡ tops_in l.initial.self;
  kept : Keeps l.errand l.initial.self l.self;
  low : l.errand.part.first ≤ l.place;
  high : l.place ≤ l.past;
}

abbrev pub decreases-loop-place : goal.decreases-loop-place
decreases-loop-place l = l.past - l.place
