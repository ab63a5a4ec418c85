use Rattle.std.proofs.Common.{◌≡◌}
use Rattle.fws_net.specs.Points.{tops_of}
use Rattle.fws_exec.specs.Courses.{Keeps}
use Rattle.fws_exec.specs.Sheets.{tops_in, IsSheet}
use Rattle.fws_exec.proofs.sheet.Sheet.leap.Given as goal

abbrev pub invariant-loop-number : goal.invariant-loop-number
invariant-loop-number l = record {
  sheet : IsSheet l.self;
  tops : tops_in l.self ≡ tops_of l.errand.ground.site.now;
  same : tops_in l.self ≡ tops_in l.initial.self;
  kept : Keeps l.errand l.initial.self l.self;
}
