use Rattle.std.proofs.Common.{◌≡◌, ◌≤◌}
use Rattle.fws_net.specs.Points.{tops_of}
use Rattle.fws_exec.specs.Passing.{Passed, IsOnward}
use Rattle.fws_exec.specs.Sheets.{among, tops_in, IsSheet}
use Rattle.fws_exec.proofs.sheet.Sheet.meet_run.Given as goal

abbrev pub invariant-loop-at : goal.invariant-loop-at
invariant-loop-at l = record {
  sheet : IsSheet l.self;
  tops : tops_in l.self ≡ tops_of l.errand.ground.site.now;
  same : tops_in l.self ≡ tops_in l.initial.self;
  low : l.place ≤ l.at;
  passed : Passed l.errand (among l.numbers) l.place l.at l.initial.self l.self;
  onward : IsOnward l.place l.initial.self.roll.classes.items l.self.roll.classes.items;
}
