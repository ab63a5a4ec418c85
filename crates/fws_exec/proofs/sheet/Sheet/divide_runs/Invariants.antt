use Rattle.std.proofs.Common.{◌≡◌, take}
use Rattle.fws_net.specs.Points.{tops_of}
use Rattle.fws_exec.specs.Passing.{is_together, Passed, IsOnward}
use Rattle.fws_exec.specs.Sheets.{tops_in, IsSheet}
use Rattle.fws_exec.proofs.sheet.Sheet.divide_runs.Given as goal

abbrev pub invariant-loop-group : goal.invariant-loop-group
invariant-loop-group l = record {
  sheet : IsSheet l.self;
  tops : tops_in l.self ≡ tops_of l.errand.ground.site.now;
  same : tops_in l.self ≡ tops_in l.initial.self;
  passed : Passed l.errand (is_together l.crowded (take l.group-index l.groups)) l.place l.past l.initial.self l.self;
  onward : IsOnward l.place l.initial.self.roll.classes.items l.self.roll.classes.items;
}
