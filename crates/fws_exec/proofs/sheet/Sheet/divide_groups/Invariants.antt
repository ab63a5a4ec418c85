use Rattle.std.proofs.Common.{◌≡◌, take}
use Rattle.fws_net.specs.Points.{tops_of}
use Rattle.fws_exec.specs.Divided.{held, says_of, AreMoved, AreNoted}
use Rattle.fws_exec.specs.Moving.{IsGrown}
use Rattle.fws_exec.specs.Sheets.{tops_in, IsSheet}
use Rattle.fws_exec.specs.Views.{is_in}
use Rattle.fws_exec.proofs.sheet.Sheet.divide_groups.Given as goal

abbrev pub invariant-loop-group : goal.invariant-loop-group
invariant-loop-group l = record {
  sheet : IsSheet l.self;
  tops : tops_in l.self ≡ tops_of l.ground.site.now;
  same : tops_in l.self ≡ tops_in l.initial.self;
  moved : AreMoved l.going (is_in (take l.group-index l.groups)) (held l.ground.site.now l.ground.state l.part l.cond) l.initial.self l.self;
  noted : AreNoted (says_of l.going) (is_in (take l.group-index l.groups)) (held l.ground.site.now l.ground.state l.part l.cond) l.initial.self l.self;
  grown : IsGrown l.going l.initial.self.roll.classes.items l.self.roll.classes.items;
}
