use Rattle.std.proofs.Common.{◌≡◌, ℕ, false, drop}
use Rattle.fws_net.specs.Points.{tops_of}
use Rattle.fws_exec.specs.Classes.{is_inside}
use Rattle.fws_exec.specs.Sheets.{tops_in, IsSheet, stands}
use Rattle.fws_exec.specs.Stages.{through_parts}
use Rattle.fws_exec.proofs.Telling.{Comes}
use Rattle.fws_exec.proofs.sheet.Sheet.run.Given as goal

abbrev pub invariant-loop-part : goal.invariant-loop-part
invariant-loop-part l = record {
  sheet : IsSheet l.self;
  tops : tops_in l.self ≡ tops_of l.purpose.site.now;
  same : tops_in l.self ≡ tops_in l.initial.self;
  between : (n : ℕ) → stands is_inside l.self.roll.classes.items n ≡ false;
  meant : Comes l.purpose.site.now l.initial.self l.self (through_parts l.purpose.code.now l.purpose.site.now l.purpose.state l.stage l.parts) (through_parts l.purpose.code.now l.purpose.site.now l.purpose.state l.stage (drop l.part-index l.parts));
}
