use Rattle.std.proofs.Common.{◌≡◌, length, take}
use Rattle.fws_exec.specs.Sheets.{among, AreSent}
use Rattle.fws_exec.proofs.roll.Roll.send_all.Given as goal

abbrev pub invariant-loop-number : goal.invariant-loop-number
invariant-loop-number l = record {
  sent : AreSent l.spot (among (take l.number-index l.numbers)) l.initial.self.classes.items l.self.classes.items;
  count : length l.self.classes.items ≡ length l.initial.self.classes.items;
}
