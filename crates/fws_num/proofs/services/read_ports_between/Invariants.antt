use Rattle.std.proofs.Common.{◌≡◌, [], take, drop}
use Rattle.fws_num.specs.Services.{ports_behind}
use Rattle.fws_num.proofs.services.read_ports_between.Given as goal

abbrev pub invariant-loop-i : goal.invariant-loop-i
invariant-loop-i l = ports_behind (take l.i l.text) l.divider (drop l.i l.text) ≡ ports_behind [] l.divider l.text
