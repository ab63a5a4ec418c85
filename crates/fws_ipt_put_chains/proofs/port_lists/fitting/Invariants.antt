use Rattle.std.proofs.Common.{◌≡◌, ◌≤◌, take}
use Rattle.fws_ipt_print.specs.Printable.{all_places}
use Rattle.fws_ipt_put_chains.proofs.port_lists.fitting.Given as goal

abbrev pub invariant-loop-i : goal.invariant-loop-i
invariant-loop-i l = record {
  counted : l.taken ≡ all_places (take l.i l.ranges);
  room : l.taken ≤ 15;
}
