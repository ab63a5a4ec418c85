use Rattle.std.proofs.Common.{◌≡◌, ◌<◌, ◌^◌, drop}
use Rattle.fws_ipt.specs.Values.{hex_after}
use Rattle.fws_ipt_read.proofs.marks.hex_value.Given as goal

abbrev pub invariant-loop-c : goal.invariant-loop-c
invariant-loop-c l = record {
  so_far : hex_after l.value (drop l.c-index l.digits) ≡ hex_after 0 l.digits;
  short : l.value < 16 ^ l.c-index;
}
