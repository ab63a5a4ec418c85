use Rattle.std.proofs.Common.{◌≡◌, ◌+◌, ◌++◌, drop}
use Rattle.fws_num.specs.Written.{ended}
use Rattle.fws_ios_print.specs.PrintedText.{nats_lines}
use Rattle.fws_ios_print.proofs.translations.put_nats.Given as goal

abbrev pub invariant-loop-nat : goal.invariant-loop-nat
invariant-loop-nat l = record {
  counted : l.ahead ≡ l.nat-index;
  put : l.out ++ ended (nats_lines (l.ahead + 1) (drop l.nat-index l.nats)) ≡ l.initial.out ++ ended (nats_lines 1 l.nats);
}
