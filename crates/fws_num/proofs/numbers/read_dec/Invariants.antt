use Rattle.std.proofs.Common.{◌≡◌, ◌<◌, ◌^◌, drop}
use Rattle.std.specs.List.{list_all}
use Rattle.fws_num.specs.Numbers.{is_digit, digits_value, digits_value_after}
use Rattle.fws_num.proofs.numbers.read_dec.Given as goal

abbrev pub invariant-loop-c : goal.invariant-loop-c
invariant-loop-c l = record {
  digits : list_all is_digit (drop l.c-index l.text) ≡ list_all is_digit l.text;
  so_far : digits_value_after l.value (drop l.c-index l.text) ≡ digits_value l.text;
  short : l.value < 10 ^ l.c-index;
}
