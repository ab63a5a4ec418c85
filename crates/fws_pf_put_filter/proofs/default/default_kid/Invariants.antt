use Rattle.std.proofs.Common.{◌≡◌, ◌<◌, length, vec_len}
use Rattle.fws_pf_put_filter.proofs.default.default_kid.Given as goal

abbrev pub invariant-loop-i : goal.invariant-loop-i
invariant-loop-i l = record {
  within : l.best < length l.kids;
  size : vec_len l.sums ≡ vec_len l.fn.sums;
}
