use Rattle.std.proofs.Common.{◌≡◌, ◌-◌}
use Rattle.std.specs.List.{list_any, range_with_len}
use Rattle.fws_print.specs.Sets.{is_network}
use Rattle.fws_ios_print.specs.Printable.{is_prefix}
use Rattle.fws_ios_print.proofs.sets.is_prefix.Given as goal

abbrev pub invariant-loop-n : goal.invariant-loop-n
invariant-loop-n l = list_any (λ m. is_network m l.iv) (range_with_len l.n (33 - l.n)) ≡ is_prefix l.iv
