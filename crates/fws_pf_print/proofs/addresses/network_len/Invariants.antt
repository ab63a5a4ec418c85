use Rattle.std.proofs.Common.{◌≡◌, ◌-◌}
use Rattle.std.specs.List.{find, range_with_len}
use Rattle.fws_print.specs.Sets.{is_network}
use Rattle.fws_pf_print.specs.PrintedText.{network_len}
use Rattle.fws_pf_print.proofs.addresses.network_len.Given as goal

abbrev pub invariant-loop-n : goal.invariant-loop-n
invariant-loop-n l = find (λ m. is_network m l.iv) (range_with_len l.n (33 - l.n)) ≡ network_len l.iv
