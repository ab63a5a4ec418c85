use Rattle.std.proofs.Common.{◌≡◌, ◌-◌}
use Rattle.std.specs.List.{list_any, range_with_len}
use Rattle.fws_ipt.specs.Spelled.{is_block, is_prefix_set}
use Rattle.fws_ipt_print.proofs.sets.is_prefix_set.Given as goal

abbrev pub invariant-loop-n : goal.invariant-loop-n
invariant-loop-n l = list_any (λ n. is_block n l.set) (range_with_len l.n (33 - l.n)) ≡ is_prefix_set l.len l.set
