use Rattle.std.proofs.Common.{◌≡◌, drop}
use Rattle.fws_ipt.specs.Values.{with_flags}
use Rattle.fws_ipt_read.proofs.flags.flags_of_items.Given as goal

abbrev pub invariant-loop-item : goal.invariant-loop-item
invariant-loop-item l = with_flags l.flags (drop l.item-index l.items) ≡ with_flags 0 l.items
