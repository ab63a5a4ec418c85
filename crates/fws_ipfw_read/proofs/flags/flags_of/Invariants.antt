use Rattle.std.proofs.Common.{◌≡◌, drop}
use Rattle.fws_ipfw.specs.Values.{with_flags}
use Rattle.fws_ipfw_read.proofs.flags.flags_of.Given as goal

abbrev pub invariant-loop-item : goal.invariant-loop-item
invariant-loop-item l = with_flags l.flags (drop l.item-index l.items) ≡ with_flags (record { on = 0; off = 0 }) l.items
