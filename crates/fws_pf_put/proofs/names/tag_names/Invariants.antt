use Rattle.std.proofs.Common.{◌≡◌, true, length}
use Rattle.fws_pf_print.specs.Printable.{are_named}
use Rattle.fws_pf_put.proofs.names.tag_names.Given as goal

abbrev pub invariant-loop-number : goal.invariant-loop-number
invariant-loop-number l = (are_named 0 l.names ≡ true) × (length l.names ≡ l.number)
