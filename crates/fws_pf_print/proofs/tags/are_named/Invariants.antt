use Rattle.std.proofs.Common.{◌≡◌, drop}
use Rattle.fws_pf_print.specs.Printable.{are_named}
use Rattle.fws_pf_print.proofs.tags.are_named.Given as goal

abbrev pub invariant-loop-name : goal.invariant-loop-name
invariant-loop-name l = record { counted : l.n ≡ l.name-index; left : are_named l.n (drop l.name-index l.names) ≡ are_named 0 l.names }
