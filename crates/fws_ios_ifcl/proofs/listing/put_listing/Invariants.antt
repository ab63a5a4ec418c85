use Rattle.std.proofs.Common.{◌≡◌, ◌++◌, drop}
use Rattle.fws_ios_ifcl.specs.Blocks.{listing}
use Rattle.fws_ios_ifcl.proofs.listing.put_listing.Given as goal

abbrev pub invariant-loop-entry : goal.invariant-loop-entry
invariant-loop-entry l =
    l.rules.items ++ listing l.permitted l.denied (drop l.entry-index l.entries) ≡ l.fn.rules.items ++ listing l.permitted l.denied l.entries
