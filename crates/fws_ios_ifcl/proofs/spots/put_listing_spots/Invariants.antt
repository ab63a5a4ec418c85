use Rattle.std.proofs.Common.{◌≡◌, ◌++◌, drop}
use Rattle.fws_ios_ifcl.specs.Placed.{listing_spots}
use Rattle.fws_ios_ifcl.proofs.spots.put_listing_spots.Given as goal

abbrev pub invariant-loop-entry : goal.invariant-loop-entry
invariant-loop-entry l =
    l.spots.items ++ listing_spots l.chain l.place l.next (drop l._entry-index l.entries)
    ≡ l.fn.spots.items ++ listing_spots l.chain l.at l.rule l.entries
