use Rattle.std.proofs.Common.{◌≡◌, ◌<◌, ◌+◌, ◌-◌, length, take, drop}
use Rattle.fws_events.specs.Listing.{joined}
use Rattle.fws_events.proofs.listing.place_of.Given as goal

abbrev pub invariant-loop-left : goal.invariant-loop-left
invariant-loop-left l = record {
  place : l.k ≡ length (joined (take l.at l.chunks)) + l.left;
  below : l.left < length (joined (drop l.at l.chunks));
}

abbrev pub decreases-loop-left : goal.decreases-loop-left
decreases-loop-left l = length l.chunks - l.at
