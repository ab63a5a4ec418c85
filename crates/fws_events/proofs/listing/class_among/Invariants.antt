use Rattle.std.proofs.Common.{◌≡◌, drop}
use Rattle.fws_events.specs.Listing.{joined}
use Rattle.fws_net.specs.Connections.{tuple_of, class_of}
use Rattle.fws_events.proofs.listing.class_among.Given as goal

abbrev pub invariant-loop-chunk : goal.invariant-loop-chunk
invariant-loop-chunk l = class_of (joined (drop l.chunk-index l.chunks)) (tuple_of l.p) ≡ class_of (joined l.chunks) (tuple_of l.p)
