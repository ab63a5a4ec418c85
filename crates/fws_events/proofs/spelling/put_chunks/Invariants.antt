use Rattle.std.proofs.Common.{◌≡◌, ◌++◌, take}
use Rattle.std.specs.List.{flat_map}
use Rattle.fws_events.specs.Listing.{joined}
use Rattle.fws_events.specs.RunText.{conn_text}
use Rattle.fws_events.proofs.spelling.put_chunks.Given as goal

abbrev pub invariant-loop-chunk : goal.invariant-loop-chunk
invariant-loop-chunk l = l.out ≡ l.fn.out ++ flat_map conn_text (joined (take l.chunk-index l.chunks))
