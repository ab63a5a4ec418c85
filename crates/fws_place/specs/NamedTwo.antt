-- Two points as packets or pairs that are named together.
use Rattle.std.specs.Prelude.{ℕ, Option, Some, None, List}
use Rattle.fws_net.specs.Points.{packet_of}
use Rattle.fws_place.specs.declared.breach.Pair.{Pair}
use Rattle.fws_place.specs.Meaning.{rec_of}

-- the packets of two points
abbrev pub packets_at : List ℕ → List ℕ → Pair × Option Pair
packets_at p q = (record { packet = packet_of p; rec = None }, Some (record { packet = packet_of q; rec = None }))

-- the pairs of two points
abbrev pub pairs_at : List ℕ → List ℕ → Pair × Option Pair
pairs_at p q = (record { packet = packet_of p; rec = Some (rec_of p) }, Some (record { packet = packet_of q; rec = Some (rec_of q) }))
