-- New packets that pass as they are.
use Rattle.std.specs.Prelude.{Bool, false, ◌&&◌, not}
use Rattle.fws_net.specs.declared.outcome.Outcome.{Outcome}
use Rattle.fws_net.specs.declared.outcome.Outcome.TheVariants.{Drop, Accept}
use Rattle.fws_place.specs.Rewritings.{writes_destination, writes_source}

-- the packet is accepted, and nothing is written
abbrev pub is_unchanged : Outcome → Bool
is_unchanged Drop = false
is_unchanged (Accept w) = not (writes_source w) && not (writes_destination w)
