-- What becomes of new packets that are accepted: which ends are written, and where the packet leaves.
use Rattle.std.specs.Prelude.{ℕ, suc, Bool, true, false, ◌&&◌, nat_lt, is_some, slice_get, Option}
use Rattle.std.specs.Option.{option_map_or}
use Rattle.fws_net.specs.declared.exit.Exit.{Exit}
use Rattle.fws_net.specs.declared.exit.Exit.TheVariants.{Deliver, Out, Lost}
use Rattle.fws_net.specs.declared.outcome.End.{End}
use Rattle.fws_net.specs.declared.outcome.Rewrite.{Rewrite}
use Rattle.fws_net.specs.declared.outcome.Outcome.{Outcome}
use Rattle.fws_net.specs.declared.outcome.Outcome.TheVariants.{Drop, Accept}
use Rattle.fws_net.specs.declared.packet.Packet.{Packet}
use Rattle.fws_net.specs.declared.site.Side.{Side}
use Rattle.fws_net.specs.declared.site.Side.TheVariants.{Neither, Inside, Outside}
use Rattle.fws_net.specs.declared.site.Site.{Site}
use Rattle.fws_net.specs.Fates.{written_addr}
use Rattle.fws_net.specs.Routes.{exit_at}

-- the packet is accepted with a rewriting that passes the test
abbrev pub is_accepted_with : (Rewrite → Bool) → Outcome → Bool
is_accepted_with test Drop = false
is_accepted_with test (Accept w) = test w

-- the packet is accepted
abbrev pub is_accepted : Outcome → Bool
is_accepted outcome = is_accepted_with (λ w. true) outcome

-- a source is written
abbrev pub writes_source : Rewrite → Bool
writes_source w = is_some w.src

-- a destination is written
abbrev pub writes_destination : Rewrite → Bool
writes_destination w = is_some w.dst

-- the port of a source is written
abbrev pub writes_source_port : Rewrite → Bool
writes_source_port w = option_map_or (λ e. is_some e.port) w.src false

-- less than a whole address is written
abbrev pub is_network : Option End → Bool
is_network end = option_map_or (λ e. nat_lt e.len 32) end false

-- where an accepted new packet leaves: by its entry and the destination with which it is sent
abbrev pub new_exit : Site → Packet → Rewrite → Exit
new_exit site p w = exit_at site p.entry (written_addr w.dst p.dst)

-- the packet is delivered to the host
abbrev pub is_delivered : Exit → Bool
is_delivered Deliver = true
is_delivered (Out entry) = false
is_delivered Lost = false

-- the side of translation on which an entry stands; the host and loopback stand on neither
abbrev pub side_of : Site → ℕ → Side
side_of site (suc (suc n)) = option_map_or (λ face. face.side) (slice_get site.faces n) Neither
side_of site _ = Neither

abbrev pub is_inside : Side → Bool
is_inside Inside = true
is_inside Neither = false
is_inside Outside = false

abbrev pub is_outside : Side → Bool
is_outside Outside = true
is_outside Neither = false
is_outside Inside = false

-- the packet leaves by an interface on the outside
abbrev pub leaves_outside : Site → Exit → Bool
leaves_outside site (Out entry) = is_outside (side_of site entry)
leaves_outside site Deliver = false
leaves_outside site Lost = false

-- the packet comes from the inside and leaves to the outside
abbrev pub goes_outside : Site → Packet → Rewrite → Bool
goes_outside site p w = is_inside (side_of site p.entry) && leaves_outside site (new_exit site p w)
