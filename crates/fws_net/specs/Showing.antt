-- The interfaces with which a packet may be shown to a rule.
use Rattle.std.specs.Prelude.{ℕ, nat_eq, Option, Some, None, if◌then◌else◌}
use Rattle.fws_net.specs.declared.packet.Packet.{Packet}
use Rattle.fws_net.specs.declared.exit.Exit.{Exit}
use Rattle.fws_net.specs.declared.exit.Exit.TheVariants.{Deliver, Out, Lost}
use Rattle.fws_net.specs.declared.site.Site.{Site}
use Rattle.fws_net.specs.Routes.{exit_at}

-- the receiving interface; the host's own packets come from none
abbrev pub receiving : Packet → Option ℕ
receiving packet = if nat_eq packet.entry 0 then None else Some packet.entry

abbrev pub out_of : Exit → Option ℕ
out_of Deliver = None
out_of (Out entry) = Some entry
out_of Lost = None

-- the sending interface is that of the destination as it stands
abbrev pub sending : Site → Packet → Option ℕ
sending site packet = out_of (exit_at site packet.entry packet.dst)
