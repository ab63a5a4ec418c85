-- What becomes of a packet that is accepted.
use Rattle.std.specs.Prelude.{ℕ, ◌+◌, ◌-◌, ◌%◌, ◌^◌, Bool, ◌||◌, nat_eq, Option, Some, None, unwrap_or, option_and_then, if◌then◌else◌}
use Rattle.fws_net.specs.declared.packet.Packet.{Packet}
use Rattle.fws_net.specs.declared.outcome.End.{End}
use Rattle.fws_net.specs.declared.outcome.Rewrite.{Rewrite}
use Rattle.fws_net.specs.declared.outcome.Fate.{Fate}
use Rattle.fws_net.specs.declared.outcome.Fate.TheVariants.{Sent}

-- TCP and UDP have ports
abbrev pub has_ports : ℕ → Bool
has_ports proto = nat_eq proto 6 || nat_eq proto 17

-- an address with the first bits of an end written over it
abbrev pub written_addr : Option End → ℕ → ℕ
written_addr None a = a
written_addr (Some e) a = e.addr + a % 2 ^ (32 - e.len)

-- the port that an end writes, else the port as it was
abbrev pub written_port : Option End → ℕ → ℕ
written_port end port = unwrap_or (option_and_then (λ e. e.port) end) port

-- a port is written for TCP and UDP alone
abbrev pub sent_port : ℕ → Option End → ℕ → ℕ
sent_port proto end port = if has_ports proto then written_port end port else port

-- the fate of an accepted new packet: each written end stands over its address and port
abbrev pub sent : Rewrite → Packet → Fate
sent w p = Sent (written_addr w.dst p.dst) (sent_port p.proto w.dst p.dport) (written_addr w.src p.src) (sent_port p.proto w.src p.sport)
