-- The text of a trace: a line for each packet.
use Rattle.std.specs.Prelude.{ℕ, List, [], ◌∷◌, ◌++◌, codes, if◌then◌else◌}
use Rattle.std.specs.Fmt.{decimal}
use Rattle.std.specs.List.{flat_map}
use Rattle.fws_num.specs.Numbers.{dotted}
use Rattle.fws_net.specs.declared.connection.Conn.{Conn}
use Rattle.fws_net.specs.declared.connection.Kind.{Kind}
use Rattle.fws_net.specs.declared.connection.Kind.TheVariants.{New, Est}
use Rattle.fws_net.specs.declared.outcome.Outcome.{Outcome}
use Rattle.fws_net.specs.declared.outcome.Fate.{Fate}
use Rattle.fws_net.specs.declared.outcome.Fate.TheVariants.{Dropped, Sent}
use Rattle.fws_net.specs.declared.packet.Packet.{Packet}
use Rattle.fws_net.specs.Connections.{tuple_of, class_of, fate_in}
use Rattle.fws_net.specs.Fates.{has_ports}

abbrev pub kind_text : Kind → List ℕ
kind_text New = codes "new"
kind_text (Est r) = codes "est"

-- a port, for TCP and UDP
abbrev pub port_text : ℕ → ℕ → List ℕ
port_text proto port = if has_ports proto then 58 ∷ decimal port else []

-- an end behind its front
unfoldable pub end_text : List ℕ → ℕ → ℕ → ℕ → List ℕ
end_text front proto addr port = front ++ dotted addr ++ port_text proto port

-- a packet that is sent on with these ends
abbrev pub sent_text : ℕ → ℕ → ℕ → ℕ → ℕ → List ℕ
sent_text proto dst dport src sport = codes "accept" ++ end_text (codes " src=") proto src sport ++ end_text (codes " dst=") proto dst dport

-- the fate of a packet of this protocol
abbrev pub fate_text : ℕ → Fate → List ℕ
fate_text proto Dropped = codes "drop"
fate_text proto (Sent dst dport src sport) = sent_text proto dst dport src sport

-- the line of a packet of this class and fate
abbrev pub line_text : Packet → Kind → Fate → List ℕ
line_text p k fate = kind_text k ++ 32 ∷ fate_text p.proto fate ++ 10 ∷ []

-- the line of a packet of this class by its walk
abbrev pub line_of : (Packet → Kind → Outcome) → Packet → Kind → List ℕ
line_of walk p k = line_text p k (fate_in (walk p k) p k)

-- the line of a packet by its walk, against the connections
abbrev pub traced_line : (Packet → Kind → Outcome) → List Conn → Packet → List ℕ
traced_line walk conns p = line_of walk p (class_of conns (tuple_of p))

-- the trace of packets by their walks; no packet changes the connections
abbrev pub trace_text : (Packet → Kind → Outcome) → List Conn → List Packet → List ℕ
trace_text walk conns packets = flat_map (traced_line walk conns) packets
