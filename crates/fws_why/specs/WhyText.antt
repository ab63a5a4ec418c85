-- The text that says which rules decide.
use Rattle.std.specs.Prelude.{ℕ, List, ◌++◌, codes}
use Rattle.std.specs.List.{flat_map}
use Rattle.fws_net.specs.declared.connection.Conn.{Conn}
use Rattle.fws_net.specs.declared.connection.Kind.{Kind}
use Rattle.fws_net.specs.declared.outcome.Outcome.{Outcome}
use Rattle.fws_net.specs.declared.packet.Packet.{Packet}
use Rattle.fws_net.specs.Connections.{tuple_of, class_of}
use Rattle.fws_dead.specs.RuleText.{rule_line}
use Rattle.fws_trace.specs.TraceText.{line_of}

-- the line of a rule that a packet uses, by its number from 0
abbrev pub used_line : List (List ℕ) → ℕ → List ℕ
used_line labels n = codes "  " ++ rule_line labels n

-- the lines of these rules
abbrev pub used_lines : List (List ℕ) → List ℕ → List ℕ
used_lines labels numbers = flat_map (used_line labels) numbers

-- what is said of a packet of this class: the line of its trace, and a line for each rule that its walk uses, in the order in which it
-- comes to them
abbrev pub packet_text : (Packet → Kind → Outcome) → (Packet → Kind → List ℕ) → List (List ℕ) → Packet → Kind → List ℕ
packet_text walk used labels p k = line_of walk p k ++ used_lines labels (used p k)

-- what is said of packets, by their classes against the connections; no packet changes these
abbrev pub why_text : (Packet → Kind → Outcome) → (Packet → Kind → List ℕ) → List (List ℕ) → List Conn → List Packet → List ℕ
why_text walk used labels conns packets = flat_map (λ p. packet_text walk used labels p (class_of conns (tuple_of p))) packets
