-- Tracked connections: which packets belong to one, and what becomes of them.
use Rattle.std.specs.Prelude.{ℕ, Bool, true, false, ◌&&◌, ◌||◌, not, nat_eq, List, [], ◌∷◌, if◌then◌else◌}
use Rattle.fws_net.specs.declared.packet.Packet.{Packet}
use Rattle.fws_net.specs.declared.connection.Tuple.{Tuple}
use Rattle.fws_net.specs.declared.connection.Conn.{Conn}
use Rattle.fws_net.specs.declared.connection.Rec.{Rec}
use Rattle.fws_net.specs.declared.connection.Kind.{Kind}
use Rattle.fws_net.specs.declared.connection.Kind.TheVariants.{New, Est}
use Rattle.fws_net.specs.declared.outcome.Outcome.{Outcome}
use Rattle.fws_net.specs.declared.outcome.Outcome.TheVariants.{Drop, Accept}
use Rattle.fws_net.specs.declared.outcome.Fate.{Fate}
use Rattle.fws_net.specs.declared.outcome.Fate.TheVariants.{Dropped, Sent}
use Rattle.fws_net.specs.Fates.{has_ports, sent}

-- the tuple of a packet
abbrev pub tuple_of : Packet → Tuple
tuple_of p = record { proto = p.proto; dst = p.dst; dport = p.dport; src = p.src; sport = p.sport }

-- two tuples match: equal protocols and addresses and, for TCP and UDP, equal ports
abbrev pub matches : Tuple → Tuple → Bool
matches a b = nat_eq a.proto b.proto && nat_eq a.dst b.dst && nat_eq a.src b.src
    && (not (has_ports a.proto) || (nat_eq a.dport b.dport && nat_eq a.sport b.sport))

-- source and destination exchanged
abbrev pub inverse : Tuple → Rec
inverse t = record { rdst = t.src; rdport = t.sport; rsrc = t.dst; rsport = t.dport }

-- the class of the packets with this tuple: the first connection of which a tuple matches, its original tried before its reply;
-- the packet leaves as the inverse of the other tuple
abbrev pub class_of : List Conn → Tuple → Kind
class_of [] t = New
class_of (c ∷ cs) t =
    if matches c.orig t then Est (inverse c.reply) else if matches c.reply t then Est (inverse c.orig) else class_of cs t

-- packets of the class belong to a tracked connection
abbrev pub is_est : Kind → Bool
is_est New = false
is_est (Est r) = true

-- a port of an established packet as it leaves: another one for TCP and UDP alone
abbrev pub est_port : ℕ → ℕ → ℕ → ℕ
est_port proto port old = if has_ports proto then port else old

-- the fate of an accepted established packet
abbrev pub est_sent : Rec → Packet → Fate
est_sent r p = Sent r.rdst (est_port p.proto r.rdport p.dport) r.rsrc (est_port p.proto r.rsport p.sport)

-- the fate of a packet of a class, by the outcome of its walk
abbrev pub fate_in : Outcome → Packet → Kind → Fate
fate_in Drop p k = Dropped
fate_in (Accept w) p New = sent w p
fate_in (Accept w) p (Est r) = est_sent r p
