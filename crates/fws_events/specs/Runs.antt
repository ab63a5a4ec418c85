-- Runs: events one after the other, what each is answered with, and the connections that are listed behind it.
use Rattle.std.specs.Prelude.{◌≡◌, ℕ, Bool, Option, Some, None, List, [], ◌∷◌, ◌++◌, length, nat_lt, if◌then◌else◌}
use Rattle.std.specs.List.{remove}
use Rattle.fws_box.specs.Sides.{IsWithin}
use Rattle.fws_events.specs.declared.events.Answer.{Answer}
use Rattle.fws_events.specs.declared.events.Answer.TheVariants as answers
use Rattle.fws_events.specs.declared.events.Event.{Event}
use Rattle.fws_events.specs.declared.events.Event.TheVariants as events
use Rattle.fws_net.specs.declared.connection.Conn.{Conn}
use Rattle.fws_net.specs.declared.connection.Kind.{Kind}
use Rattle.fws_net.specs.declared.connection.Kind.TheVariants.{New, Est}
use Rattle.fws_net.specs.declared.connection.Tuple.{Tuple}
use Rattle.fws_net.specs.declared.outcome.Fate.{Fate}
use Rattle.fws_net.specs.declared.outcome.Fate.TheVariants.{Dropped, Sent}
use Rattle.fws_net.specs.declared.outcome.Outcome.{Outcome}
use Rattle.fws_net.specs.declared.packet.Packet.{Packet}
use Rattle.fws_net.specs.declared.site.Site.{Site}
use Rattle.fws_net.specs.Connections.{tuple_of, class_of, fate_in}
use Rattle.fws_net.specs.Points.{tops_of}
use Rattle.fws_trace.specs.Outcomes.{point_of, outcome_by}
use Rattle.fws_trace.specs.PacketText.{IsOfSite}
use Rattle.fws_tree.specs.declared.tables.Tables.{Tables}

-- Connections that are opened

-- the tuple of a packet of a protocol as it is sent on, with these ends
abbrev pub tuple_sent : ℕ → ℕ → ℕ → ℕ → ℕ → Tuple
tuple_sent proto dst dport src sport = record { proto = proto; dst = dst; dport = dport; src = src; sport = sport }

-- the inverse of a tuple: source and destination exchanged
abbrev pub turned : Tuple → Tuple
turned t = record { proto = t.proto; dst = t.src; dport = t.sport; src = t.dst; sport = t.dport }

-- the connection that a packet opens which is sent on as this tuple: its own tuple, and as reply the inverse of the tuple as sent
abbrev pub opened : Packet → Tuple → Conn
opened p as_sent = record { orig = tuple_of p; reply = turned as_sent }

-- the connection that a packet of this fate opens: none where it is dropped
abbrev pub opened_by : Packet → Fate → Option Conn
opened_by p Dropped = None
opened_by p (Sent dst dport src sport) = Some (opened p (tuple_sent p.proto dst dport src sport))

-- the connection that a configuration lists for a packet of this class and fate: for a new one, where it tracks
abbrev pub tracked : Bool → Packet → Kind → Fate → Option Conn
tracked tracks p New fate = if tracks then opened_by p fate else None
tracked tracks p (Est ends) fate = None

-- a list, and behind it a connection where there is one
abbrev pub with_conn : List Conn → Option Conn → List Conn
with_conn conns None = conns
with_conn conns (Some conn) = conns ++ conn ∷ []

-- One event

-- the class of a packet against the list
abbrev pub class_against : List Conn → Packet → Kind
class_against conns p = class_of conns (tuple_of p)

-- the fate of a packet against the list, by the outcome of its walk
abbrev pub fate_against : (Packet → Kind → Outcome) → List Conn → Packet → Fate
fate_against walk conns p = fate_in (walk p (class_against conns p)) p (class_against conns p)

-- the answer for a packet of this class and fate
abbrev pub answer_of : Kind → Fate → Answer
answer_of New fate = answers.New fate
answer_of (Est ends) fate = answers.Est fate

-- the answer to an event, where these connections are listed. Entries are counted from 0
abbrev pub answer_to : (Packet → Kind → Outcome) → List Conn → Event → Answer
answer_to walk conns (events.Packet p) = answer_of (class_against conns p) (fate_against walk conns p)
answer_to walk conns (events.Expire k) = if nat_lt k (length conns) then answers.Expired else answers.NoEntry

-- the connection that an event appends, in a configuration that tracks or doesn't
abbrev pub appended_by : Bool → (Packet → Kind → Outcome) → List Conn → Event → Option Conn
appended_by tracks walk conns (events.Packet p) = tracked tracks p (class_against conns p) (fate_against walk conns p)
appended_by tracks walk conns (events.Expire k) = None

-- the connections that are listed behind an event: with the one that a packet appends, or without entry k, if there is one
abbrev pub conns_behind : Bool → (Packet → Kind → Outcome) → List Conn → Event → List Conn
conns_behind tracks walk conns (events.Packet p) = with_conn conns (tracked tracks p (class_against conns p) (fate_against walk conns p))
conns_behind tracks walk conns (events.Expire k) = remove conns k

-- Many events

-- the answers to events in their order
abbrev pub answers_to : Bool → (Packet → Kind → Outcome) → List Conn → List Event → List Answer
answers_to tracks walk conns [] = []
answers_to tracks walk conns (e ∷ es) = answer_to walk conns e ∷ answers_to tracks walk (conns_behind tracks walk conns e) es

-- the connections that are listed behind all events
abbrev pub conns_behind_all : Bool → (Packet → Kind → Outcome) → List Conn → List Event → List Conn
conns_behind_all tracks walk conns [] = conns
conns_behind_all tracks walk conns (e ∷ es) = conns_behind_all tracks walk (conns_behind tracks walk conns e) es

-- the list behind each of the events
abbrev pub conns_behind_each : Bool → (Packet → Kind → Outcome) → List Conn → List Event → List (List Conn)
conns_behind_each tracks walk conns [] = []
conns_behind_each tracks walk conns (e ∷ es) =
    conns_behind tracks walk conns e ∷ conns_behind_each tracks walk (conns_behind tracks walk conns e) es

-- Laws

-- two walks give every packet and class the same fate
abbrev pub GiveSameFates : (Packet → Kind → Outcome) → (Packet → Kind → Outcome) → Type 0
GiveSameFates walk other = (p : Packet) (k : Kind) → fate_in (walk p k) p k ≡ fate_in (other p k) p k

-- two walks give every packet of the site and every class, with ends for which there is room, the same fate
abbrev pub GiveSameFatesAt : Site → (Packet → Kind → Outcome) → (Packet → Kind → Outcome) → Type 0
GiveSameFatesAt site walk other = (p : Packet) (k : Kind) → IsWithin (tops_of site) (point_of p k) → fate_in (walk p k) p k ≡ fate_in (other p k) p k

-- a walk gives them the fates that the tables give
abbrev pub GivesFates : Site → Tables → (Packet → Kind → Outcome) → Type 0
GivesFates site t walk = GiveSameFatesAt site walk (outcome_by t)

-- a packet is met as one of the site, with the class that it has against the list
abbrev pub IsMet : Site → List Conn → Event → Type 0
IsMet site conns (events.Packet p) = IsWithin (tops_of site) (point_of p (class_against conns p))
IsMet site conns (events.Expire k) = Unit {0}

-- each packet is, when its turn comes
abbrev pub AreMet : Site → Bool → (Packet → Kind → Outcome) → List Conn → List Event → Type 0
AreMet site tracks walk conns [] = Unit {0}
AreMet site tracks walk conns (e ∷ es) = IsMet site conns e × AreMet site tracks walk (conns_behind tracks walk conns e) es

-- an event of the site: a packet that is one of the site, or an expiry
abbrev pub IsEventOf : Site → Event → Type 0
IsEventOf site (events.Packet p) = IsOfSite site p
IsEventOf site (events.Expire k) = Unit {0}
