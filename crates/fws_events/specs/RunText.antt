-- The text of a run: a line for each answer, and then the connections that are listed at the end.
use Rattle.std.specs.Prelude.{ℕ, Bool, List, [], ◌∷◌, ◌++◌, length, codes}
use Rattle.std.specs.Fmt.{decimal}
use Rattle.std.specs.List.{flat_map}
use Rattle.fws_num.specs.Numbers.{dotted}
use Rattle.fws_events.specs.declared.events.Answer.{Answer}
use Rattle.fws_events.specs.declared.events.Answer.TheVariants as answers
use Rattle.fws_events.specs.declared.events.Event.{Event}
use Rattle.fws_events.specs.declared.events.Event.TheVariants.{Packet, Expire}
use Rattle.fws_net.specs.declared.connection.Conn.{Conn}
use Rattle.fws_net.specs.declared.connection.Kind.{Kind}
use Rattle.fws_net.specs.declared.connection.Tuple.{Tuple}
use Rattle.fws_net.specs.declared.outcome.Fate.{Fate}
use Rattle.fws_net.specs.declared.outcome.Outcome.{Outcome}
use Rattle.fws_net.specs.declared.packet.Packet as packets
use Rattle.fws_events.specs.Runs.{answers_to, conns_behind_all}
use Rattle.fws_trace.specs.TraceText.{fate_text}

-- the line of a packet of a protocol, behind the word for its class
abbrev pub packet_text : List ℕ → ℕ → Fate → List ℕ
packet_text word proto fate = word ++ 32 ∷ fate_text proto fate ++ 10 ∷ []

-- the line of an expiry, behind what is said of the entry
abbrev pub expiry_text : List ℕ → ℕ → List ℕ
expiry_text said k = said ++ 32 ∷ decimal k ++ 10 ∷ []

-- the line of an event and its answer; other answers than these aren't given
abbrev pub answer_text : Event → Answer → List ℕ
answer_text (Packet p) (answers.New fate) = packet_text (codes "new") p.proto fate
answer_text (Packet p) (answers.Est fate) = packet_text (codes "est") p.proto fate
answer_text (Packet p) answers.Expired = []
answer_text (Packet p) answers.NoEntry = []
answer_text (Expire k) (answers.New fate) = []
answer_text (Expire k) (answers.Est fate) = []
answer_text (Expire k) answers.Expired = expiry_text (codes "expired") k
answer_text (Expire k) answers.NoEntry = expiry_text (codes "no entry") k

-- the lines of events and their answers
abbrev pub answers_text : List Event → List Answer → List ℕ
answers_text [] given = []
answers_text (e ∷ es) [] = []
answers_text (e ∷ es) (a ∷ given) = answer_text e a ++ answers_text es given

-- four words of a tuple, each behind a blank: destination, its port, source and its port
unfoldable pub tuple_text : Tuple → List ℕ
tuple_text t = 32 ∷ dotted t.dst ++ 32 ∷ decimal t.dport ++ 32 ∷ dotted t.src ++ 32 ∷ decimal t.sport

-- the line of a connection: its protocol, then four words of the original tuple and four of the reply tuple
abbrev pub conn_text : Conn → List ℕ
conn_text c = decimal c.orig.proto ++ tuple_text c.orig ++ tuple_text c.reply ++ 10 ∷ []

-- how many connections are listed, and each of them on a line
abbrev pub conns_text : List Conn → List ℕ
conns_text conns = codes "conns " ++ decimal (length conns) ++ 10 ∷ flat_map conn_text conns

-- the text of a run that begins with no connections
abbrev pub run_text : Bool → (packets.Packet → Kind → Outcome) → List Event → List ℕ
run_text tracks walk events = answers_text events (answers_to tracks walk [] events) ++ conns_text (conns_behind_all tracks walk [] events)
