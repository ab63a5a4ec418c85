-- A text of tracked connections.
use Rattle.std.specs.Prelude.{ℕ, Option, None, option_and_then, Result, List, [], ◌∷◌}
use Rattle.std.specs.Option.{option_map}
use Rattle.fws_num.specs.declared.word.Word.{Word}
use Rattle.fws_num.specs.Numbers.{dec_of, quad_of}
use Rattle.fws_net.specs.declared.connection.Tuple.{Tuple}
use Rattle.fws_net.specs.declared.connection.Conn.{Conn}
use Rattle.fws_trace.specs.Lines.{text_listed}

-- an address and a port
abbrev pub spelled_end : Word → Word → Option (ℕ × ℕ)
spelled_end addr port = option_and_then (λ a. option_map (λ n. (a, n)) (dec_of port.text 65535)) (quad_of addr.text)

-- a tuple of a protocol and two ends
abbrev pub tuple_with : ℕ → ℕ × ℕ → ℕ × ℕ → Tuple
tuple_with proto dst src = record { proto = proto; dst = dst.0; dport = dst.1; src = src.0; sport = src.1 }

-- the tuple of five words: protocol, destination, its port, source and its port
abbrev pub spelled_tuple : Word → Word → Word → Word → Word → Option Tuple
spelled_tuple proto dst dport src sport = option_and_then
    (λ n. option_and_then (λ to. option_map (λ from. tuple_with n to from) (spelled_end src sport)) (spelled_end dst dport))
    (dec_of proto.text 255)

-- the connection of nine words: a protocol, then four words of the original tuple and four of the reply tuple
abbrev pub spelled_conn : List Word → Option Conn
spelled_conn (proto ∷ a ∷ b ∷ c ∷ d ∷ e ∷ f ∷ g ∷ h ∷ []) = option_and_then
    (λ orig. option_map (λ reply. record { orig = orig; reply = reply }) (spelled_tuple proto e f g h))
    (spelled_tuple proto a b c d)
spelled_conn _ = None

-- the connections that a text lists, or the number of its first line that spells none
abbrev pub conns_of : List ℕ → Result (List Conn) ℕ
conns_of text = text_listed spelled_conn text
