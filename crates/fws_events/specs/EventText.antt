-- A text of events.
use Rattle.std.specs.Prelude.{ℕ, Option, None, Result, List, [], ◌∷◌, codes, if◌then◌else◌}
use Rattle.std.specs.Option.{option_map, option_or}
use Rattle.std.specs.Str.{bytes_eq}
use Rattle.fws_num.specs.declared.word.Word.{Word}
use Rattle.fws_num.specs.Numbers.{dec_of}
use Rattle.fws_events.specs.declared.events.Event.{Event}
use Rattle.fws_events.specs.declared.events.Event.TheVariants.{Packet, Expire}
use Rattle.fws_net.specs.declared.site.Site.{Site}
use Rattle.fws_trace.specs.Lines.{text_listed}
use Rattle.fws_trace.specs.PacketText.{spelled_packet}

-- the expiry of two words: `expire`, and the number of an entry
abbrev pub spelled_expiry : List Word → Option Event
spelled_expiry (word ∷ k ∷ []) = if bytes_eq word.text (codes "expire") then option_map (λ n. Expire n) (dec_of k.text 4294967295) else None
spelled_expiry _ = None

-- the event of a line's words: the packet that they spell, or else an expiry
abbrev pub event_of : Site → List Word → Option Event
event_of site words = option_or (option_map (λ p. Packet p) (spelled_packet site words)) (spelled_expiry words)

-- the events that a text lists, or the number of its first line that spells none
abbrev pub events_of : List ℕ → Site → Result (List Event) ℕ
events_of text site = text_listed (event_of site) text
