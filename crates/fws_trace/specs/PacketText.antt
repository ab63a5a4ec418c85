-- A text of packets.
use Rattle.std.specs.Prelude.{ℕ, ◌+◌, ◌≤◌, Option, Some, None, option_and_then, Result, List, [], ◌∷◌, length, codes, if◌then◌else◌}
use Rattle.std.specs.Option.{option_map}
use Rattle.std.specs.Str.{bytes_eq}
use Rattle.fws_num.specs.declared.word.Word.{Word}
use Rattle.fws_num.specs.Numbers.{dec_of}
use Rattle.fws_net.specs.declared.connection.Tuple.{Tuple}
use Rattle.fws_net.specs.declared.packet.Packet.{Packet}
use Rattle.fws_net.specs.declared.site.Site.{Site}
use Rattle.fws_net.specs.SiteLines.{entry_from}
use Rattle.fws_trace.specs.ConnectionText.{spelled_tuple}
use Rattle.fws_trace.specs.Lines.{text_listed}

-- the entry of a name: the host, loopback, or an interface of the site
abbrev pub spelled_entry : Site → List ℕ → Option ℕ
spelled_entry site name =
    if bytes_eq name (codes "host") then Some 0
    else if bytes_eq name (codes "lo") then Some 1
    else entry_from 2 site.faces name

-- a packet with this tuple
abbrev pub packet_with : ℕ → Tuple → ℕ → ℕ → Packet
packet_with entry t flags icmp = record {
  entry = entry;
  proto = t.proto;
  dst = t.dst;
  dport = t.dport;
  src = t.src;
  sport = t.sport;
  flags = flags;
  icmp = icmp;
}

-- flags and an ICMP type
abbrev pub spelled_marks : Word → Word → Option (ℕ × ℕ)
spelled_marks flags icmp = option_and_then (λ f. option_map (λ i. (f, i)) (dec_of icmp.text 255)) (dec_of flags.text 63)

-- the packet from an entry, of the further words: protocol, destination, its port, source, its port, flags and ICMP type
abbrev pub spelled_from : ℕ → List Word → Option Packet
spelled_from entry (proto ∷ dst ∷ dport ∷ src ∷ sport ∷ flags ∷ icmp ∷ []) = option_and_then
    (λ t. option_map (λ marks. packet_with entry t marks.0 marks.1) (spelled_marks flags icmp))
    (spelled_tuple proto dst dport src sport)
spelled_from entry _ = None

-- the packet of eight words, of which the first names the entry
abbrev pub spelled_packet : Site → List Word → Option Packet
spelled_packet site [] = None
spelled_packet site (entry ∷ words) = option_and_then (λ from. spelled_from from words) (spelled_entry site entry.text)

-- the packets that a text lists, or the number of its first line that spells none
abbrev pub packets_of : List ℕ → Site → Result (List Packet) ℕ
packets_of text site = text_listed (spelled_packet site) text

-- a packet of the site: it comes from the host, loopback or an interface, and has no other flags than there are
pub record IsOfSite (site : Site) (p : Packet) : Type 0 where
  pub entered : p.entry ≤ length site.faces + 1
  pub flagged : p.flags ≤ 63
