-- Points: the fields of a packet and of the packet as an established connection sends it, as a list of numbers.
use Rattle.std.specs.Prelude.{ℕ, ◌+◌, ◌-◌, ◌^◌, List, [], ◌∷◌, length, slice_index}
use Rattle.fws_net.specs.declared.packet.Packet.{Packet}
use Rattle.fws_net.specs.declared.site.Site.{Site}

-- the greatest value of each field: entry, proto, dst, dport, src, sport, flags, icmp, rdst, rdport, rsrc, rsport
abbrev pub tops_of : Site → List ℕ
tops_of site = (length site.faces + 1) ∷ 255 ∷ (2 ^ 32 - 1) ∷ 65535 ∷ (2 ^ 32 - 1) ∷ 65535 ∷ 63 ∷ 255
    ∷ (2 ^ 32 - 1) ∷ 65535 ∷ (2 ^ 32 - 1) ∷ 65535 ∷ []

-- the packet of a point
abbrev pub packet_of : List ℕ → Packet
packet_of p = record {
  entry = slice_index p 0;
  proto = slice_index p 1;
  dst = slice_index p 2;
  dport = slice_index p 3;
  src = slice_index p 4;
  sport = slice_index p 5;
  flags = slice_index p 6;
  icmp = slice_index p 7;
}
