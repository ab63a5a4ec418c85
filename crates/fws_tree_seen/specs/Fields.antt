-- The fields of a packet.
use Rattle.std.specs.Prelude.{ℕ, ◌-◌, ◌^◌, Bool, true, ◌&&◌, nat_eq, List}
use Rattle.fws_iv.specs.declared.iv.Iv.{Iv}
use Rattle.fws_iv.specs.Ivs.{has}
use Rattle.fws_net.specs.declared.packet.Packet.{Packet}
use Rattle.fws_net.specs.Fates.{has_ports}
use Rattle.fws_tree_seen.specs.declared.field.PacketField.{PacketField}
use Rattle.fws_tree_seen.specs.declared.field.PacketField.TheVariants.{Proto, Dst, Dport, Src, Sport, Flags, Icmp}
use Rattle.fws_tree_seen.specs.Shown.{value_of}

-- the protocol has the field
abbrev pub suits : PacketField → ℕ → Bool
suits Proto proto = true
suits Dst proto = true
suits Dport proto = has_ports proto
suits Src proto = true
suits Sport proto = has_ports proto
suits Flags proto = nat_eq proto 6
suits Icmp proto = nat_eq proto 1

-- the packet has the field, and its value is a member
abbrev pub hits : PacketField → List Iv → Packet → Bool
hits field set q = suits field q.proto && has set (value_of field q)

-- the greatest value of a field
abbrev pub top_of : PacketField → ℕ
top_of Proto = 255
top_of Dst = 2 ^ 32 - 1
top_of Dport = 65535
top_of Src = 2 ^ 32 - 1
top_of Sport = 65535
top_of Flags = 63
top_of Icmp = 255
