-- What entries of access lists ask of packets.
use Rattle.std.specs.Prelude.{◌≡◌, ℕ, ◌-◌, ◌^◌, ◌%◌, ◌≤◌, ◌<◌, Bool, true, false, ◌&&◌, nat_eq, Option, Some, None, is_some, IfSome, List}
use Rattle.std.specs.List.{list_any}
use Rattle.std.specs.Option.{option_map_or}
use Rattle.fws_num.specs.declared.prefix.Prefix.{Prefix}
use Rattle.fws_iv.specs.declared.iv.Iv.{Iv}
use Rattle.fws_iv.specs.Ivs.{has, in_part}
use Rattle.fws_iv.specs.Prefixes.{prefix_has}
use Rattle.fws_net.specs.declared.packet.Packet.{Packet}
use Rattle.fws_net.specs.Fates.{has_ports}
use Rattle.fws_ios_put_entries.specs.declared.path.Path.{Path}
use Rattle.fws_ios_put_entries.specs.declared.side.Side.{Side}
use Rattle.fws_ios_put_entries.specs.declared.side.Side.TheVariants.{Proto, Src, Sport, Dst, Dport, Icmp}

-- Fields

-- the number of the field among those of a point
abbrev pub number_of : Side → ℕ
number_of Proto = 1
number_of Dst = 2
number_of Dport = 3
number_of Src = 4
number_of Sport = 5
number_of Icmp = 7

-- the greatest value of the field
abbrev pub top_of : Side → ℕ
top_of Proto = 255
top_of Dst = 2 ^ 32 - 1
top_of Dport = 65535
top_of Src = 2 ^ 32 - 1
top_of Sport = 65535
top_of Icmp = 255

-- the packet has the field, which is a member
abbrev pub hits : Side → List Iv → Packet → Bool
hits Proto set p = has set p.proto
hits Dst set p = has set p.dst
hits Dport set p = has_ports p.proto && has set p.dport
hits Src set p = has set p.src
hits Sport set p = has_ports p.proto && has set p.sport
hits Icmp set p = nat_eq p.proto 1 && has set p.icmp

-- Paths

-- nothing is asked
abbrev pub nothing_asked : Path
nothing_asked = record { proto = None; src = None; sport = None; dst = None; dport = None; icmp = None }

-- something is asked of the field
abbrev pub asks : Side → Path → Bool
asks Proto path = is_some path.proto
asks Dst path = is_some path.dst
asks Dport path = is_some path.dport
asks Src path = is_some path.src
asks Sport path = is_some path.sport
asks Icmp path = is_some path.icmp

-- the packet's protocol is as it is asked
abbrev pub proto_has : Option ℕ → Packet → Bool
proto_has proto p = option_map_or (λ n. nat_eq n p.proto) proto true

-- the address is as it is asked
abbrev pub net_has : Option Prefix → ℕ → Bool
net_has net a = option_map_or (λ part. prefix_has part a) net true

-- the packet's port is as it is asked, and it has one where it is asked
abbrev pub port_has : Option Iv → Packet → ℕ → Bool
port_has range p port = option_map_or (λ part. has_ports p.proto && in_part part port) range true

-- the packet's type is as it is asked, and it has one where it is asked
abbrev pub type_has : Option ℕ → Packet → Bool
type_has icmp p = option_map_or (λ n. nat_eq p.proto 1 && nat_eq n p.icmp) icmp true

-- the packet is as the path asks
abbrev pub path_has : Path → Packet → Bool
path_has path p =
    proto_has path.proto p && net_has path.src p.src && port_has path.sport p p.sport && net_has path.dst p.dst && port_has path.dport p p.dport
    && type_has path.icmp p

-- one of the paths is the packet's
abbrev pub some_path_has : List Path → Packet → Bool
some_path_has paths p = list_any (λ path. path_has path p) paths

-- Paths that entries can have

-- the addresses that agree in their first 1 to 32 bits
pub record IsNetwork (net : Prefix) : Type 0 where
  pub low : 1 ≤ net.len
  pub high : net.len ≤ 32
  pub fits : net.addr < 2 ^ 32
  pub cleared : net.addr % 2 ^ (32 - net.len) ≡ 0

-- a range of ports
pub record IsPortRange (range : Iv) : Type 0 where
  pub order : range.lo ≤ range.hi
  pub fits : range.hi ≤ 65535

-- a path that an entry can have: ports stand under TCP or UDP, and types under ICMP
pub record IsWritable (path : Path) : Type 0 where
  pub proto : IfSome path.proto (λ n. n ≤ 255)
  pub src : IfSome path.src IsNetwork
  pub sport : IfSome path.sport IsPortRange
  pub dst : IfSome path.dst IsNetwork
  pub dport : IfSome path.dport IsPortRange
  pub icmp : IfSome path.icmp (λ n. n ≤ 255)
  pub source_port : is_some path.sport ≡ true → option_map_or has_ports path.proto false ≡ true
  pub destination_port : is_some path.dport ≡ true → option_map_or has_ports path.proto false ≡ true
  pub typed : is_some path.icmp ≡ true → path.proto ≡ Some 1
