-- The interfaces of a site: their addresses and networks, and their names in the four systems.
use Rattle.std.specs.Prelude.{ℕ, suc, ◌+◌, ◌-◌, ◌*◌, ◌%◌, ◌^◌, nat_eq, nat_lt, slice_get, Option, Some, None, List, [], ◌∷◌, ◌++◌, map, if◌then◌else◌}
use Rattle.std.specs.List.{starts_with}
use Rattle.std.specs.Option.{option_map_or}
use Rattle.std.specs.Str.{bytes_eq}
use Rattle.fws_num.specs.declared.prefix.Prefix.{Prefix}
use Rattle.fws_iv.specs.declared.iv.Iv.{Iv}
use Rattle.fws_iv.specs.Ivs.{with_range, with_ranges}
use Rattle.fws_net.specs.declared.packet.Lang.{Lang}
use Rattle.fws_net.specs.declared.packet.Lang.TheVariants.{Iptables, Ipfw, Pf, Ios}
use Rattle.fws_net.specs.declared.site.Address.{Address}
use Rattle.fws_net.specs.declared.site.Names.{Names}
use Rattle.fws_net.specs.declared.site.Iface.{Iface}
use Rattle.fws_net.specs.declared.site.Site.{Site}

-- 127.0.0.1, the address of loopback
abbrev pub loopback_addr : ℕ
loopback_addr = 127 * 2 ^ 24 + 1

-- the addresses that agree in their first len bits
abbrev pub block : ℕ → ℕ → Iv
block len addr = record { lo = addr - addr % 2 ^ (32 - len); hi = (addr - addr % 2 ^ (32 - len)) + (2 ^ (32 - len) - 1) }

-- the addresses of a prefix
abbrev pub prefix_parts : Prefix → List Iv
prefix_parts p = block p.len p.addr ∷ []

-- the interface of an entry from 2 on
abbrev pub face_at : Site → ℕ → Option Iface
face_at site entry = if nat_lt entry 2 then None else slice_get site.faces (entry - 2)

-- the first address of an interface
abbrev pub first_addr : Iface → ℕ
first_addr face = option_map_or (λ own. own.addr) (slice_get face.addrs 0) 0

-- the address of an entry's interface, where one is meant
abbrev pub face_addr : Site → ℕ → ℕ
face_addr site entry = if nat_eq entry 1 then loopback_addr else option_map_or first_addr (face_at site entry) 0

-- an address by itself
abbrev pub host_range : Address → Iv
host_range own = record { lo = own.addr; hi = own.addr }

-- the addresses of an interface
abbrev pub own_ranges : Iface → List Iv
own_ranges face = map host_range face.addrs

-- the network of an address
abbrev pub net_range : Address → Iv
net_range own = block own.len own.addr

-- the networks of an interface
abbrev pub net_ranges : Iface → List Iv
net_ranges face = map net_range face.addrs

-- all addresses of an entry's interface
abbrev pub face_addrs : Site → ℕ → List Iv
face_addrs site entry =
    if nat_eq entry 1 then record { lo = loopback_addr; hi = loopback_addr } ∷ []
    else option_map_or (λ face. with_ranges [] (own_ranges face)) (face_at site entry) []

-- the networks of an entry's interface, for loopback 127.0.0.0/8
abbrev pub face_nets : Site → ℕ → List Iv
face_nets site entry =
    if nat_eq entry 1 then block 8 loopback_addr ∷ []
    else option_map_or (λ face. with_ranges [] (net_ranges face)) (face_at site entry) []

-- the addresses of the interfaces
abbrev pub all_own_ranges : List Iface → List Iv
all_own_ranges [] = []
all_own_ranges (face ∷ faces) = own_ranges face ++ all_own_ranges faces

-- the local addresses: those of the interfaces and 127.0.0.0/8
abbrev pub local_parts : Site → List Iv
local_parts site = with_range (127 * 2 ^ 24) (127 * 2 ^ 24 + (2 ^ 24 - 1)) (with_ranges [] (all_own_ranges site.faces))

-- a name of an interface in a system
abbrev pub name_in : Lang → Names → List ℕ
name_in Iptables names = names.ipt
name_in Ipfw names = names.ipfw
name_in Pf names = names.pf
name_in Ios names = names.ios

-- the entry of the first interface with this name in a system, counted from n
abbrev pub named_from : ℕ → Lang → List Iface → List ℕ → Option ℕ
named_from n lang [] name = None
named_from n lang (face ∷ faces) name = if bytes_eq (name_in lang face.names) name then Some n else named_from (suc n) lang faces name

-- the entry of the interface with this name in a system
abbrev pub entry_named : Lang → Site → List ℕ → Option ℕ
entry_named lang site name = if bytes_eq (name_in lang site.lo) name then Some 1 else named_from 2 lang site.faces name

-- the set with an entry, if its name begins with the front
abbrev pub with_entry : ℕ → List ℕ → List ℕ → List Iv → List Iv
with_entry n name front set = if starts_with nat_eq name front then with_range n n set else set

-- the set with the entries from n on whose names in a system begin with the front
abbrev pub with_entries : ℕ → Lang → List Iface → List ℕ → List Iv → List Iv
with_entries n lang [] front set = set
with_entries n lang (face ∷ faces) front set =
    with_entries (suc n) lang faces front (with_entry n (name_in lang face.names) front set)

-- the entries whose interfaces have names in a system that begin with the front
abbrev pub entries_beginning : Lang → Site → List ℕ → List Iv
entries_beginning lang site front = with_entries 2 lang site.faces front (with_entry 1 (name_in lang site.lo) front [])
