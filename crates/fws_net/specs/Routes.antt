-- Where packets go: local addresses, routes and exits.
use Rattle.std.specs.Prelude.{ℕ, suc, ◌+◌, ◌/◌, ◌^◌, ◌<◌, ◌≤◌, Bool, ◌||◌, nat_eq, nat_le, Option, Some, None, List, [], ◌∷◌, ◌++◌, length, map, All, if◌then◌else◌}
use Rattle.std.specs.List.{list_any}
use Rattle.std.specs.Option.{option_map_or}
use Rattle.fws_iv.specs.Prefixes.{agree}
use Rattle.fws_net.specs.declared.exit.Exit.{Exit}
use Rattle.fws_net.specs.declared.exit.Exit.TheVariants.{Deliver, Out, Lost}
use Rattle.fws_net.specs.declared.site.Address.{Address}
use Rattle.fws_net.specs.declared.site.Iface.{Iface}
use Rattle.fws_net.specs.declared.site.RouteLine.{RouteLine}
use Rattle.fws_net.specs.declared.site.Site.{Site}

-- 127.0.0.0/8
abbrev pub is_loopback : ℕ → Bool
is_loopback a = nat_eq (a / 2 ^ 24) 127

-- the interface has the address
abbrev pub has_addr : Iface → ℕ → Bool
has_addr face a = list_any (λ own. nat_eq own.addr a) face.addrs

-- the address of an interface, or one of 127.0.0.0/8
abbrev pub is_local : Site → ℕ → Bool
is_local site a = list_any (λ face. has_addr face a) site.faces || is_loopback a

-- the network of an address of the interface with entry n
abbrev pub net_line : ℕ → Address → RouteLine
net_line n own = record { net = record { addr = own.addr; len = own.len }; face = n }

-- the networks of the interfaces' addresses, of which the first interface has entry n
abbrev pub nets_from : ℕ → List Iface → List RouteLine
nets_from n [] = []
nets_from n (face ∷ faces) = map (net_line n) face.addrs ++ nets_from (suc n) faces

-- the prefixes of a site: the networks of its interfaces' addresses and its routes
abbrev pub prefixes_of : Site → List RouteLine
prefixes_of site = nets_from 2 site.faces ++ site.routes

-- the network holds the address
abbrev pub leads : RouteLine → ℕ → Bool
leads line a = agree line.net.len line.net.addr a

-- the longer of two, the first where they are equally long
abbrev pub longer : RouteLine → Option RouteLine → RouteLine
longer line None = line
longer line (Some other) = if nat_le other.net.len line.net.len then line else other

-- the longer of two that there may be, the first where they are equally long
abbrev pub joined : Option RouteLine → Option RouteLine → Option RouteLine
joined None other = other
joined (Some line) other = Some (longer line other)

-- the longest of the networks that hold the address
abbrev pub longest : List RouteLine → ℕ → Option RouteLine
longest [] a = None
longest (line ∷ lines) a = if leads line a then Some (longer line (longest lines a)) else longest lines a

-- the entry to which the longest of the networks leads, else another one
abbrev pub led_to : List RouteLine → ℕ → ℕ → ℕ
led_to lines other a = option_map_or (λ line. line.face) (longest lines a) other

-- the entry of the interface to which a packet for the address is sent: that of the site's longest prefix that holds it,
-- else the default interface's; 0 is the host and 1 loopback
abbrev pub route_of : Site → ℕ → ℕ
route_of site a = led_to (prefixes_of site) site.fallback a

-- where a packet from this entry leaves, with this destination at the time of routing
abbrev pub exit_at : Site → ℕ → ℕ → Exit
exit_at site entry dst =
    if nat_eq entry 0 then (if is_local site dst then Out 1 else Out (route_of site dst))
    else if is_local site dst then Deliver
    else if site.forwarding then Out (route_of site dst) else Lost

-- an address of 32 bits, and a length of 1 to 32
abbrev pub IsSoundAddress : Address → Type 0
IsSoundAddress own = (1 ≤ own.len) × (own.len ≤ 32) × (own.addr < 2 ^ 32)

-- an interface has an address, and all its addresses are sound
abbrev pub IsSoundFace : Iface → Type 0
IsSoundFace face = (1 ≤ length face.addrs) × All IsSoundAddress face.addrs

-- a network of 32 bits with a length of up to 32, and one of n interfaces
abbrev pub IsSoundRoute : ℕ → RouteLine → Type 0
IsSoundRoute n line = (line.net.len ≤ 32) × (line.net.addr < 2 ^ 32) × (2 ≤ line.face) × (line.face ≤ n + 1)

-- what every site that was read meets: 1 to 62 interfaces, sound addresses and routes, and a fallback among the interfaces
pub record IsSound (site : Site) : Type 0 where
  pub some_faces : 1 ≤ length site.faces
  pub few_faces : length site.faces ≤ 62
  pub faces_sound : All IsSoundFace site.faces
  pub routes_sound : All (IsSoundRoute (length site.faces)) site.routes
  pub fallback_low : 2 ≤ site.fallback
  pub fallback_high : site.fallback ≤ length site.faces + 1
