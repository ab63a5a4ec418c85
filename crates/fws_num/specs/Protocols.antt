-- IP protocols as they are spelled: numbers and names.
use Rattle.std.specs.Prelude.{ℕ, Option, Some, List, [], ◌∷◌, codes}
use Rattle.std.specs.Option.{option_map_or}
use Rattle.fws_num.specs.Named.{named_in}
use Rattle.fws_num.specs.Numbers.{dec_of}

-- protocols and their numbers, as protocols(5) has them from IANA's registry of protocol numbers
abbrev pub protocol_names : List (List ℕ × ℕ)
protocol_names =
    (codes "icmp", 1) ∷ (codes "igmp", 2) ∷ (codes "ipencap", 4) ∷ (codes "tcp", 6) ∷ (codes "udp", 17) ∷
    (codes "dccp", 33) ∷ (codes "ipv6", 41) ∷ (codes "gre", 47) ∷ (codes "esp", 50) ∷ (codes "ah", 51) ∷
    (codes "eigrp", 88) ∷ (codes "ospf", 89) ∷ (codes "pim", 103) ∷ (codes "vrrp", 112) ∷ (codes "sctp", 132) ∷
    (codes "udplite", 136) ∷ []

-- the number of a protocol's name
unfoldable pub protocol_named : List ℕ → Option ℕ
protocol_named name = named_in protocol_names name

-- a protocol: a decimal 0 to 255 or a name
abbrev pub protocol_of : List ℕ → Option ℕ
protocol_of text = option_map_or Some (dec_of text 255) (protocol_named text)

-- further names of protocols in access lists of Cisco IOS, as its manuals have them
abbrev pub ios_protocol_names : List (List ℕ × ℕ)
ios_protocol_names = (codes "ahp", 51) ∷ (codes "ipinip", 4) ∷ []

-- a protocol in an access list of Cisco IOS: a decimal 0 to 255, a name as anywhere or one of those
abbrev pub ios_protocol_of : List ℕ → Option ℕ
ios_protocol_of text = option_map_or Some (protocol_of text) (named_in ios_protocol_names text)
