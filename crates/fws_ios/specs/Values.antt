-- The values of words, and the tests that they mean (Cisco IOS).
use Rattle.std.specs.Prelude.{ℕ, ◌-◌, ◌+◌, ◌^◌, Bool, false, ◌||◌, nat_eq, nat_lt, Option, Some, None, is_some, option_map, List, [], ◌∷◌, find, codes, if◌then◌else◌}
use Rattle.std.specs.List.{list_all, range_with_len}
use Rattle.std.specs.Option.{option_map_or}
use Rattle.fws_iv.specs.declared.iv.Iv.{Iv}
use Rattle.fws_num.specs.Named.{named_in}
use Rattle.fws_num.specs.Numbers.{dec_of, is_digit, quad_of}
use Rattle.fws_num.specs.Protocols.{ios_protocol_of}
use Rattle.fws_net.specs.declared.condition.Lit.{Lit}
use Rattle.fws_net.specs.declared.condition.Test.{Test}
use Rattle.fws_net.specs.declared.condition.Test.TheVariants as tests
use Rattle.fws_net.specs.Faces.{block}
use Rattle.fws_rules.specs.Literals.{negative, one, positive}
use Rattle.fws_ios.specs.declared.draft.Place.{Place}
use Rattle.fws_ios.specs.declared.draft.Place.TheVariants.{Source, Destination}
use Rattle.fws_ios.specs.declared.words.PortWord.{PortWord}
use Rattle.fws_ios.specs.declared.words.PortWord.TheVariants as ports
use Rattle.fws_ios.specs.Keywords.{is}

-- Numbers

-- a decimal number of any size
abbrev pub is_number : List ℕ → Bool
is_number [] = false
is_number (c ∷ cs) = list_all is_digit (c ∷ cs)

-- Protocols and addresses

-- the protocol; none for every one, which is spelled `ip`
abbrev pub protocol_value : List ℕ → Option (Option ℕ)
protocol_value text = if is text (codes "ip") then Some None else option_map Some (ios_protocol_of text)

-- the wildcard of the first n bits: its other bits are ones
abbrev pub wildcard_of : ℕ → ℕ
wildcard_of n = 2 ^ (32 - n) - 1

-- how many bits are compared under a wildcard; none for one that isn't zeros followed by ones
unfoldable pub wildcard_len : ℕ → Option ℕ
wildcard_len wildcard = find (λ n. nat_eq (wildcard_of n) wildcard) (range_with_len 0 33)

-- a mask is contiguous where its other bits are a wildcard of zeros followed by ones
abbrev pub is_netmask : List ℕ → Bool
is_netmask text = option_map_or (λ mask. is_some (wildcard_len (2 ^ 32 - 1 - mask))) (quad_of text) false

abbrev pub is_prefix_length : List ℕ → Bool
is_prefix_length text = is_some (dec_of text 32)

-- addresses at a place
abbrev pub address_test : Place → List Iv → Test
address_test Source set = tests.Src set
address_test Destination set = tests.Dst set

-- the addresses that agree with this one in their first bits
abbrev pub address_literal : Place → ℕ → ℕ → Lit
address_literal place len addr = positive (address_test place (block len addr ∷ []))

-- Ports

abbrev pub port_test : Place → List Iv → Test
port_test Source set = tests.Sport set
port_test Destination set = tests.Dport set

-- the ports below this one; none below 0
abbrev pub ports_below : ℕ → List Iv
ports_below port = if nat_eq port 0 then [] else one 0 (port - 1)

-- the ports above this one; none above 65535
abbrev pub ports_above : ℕ → List Iv
ports_above port = if nat_lt port 65535 then one (port + 1) 65535 else []

-- the literal of a port that is compared so; that of a range needs its last port too
abbrev pub port_literal : Place → PortWord → ℕ → Lit
port_literal place ports.Equal port = positive (port_test place (one port port))
port_literal place ports.Unequal port = negative (port_test place (one port port))
port_literal place ports.Less port = positive (port_test place (ports_below port))
port_literal place ports.Greater port = positive (port_test place (ports_above port))
port_literal place ports.Range port = positive (port_test place (one port port))

-- the literal of a range of ports
abbrev pub range_literal : Place → ℕ → ℕ → Lit
range_literal place first last = positive (port_test place (one first last))

-- TCP and UDP
abbrev pub has_ports : Option ℕ → Bool
has_ports protocol = option_map_or (λ n. nat_eq n 6 || nat_eq n 17) protocol false

-- ICMP types

-- types and their numbers, as Cisco IOS names them from IANA's registry of ICMP types
abbrev pub icmp_type_names : List (List ℕ × ℕ)
icmp_type_names = (codes "echo", 8) ∷ (codes "echo-reply", 0) ∷ (codes "unreachable", 3) ∷ (codes "time-exceeded", 11) ∷ []

unfoldable pub icmp_type_named : List ℕ → Option ℕ
icmp_type_named name = named_in icmp_type_names name

-- a type: a decimal 0 to 255 or a name
abbrev pub icmp_type_of : List ℕ → Option ℕ
icmp_type_of text = option_map_or Some (dec_of text 255) (icmp_type_named text)
