-- The values of a rule's words, and the tests that they mean (ipfw(8)).
use Rattle.std.specs.Prelude.{ℕ, true, ◌||◌, nat_eq, bit_or, bit_and, Option, Some, None, is_some, option_map, option_and_then, Result, Ok, Err, List, [], ◌∷◌, ◌++◌, codes, if◌then◌else◌}
use Rattle.std.specs.Option.{option_map_or}
use Rattle.std.specs.Str.{bytes_eq}
use Rattle.fws_iv.specs.declared.iv.Iv.{Iv}
use Rattle.fws_iv.specs.Ivs.{with_range}
use Rattle.fws_num.specs.declared.prefix.Prefix.{Prefix}
use Rattle.fws_num.specs.Named.{named_in}
use Rattle.fws_num.specs.Numbers.{dec_of, prefix_of, quad_of, split_once}
use Rattle.fws_num.specs.Pieces.{pieces_of}
use Rattle.fws_num.specs.Protocols.{protocol_of}
use Rattle.fws_net.specs.declared.cause.Cause.{Cause}
use Rattle.fws_net.specs.declared.cause.Cause.TheVariants.{Syntax}
use Rattle.fws_net.specs.declared.condition.Lit.{Lit}
use Rattle.fws_net.specs.declared.condition.Test.{Test}
use Rattle.fws_net.specs.declared.condition.Test.TheVariants as tests
use Rattle.fws_net.specs.declared.packet.Lang.TheVariants.{Ipfw}
use Rattle.fws_net.specs.declared.site.Site.{Site}
use Rattle.fws_net.specs.Faces.{block, local_parts}
use Rattle.fws_net.specs.Ports.{ports_of}
use Rattle.fws_net.specs.Reading.{and_then}
use Rattle.fws_rules.specs.Interfaces.{interfaces_of}
use Rattle.fws_rules.specs.Literals.{positive}
use Rattle.fws_ipfw.specs.declared.draft.Flags.{Flags}
use Rattle.fws_ipfw.specs.declared.words.TestOption.{TestOption}
use Rattle.fws_ipfw.specs.declared.words.TestOption.TheVariants as options

-- Numbers

-- a number from 1 to the most
abbrev pub counted : ℕ → List ℕ → Option ℕ
counted most text = option_and_then (λ n. if nat_eq n 0 then None else Some n) (dec_of text most)

-- Protocols and addresses

-- the protocol; none for every one, which is spelled `ip` or `all`
abbrev pub protocol_value : List ℕ → Option (Option ℕ)
protocol_value text = if bytes_eq text (codes "ip") || bytes_eq text (codes "all") then Some None else option_map Some (protocol_of text)

-- an address with a mask behind a colon, which is what it is with a slash
abbrev pub masked_network : List ℕ → Option Prefix
masked_network text =
    option_and_then (λ parts. if is_some (quad_of parts.1) then prefix_of (parts.0 ++ 47 ∷ parts.1) else None) (split_once 58 text)

-- a network of a list
abbrev pub network_of : List ℕ → Option Prefix
network_of text = option_map_or Some (prefix_of text) (masked_network text)

-- the addresses of a network, beside these
abbrev pub with_network : Prefix → List Iv → List Iv
with_network net set = with_range (block net.len net.addr).lo (block net.len net.addr).hi set

-- the addresses of the networks, beside these
abbrev pub with_networks : List Iv → List (List ℕ) → Option (List Iv)
with_networks set [] = Some set
with_networks set (item ∷ items) = option_and_then (λ net. with_networks (with_network net set) items) (network_of item)

-- the addresses that a word means; none for every one
abbrev pub addresses_of : Site → List ℕ → Option (Option (List Iv))
addresses_of site text =
    if bytes_eq text (codes "any") then Some None
    else if bytes_eq text (codes "me") then Some (Some (local_parts site))
    else option_map Some (with_networks [] (pieces_of 44 text))

-- Interfaces

-- the interface of this name, or with a `*` at its end every one whose name begins so
abbrev pub interface_meaning : Site → (List Iv → Test) → List ℕ → Result Lit Cause
interface_meaning site test text = and_then (interfaces_of Ipfw 42 site text) (λ set. Ok (positive (test set)))

-- Flags and ICMP types

-- TCP flags and their bits
abbrev pub tcp_flags : List (List ℕ × ℕ)
tcp_flags = (codes "fin", 1) ∷ (codes "syn", 2) ∷ (codes "rst", 4) ∷ (codes "psh", 8) ∷ (codes "ack", 16) ∷ (codes "urg", 32) ∷ []

-- the bit of a flag
unfoldable pub flag_of : List ℕ → Option ℕ
flag_of text = named_in tcp_flags text

-- a flag, which `!` before it has clear
abbrev pub with_flag : List ℕ → Flags → Option Flags
with_flag [] flags = None
with_flag (c ∷ cs) flags =
    if nat_eq c 33 then option_map (λ bit. record flags { off = bit_or flags.off bit }) (flag_of cs)
    else option_map (λ bit. record flags { on = bit_or flags.on bit }) (flag_of (c ∷ cs))

abbrev pub with_flags : Flags → List (List ℕ) → Option Flags
with_flags flags [] = Some flags
with_flags flags (item ∷ items) = option_and_then (λ more. with_flags more items) (with_flag item flags)

-- a flag that is both set and clear is one of no packet
abbrev pub flags_test : Flags → Test
flags_test flags = if nat_eq (bit_and flags.on flags.off) 0 then tests.Flags (bit_or flags.on flags.off) flags.on else tests.Never

abbrev pub flags_meaning : List ℕ → Result Lit Cause
flags_meaning text =
    option_map_or (λ flags. Ok (positive (flags_test flags))) (with_flags (record { on = 0; off = 0 }) (pieces_of 44 text)) (Err Syntax)

-- the types of the items, beside these
abbrev pub with_types : List Iv → List (List ℕ) → Option (List Iv)
with_types set [] = Some set
with_types set (item ∷ items) = option_and_then (λ n. with_types (with_range n n set) items) (dec_of item 255)

-- a literal of a set, where the set is spelled
abbrev pub set_meaning : (List Iv → Test) → Option (List Iv) → Result Lit Cause
set_meaning test set = option_map_or (λ s. Ok (positive (test s))) set (Err Syntax)

abbrev pub tag_meaning : List ℕ → Result Lit Cause
tag_meaning text = option_map_or (λ n. Ok (positive (tests.Tag n))) (counted 65534 text) (Err Syntax)

-- Options

-- what an option means that has no value; none for one that has a value
abbrev pub bare_meaning : TestOption → Option Lit
bare_meaning options.In = Some (record { not = true; test = tests.Outward })
bare_meaning options.Out = Some (positive tests.Outward)
bare_meaning options.Setup = Some (positive (tests.Flags 18 2))
bare_meaning options.Established = Some (positive (tests.AnyFlag 20))
bare_meaning _ = None

-- what an option means with its value
abbrev pub meaning_of : Site → TestOption → List ℕ → Result Lit Cause
meaning_of site options.Recv text = interface_meaning site tests.Recv text
meaning_of site options.Xmit text = interface_meaning site tests.Xmit text
meaning_of site options.Via text = interface_meaning site tests.Via text
meaning_of site options.TcpFlags text = flags_meaning text
meaning_of site options.IcmpTypes text = set_meaning tests.Icmp (with_types [] (pieces_of 44 text))
meaning_of site options.SourcePort text = set_meaning tests.Sport (ports_of 45 text)
meaning_of site options.DestinationPort text = set_meaning tests.Dport (ports_of 45 text)
meaning_of site options.Tagged text = tag_meaning text
meaning_of site _ text = Err Syntax
