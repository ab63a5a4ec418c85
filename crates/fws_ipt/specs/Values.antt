-- The values of a rule's options, and the tests that they mean (iptables(8), iptables-extensions(8)).
use Rattle.std.specs.Prelude.{ℕ, ◌+◌, ◌-◌, ◌*◌, ◌^◌, Bool, true, false, ◌&&◌, ◌||◌, not, nat_eq, nat_le, Option, Some, None, is_some, option_and_then, Result, Ok, Err, List, [], ◌∷◌, length, codes, if◌then◌else◌}
use Rattle.std.specs.List.{list_all, list_any}
use Rattle.std.specs.Option.{option_map, option_map_or, ok_or}
use Rattle.std.specs.Str.{bytes_eq}
use Rattle.std.specs.Int.Bits.{bit_or}
use Rattle.fws_num.specs.declared.prefix.Prefix.{Prefix}
use Rattle.fws_num.specs.Named.{named_in}
use Rattle.fws_num.specs.Numbers.{is_digit, dec_of, quad_of, prefix_of, split_once}
use Rattle.fws_num.specs.Pieces.{pieces_of}
use Rattle.fws_num.specs.Protocols.{protocol_of}
use Rattle.fws_num.specs.Services.{port_of, ports_between}
use Rattle.fws_iv.specs.declared.iv.Iv.{Iv}
use Rattle.fws_net.specs.declared.condition.Lit.{Lit}
use Rattle.fws_net.specs.declared.condition.Test.{Test}
use Rattle.fws_net.specs.declared.condition.Test.TheVariants as tests
use Rattle.fws_net.specs.declared.packet.Lang.TheVariants.{Iptables}
use Rattle.fws_net.specs.declared.cause.Cause.{Cause}
use Rattle.fws_net.specs.declared.cause.Cause.TheVariants.{Syntax, LeftOut}
use Rattle.fws_net.specs.declared.site.Site.{Site}
use Rattle.fws_net.specs.Faces.{prefix_parts, local_parts}
use Rattle.fws_net.specs.Ports.{in_order, ports_of, address_range, addresses_between}
use Rattle.fws_net.specs.Reading.{and_then}
use Rattle.fws_rules.specs.Interfaces.{interfaces_of}
use Rattle.fws_rules.specs.Literals.{positive, one}
use Rattle.fws_ipt.specs.declared.words.TestOption.{TestOption}
use Rattle.fws_ipt.specs.declared.words.TestOption.TheVariants as options
use Rattle.fws_ipt.specs.Options.{is_one_of}

-- a literal of a set, where the set is spelled
abbrev pub set_meaning : (List Iv → Test) → Option (List Iv) → Result (Option Lit) Cause
set_meaning test set = option_map_or (λ s. Ok (Some (positive (test s)))) set (Err Syntax)

-- a literal of a range, where the range is spelled
abbrev pub range_meaning : (List Iv → Test) → Option (ℕ × ℕ) → Result (Option Lit) Cause
range_meaning test range = set_meaning test (option_map (λ r. one r.0 r.1) range)

-- Addresses and interfaces

-- the literal of a prefix
abbrev pub prefix_literal : (List Iv → Test) → Prefix → Lit
prefix_literal test net = positive (test (prefix_parts net))

-- the interface of this name, or with a `+` at its end every one whose name begins so
abbrev pub interface_meaning : Site → (List Iv → Test) → List ℕ → Result (Option Lit) Cause
interface_meaning site test text = and_then (interfaces_of Iptables 43 site text) (λ set. Ok (Some (positive (test set))))

-- types of addresses
abbrev pub address_types : List (List ℕ)
address_types =
    codes "UNSPEC" ∷ codes "UNICAST" ∷ codes "LOCAL" ∷ codes "BROADCAST" ∷ codes "ANYCAST" ∷ codes "MULTICAST" ∷
    codes "BLACKHOLE" ∷ codes "UNREACHABLE" ∷ codes "PROHIBIT" ∷ codes "THROW" ∷ codes "NAT" ∷ codes "XRESOLVE" ∷ []

-- a type of addresses
unfoldable pub is_address_type : List ℕ → Bool
is_address_type text = is_one_of address_types text

-- LOCAL alone is read of the types of addresses
abbrev pub type_meaning : Site → (List Iv → Test) → List ℕ → Result (Option Lit) Cause
type_meaning site test text =
    if bytes_eq text (codes "LOCAL") then Ok (Some (positive (test (local_parts site))))
    else if list_all is_address_type (pieces_of 44 text) then Err LeftOut else Err Syntax

-- Protocols, ports, flags, ICMP types

-- the protocol; none for every one, which is spelled `all` or 0
abbrev pub protocol_value : List ℕ → Result (Option ℕ) Cause
protocol_value text =
    if bytes_eq text (codes "all") then Ok None
    else option_map_or (λ n. if nat_eq n 0 then Ok None else Ok (Some n)) (protocol_of text) (Err Syntax)

-- an end of a port range; one that is left empty is the given one
abbrev pub end_of_range : ℕ → List ℕ → Option ℕ
end_of_range empty text = if bytes_eq text [] then Some empty else port_of text

-- a port, or a range with a colon whose ends may be left empty
abbrev pub open_range : List ℕ → Option (ℕ × ℕ)
open_range text = option_map_or
    (λ parts. option_and_then (λ lo. option_and_then (λ hi. in_order (lo, hi)) (end_of_range 65535 parts.1)) (end_of_range 0 parts.0))
    (split_once 58 text)
    (option_map (λ p. (p, p)) (port_of text))

-- TCP flags and their bits
abbrev pub tcp_flags : List (List ℕ × ℕ)
tcp_flags = (codes "FIN", 1) ∷ (codes "SYN", 2) ∷ (codes "RST", 4) ∷ (codes "PSH", 8) ∷ (codes "ACK", 16) ∷ (codes "URG", 32) ∷ []

-- the bit of a flag
unfoldable pub flag_of : List ℕ → Option ℕ
flag_of text = named_in tcp_flags text

-- words that stand alone for several flags
abbrev pub flag_sets : List (List ℕ × ℕ)
flag_sets = (codes "ALL", 63) ∷ (codes "NONE", 0) ∷ []

-- the bits of such a word
unfoldable pub flag_set : List ℕ → Option ℕ
flag_set text = named_in flag_sets text

-- the flags of the items, beside these
abbrev pub with_flags : ℕ → List (List ℕ) → Option ℕ
with_flags flags [] = Some flags
with_flags flags (item ∷ items) = option_and_then (λ flag. with_flags (bit_or flags flag) items) (flag_of item)

-- flags joined by commas, or ALL or NONE alone
abbrev pub flags_of : List ℕ → Option ℕ
flags_of text = option_map_or Some (flag_set text) (with_flags 0 (pieces_of 44 text))

-- `--syn` stands for `--tcp-flags FIN,SYN,RST,ACK SYN`
abbrev pub syn_literal : Lit
syn_literal = positive (tests.Flags 23 2)

-- a type and a code behind a slash
abbrev pub is_type_and_code : List ℕ → Bool
is_type_and_code text = option_map_or (λ parts. is_some (dec_of parts.0 255) && is_some (dec_of parts.1 255)) (split_once 47 text) false

abbrev pub numbered_type : ℕ → Result (Option Lit) Cause
numbered_type n = if nat_eq n 255 then Err LeftOut else Ok (Some (positive (tests.Icmp (one n n))))

abbrev pub icmp_meaning : List ℕ → Result (Option Lit) Cause
icmp_meaning text =
    if bytes_eq text (codes "any") then Ok None
    else option_map_or numbered_type (dec_of text 255) (if is_type_and_code text then Err LeftOut else Err Syntax)

-- Connections and marks

-- states of connections
abbrev pub states : List (List ℕ)
states = codes "NEW" ∷ codes "ESTABLISHED" ∷ codes "RELATED" ∷ codes "INVALID" ∷ codes "UNTRACKED" ∷ codes "SNAT" ∷ codes "DNAT" ∷ []

-- a state of connections
unfoldable pub is_state : List ℕ → Bool
is_state text = is_one_of states text

-- states of translated connections, which are left out
abbrev pub translation_states : List (List ℕ)
translation_states = codes "SNAT" ∷ codes "DNAT" ∷ []

-- a state of translated connections
unfoldable pub is_translation_state : List ℕ → Bool
is_translation_state text = is_one_of translation_states text

-- every packet is new or established, and no packet is anything else
abbrev pub state_literal : Bool → Bool → Option Lit
state_literal true true = None
state_literal true false = Some (record { not = true; test = tests.Est })
state_literal false true = Some (positive tests.Est)
state_literal false false = Some (positive tests.Never)

abbrev pub states_meaning : List (List ℕ) → Result (Option Lit) Cause
states_meaning items =
    if not (list_all is_state items) then Err Syntax
    else if list_any is_translation_state items then Err LeftOut
    else Ok (state_literal (list_any (bytes_eq (codes "NEW")) items) (list_any (bytes_eq (codes "ESTABLISHED")) items))

abbrev pub state_meaning : List ℕ → Result (Option Lit) Cause
state_meaning text = states_meaning (pieces_of 44 text)

-- the value of a hexadecimal digit
abbrev pub hex_digit : ℕ → Option ℕ
hex_digit c =
    if is_digit c then Some (c - 48)
    else if nat_le 97 c && nat_le c 102 then Some (c - 87)
    else if nat_le 65 c && nat_le c 70 then Some (c - 55)
    else None

-- the number of hexadecimal digits, behind those that spell v
abbrev pub hex_after : ℕ → List ℕ → Option ℕ
hex_after v [] = Some v
hex_after v (c ∷ cs) = option_and_then (λ d. hex_after (v * 16 + d) cs) (hex_digit c)

-- 1 to 16 hexadecimal digits of a number of 32 bits
abbrev pub hex_of : List ℕ → Option ℕ
hex_of digits =
    if nat_le 1 (length digits) && nat_le (length digits) 16
    then option_and_then (λ n. if nat_le n (2 ^ 32 - 1) then Some n else None) (hex_after 0 digits) else None

-- a number of 32 bits, in decimals or behind `0x` in hexadecimals
abbrev pub number_of : List ℕ → Option ℕ
number_of (a ∷ b ∷ digits) = if nat_eq a 48 && nat_eq b 120 then hex_of digits else dec_of (a ∷ b ∷ digits) (2 ^ 32 - 1)
number_of text = dec_of text (2 ^ 32 - 1)

-- a number, and maybe a mask behind a slash
abbrev pub masked_of : List ℕ → Option (ℕ × Option ℕ)
masked_of text = option_map_or
    (λ parts. option_and_then (λ v. option_map (λ mask. (v, Some mask)) (number_of parts.1)) (number_of parts.0))
    (split_once 47 text)
    (option_map (λ v. (v, None)) (number_of text))

abbrev pub is_full_mask : ℕ → Bool
is_full_mask mask = nat_eq mask (2 ^ 32 - 1)

-- a mark that is tested whole; its mask may lack
abbrev pub tested_mark : ℕ × Option ℕ → Result ℕ Cause
tested_mark value = if option_map_or is_full_mask value.1 true then Ok value.0 else Err LeftOut

-- the value of `--mark`
abbrev pub mark_value : List ℕ → Result ℕ Cause
mark_value text = and_then (ok_or (masked_of text) Syntax) tested_mark

abbrev pub mark_meaning : List ℕ → Result (Option Lit) Cause
mark_meaning text = and_then (mark_value text) (λ v. Ok (Some (positive (tests.Tag v))))

-- a mark that is set whole, with its mask
abbrev pub set_whole : ℕ × Option ℕ → Result ℕ Cause
set_whole value = option_map_or (λ mask. if is_full_mask mask then Ok value.0 else Err LeftOut) value.1 (Err Syntax)

-- the value of `--set-xmark`
abbrev pub xmark_value : List ℕ → Result ℕ Cause
xmark_value text = and_then (ok_or (masked_of text) Syntax) set_whole

-- a mark that is set without a mask
abbrev pub set_plain : ℕ × Option ℕ → Result ℕ Cause
set_plain value = if is_some value.1 then Err LeftOut else Ok value.0

-- the value of `--set-mark`
abbrev pub set_mark_value : List ℕ → Result ℕ Cause
set_mark_value text = and_then (ok_or (masked_of text) Syntax) set_plain

-- Translations

-- a port, or a range of ports, which is left out
abbrev pub is_ports : List ℕ → Bool
is_ports text = is_some (port_of text) || is_some (ports_between 45 text)

-- an address, a range of addresses, or nothing: a range and nothing are left out
abbrev pub is_place : List ℕ → Bool
is_place text = bytes_eq text [] || is_some (quad_of text) || is_some (addresses_between text)

-- an address and a port
abbrev pub address_and_port : List ℕ → List ℕ → Option (ℕ × Option ℕ)
address_and_port front back = option_and_then (λ a. option_map (λ p. (a, Some p)) (port_of back)) (quad_of front)

-- an address with something behind a colon
abbrev pub placed_ports : List ℕ → List ℕ → Result (ℕ × Option ℕ) Cause
placed_ports front back = option_map_or Ok (address_and_port front back) (if is_place front && is_ports back then Err LeftOut else Err Syntax)

-- an address alone
abbrev pub placed_alone : List ℕ → Result (ℕ × Option ℕ) Cause
placed_alone text =
    option_map_or (λ a. Ok (a, None)) (quad_of text) (if is_some (addresses_between text) then Err LeftOut else Err Syntax)

-- the value of `--to-source` and `--to-destination`: an address, and maybe a port behind a colon
abbrev pub place_of : List ℕ → Result (ℕ × Option ℕ) Cause
place_of text = option_map_or (λ parts. placed_ports parts.0 parts.1) (split_once 58 text) (placed_alone text)

-- the value of `--to-ports`
abbrev pub to_port : List ℕ → Result ℕ Cause
to_port text = option_map_or Ok (port_of text) (if is_some (ports_between 45 text) then Err LeftOut else Err Syntax)

-- an address with a mask behind a slash
abbrev pub is_masked : List ℕ → Bool
is_masked text = option_map_or (λ parts. is_some (quad_of parts.1)) (split_once 47 text) false

-- an address with a number behind a slash
abbrev pub is_numbered : List ℕ → Bool
is_numbered text = option_map_or (λ parts. is_some (quad_of parts.0) && is_some (dec_of parts.1 (2 ^ 64 - 1))) (split_once 47 text) false

-- a network has a length, which isn't 0
abbrev pub with_length : List ℕ → Prefix → Result Prefix Cause
with_length text net = if nat_eq net.len 0 || is_masked text then Err LeftOut else Ok net

-- the value of `--to`: an address, and maybe a length from 1 to 32 behind a slash; any other number, and a mask, are left out
abbrev pub network_of : List ℕ → Result Prefix Cause
network_of text = option_map_or (with_length text) (prefix_of text) (if is_numbered text then Err LeftOut else Err Syntax)

-- Options

-- the literal of an option with one value; none where it holds of every packet. `-s`, `-d`, `-p`, `--tcp-flags` and `--syn` have steps of their own
abbrev pub meaning_of : Site → TestOption → List ℕ → Result (Option Lit) Cause
meaning_of site options.Source text = Err Syntax
meaning_of site options.Destination text = Err Syntax
meaning_of site options.InInterface text = interface_meaning site tests.Recv text
meaning_of site options.OutInterface text = interface_meaning site tests.Xmit text
meaning_of site options.Protocol text = Err Syntax
meaning_of site options.SourcePort text = range_meaning tests.Sport (open_range text)
meaning_of site options.DestinationPort text = range_meaning tests.Dport (open_range text)
meaning_of site options.SourcePorts text = set_meaning tests.Sport (ports_of 58 text)
meaning_of site options.DestinationPorts text = set_meaning tests.Dport (ports_of 58 text)
meaning_of site options.TcpFlags text = Err Syntax
meaning_of site options.Syn text = Err Syntax
meaning_of site options.IcmpType text = icmp_meaning text
meaning_of site options.State text = state_meaning text
meaning_of site options.ConnectionState text = state_meaning text
meaning_of site options.Mark text = mark_meaning text
meaning_of site options.SourceRange text = range_meaning tests.Src (address_range text)
meaning_of site options.DestinationRange text = range_meaning tests.Dst (address_range text)
meaning_of site options.SourceType text = type_meaning site tests.Src text
meaning_of site options.DestinationType text = type_meaning site tests.Dst text
