-- The configurations that are printed: those that hold what placed policies need, in the forms that Cisco IOS has for them.
use Rattle.std.specs.Prelude.{ℕ, ◌+◌, ◌*◌, ◌-◌, ◌^◌, Bool, true, false, ◌&&◌, ◌||◌, not, nat_eq, nat_le, nat_lt, List, [], ◌∷◌, codes, length, if◌then◌else◌}
use Rattle.std.specs.List.{list_all, list_any, range_with_len}
use Rattle.std.specs.Str.{bytes_eq}
use Rattle.fws_num.specs.Written.{is_plain}
use Rattle.fws_iv.specs.declared.iv.Iv.{Iv}
use Rattle.fws_net.specs.declared.condition.Lit.{Lit}
use Rattle.fws_net.specs.declared.condition.Test.{Test}
use Rattle.fws_net.specs.declared.condition.Test.TheVariants.{Src, Dst, Sport, Dport, Proto, Icmp, AnyFlag, Est}
use Rattle.fws_net.specs.declared.site.Site.{Site}
use Rattle.fws_ios.specs.declared.config.IosConfig.{IosConfig}
use Rattle.fws_ios.specs.declared.config.IosEntry.{IosEntry}
use Rattle.fws_ios.specs.declared.config.IosGroup.{IosGroup}
use Rattle.fws_ios.specs.declared.config.IosList.{IosList}
use Rattle.fws_ios.specs.declared.config.IosNat.{IosNat}
use Rattle.fws_ios.specs.declared.config.IosNat.TheVariants.{Static, List as Listed}
use Rattle.fws_ios.specs.Soundness.{are_apart}
use Rattle.fws_ios.specs.Values.{is_number as are_digits}
use Rattle.fws_print.specs.Sets.{first_number, is_network, is_number, is_range}

-- Names

-- the list that keeps the state of permitted packets
abbrev pub state_name : List ℕ
state_name = codes "CONNECTIONS"

-- a name of a list: a word of printed bytes without quotes; not of digits alone, which is a number, and not that of the list of states
abbrev pub is_list_name : List ℕ → Bool
is_list_name name = is_plain name && not (are_digits name) && not (bytes_eq name state_name)

-- Sets

-- the addresses agree in their first 1 to 32 bits, and are all that do
unfoldable pub is_prefix : Iv → Bool
is_prefix iv = list_any (λ n. is_network n iv) (range_with_len 1 32)

-- the addresses of one prefix, which isn't that of all addresses
abbrev pub is_block : List Iv → Bool
is_block set = is_range (2 ^ 32 - 1) set && list_all is_prefix set

-- Tests

-- the place of a test in an entry: the protocol, the source and its port, the destination and its port, and what stands behind them
abbrev pub place_of : Test → ℕ
place_of (Proto set) = 0
place_of (Src set) = 1
place_of (Sport set) = 2
place_of (Dst set) = 3
place_of (Dport set) = 4
place_of (Icmp set) = 5
place_of (AnyFlag mask) = 6
place_of _ = 7

-- the numbers that a test asks for, if it does
abbrev pub test_set : Test → List Iv
test_set (Proto set) = set
test_set (Src set) = set
test_set (Sport set) = set
test_set (Dst set) = set
test_set (Dport set) = set
test_set (Icmp set) = set
test_set _ = []

-- the numbers that a condition asks for at a place; none where it doesn't
abbrev pub tested : ℕ → List Lit → List Iv
tested place [] = []
tested place (lit ∷ lits) = if nat_eq (place_of lit.test) place then test_set lit.test else tested place lits

-- the protocol that a condition asks for; 0 where it asks for none
abbrev pub protocol_tested : List Lit → ℕ
protocol_tested cond = first_number (tested 0 cond)

-- the tests stand in their order, none of them twice
abbrev pub ascend : ℕ → List Lit → Bool
ascend least [] = true
ascend least (lit ∷ lits) = nat_le least (place_of lit.test) && ascend (place_of lit.test + 1) lits

-- TCP and UDP
abbrev pub is_port_protocol : ℕ → Bool
is_port_protocol protocol = nat_eq protocol 6 || nat_eq protocol 17

-- a test that is printed where a protocol is asked for: of one protocol, one prefix, one range of ports under TCP or UDP, one ICMP
-- type under ICMP, and of ACK or RST under TCP
abbrev pub is_printed_test : ℕ → Test → Bool
is_printed_test protocol (Proto set) = is_number 255 set
is_printed_test protocol (Src set) = is_block set
is_printed_test protocol (Dst set) = is_block set
is_printed_test protocol (Sport set) = is_port_protocol protocol && is_range 65535 set
is_printed_test protocol (Dport set) = is_port_protocol protocol && is_range 65535 set
is_printed_test protocol (Icmp set) = nat_eq protocol 1 && is_number 255 set
is_printed_test protocol (AnyFlag mask) = nat_eq protocol 6 && nat_eq mask 20
is_printed_test protocol _ = false

-- no literal is negated
abbrev pub is_printed_literal : ℕ → Lit → Bool
is_printed_literal protocol lit = not lit.not && is_printed_test protocol lit.test

abbrev pub is_printed_cond : List Lit → Bool
is_printed_cond cond = ascend 0 cond && list_all (is_printed_literal (protocol_tested cond)) cond

-- Entries

abbrev pub is_class : Test → Bool
is_class Est = true
is_class _ = false

-- the condition asks whether the packet is of a connection, and for nothing else
abbrev pub is_state : List Lit → Bool
is_state (lit ∷ []) = not lit.not && is_class lit.test
is_state _ = false

-- an entry that is printed: packets of connections are permitted, and others by what the condition asks for. State is kept of permitted
-- packets alone
abbrev pub is_printed_entry : IosEntry → Bool
is_printed_entry entry =
    if is_state entry.cond then entry.permit && not entry.reflect else (not entry.reflect || entry.permit) && is_printed_cond entry.cond

-- Lists

abbrev pub has_entries : List IosEntry → Bool
has_entries [] = false
has_entries (entry ∷ entries) = true

abbrev pub is_printed_list : IosList → Bool
is_printed_list l = is_list_name l.name && has_entries l.entries && list_all is_printed_entry l.entries

-- Interfaces

-- how many interfaces a site has, loopback among them
abbrev pub face_count : Site → ℕ
face_count site = length site.faces + 1

-- the place of a list that is applied: by interfaces, and inward ahead of outward
abbrev pub group_place : IosGroup → ℕ
group_place g = 2 * g.face + (if g.outward then 1 else 0)

-- the lists are applied in this order, at most one at an interface in a direction
abbrev pub groups_ascend : ℕ → List IosGroup → Bool
groups_ascend least [] = true
groups_ascend least (g ∷ gs) = nat_le least (group_place g) && groups_ascend (group_place g + 1) gs

-- a list that is applied at an interface of the site
abbrev pub is_printed_group : Site → IosGroup → Bool
is_printed_group site g = nat_le g.face (face_count site) && is_list_name g.list

-- ranges of numbers that ascend within bounds, none empty and no two touching
abbrev pub ranges_ascend : ℕ → ℕ → List Iv → Bool
ranges_ascend least most [] = true
ranges_ascend least most (iv ∷ set) = nat_le least iv.lo && nat_le iv.lo iv.hi && nat_le iv.hi most && ranges_ascend (iv.hi + 2) most set

-- two ranges have a number in common
abbrev pub meets : Iv → Iv → Bool
meets a b = nat_le a.lo b.hi && nat_le b.lo a.hi

-- no interface is on both sides
abbrev pub sides_differ : List Iv → List Iv → Bool
sides_differ inside outside = list_all (λ a. not (list_any (meets a) outside)) inside

-- the sides have interfaces of the site, and none in common
abbrev pub are_sides : Site → List Iv → List Iv → Bool
are_sides site inside outside =
    ranges_ascend 1 (face_count site) inside && ranges_ascend 1 (face_count site) outside && sides_differ inside outside

-- Translations

-- a translation that is printed: that of a list's packets to an address
abbrev pub is_printed_nat : IosNat → Bool
is_printed_nat (Listed name addr) = is_list_name name && nat_lt addr (2 ^ 32)
is_printed_nat (Static proto local global) = false

-- Configurations

-- the configuration can be printed: its lists are printed and have different names, they are applied at interfaces of the site in their
-- order, the sides have no interface in common, and all translations are those of lists, which are counted by 64 bits
abbrev pub is_printable : Site → IosConfig → Bool
is_printable site c =
    list_all is_printed_list c.lists && are_apart c.lists && groups_ascend 2 c.groups && list_all (is_printed_group site) c.groups
    && are_sides site c.inside c.outside && list_all is_printed_nat c.nats && nat_lt (length c.nats) (2 ^ 64 - 1)
