-- The configurations that are printed: those that hold what placed policies need, in tables that iptables-restore(8) loads.
use Rattle.std.specs.Prelude.{ℕ, ◌+◌, ◌-◌, ◌^◌, Bool, true, false, ◌&&◌, ◌||◌, not, nat_eq, nat_le, nat_lt, is_some, Option, List, [], ◌∷◌, length, if◌then◌else◌}
use Rattle.std.specs.List.{list_all, list_any}
use Rattle.std.specs.Option.{option_map_or}
use Rattle.fws_num.specs.declared.prefix.Prefix.{Prefix}
use Rattle.fws_iv.specs.declared.iv.Iv.{Iv}
use Rattle.fws_net.specs.declared.condition.Lit.{Lit}
use Rattle.fws_net.specs.declared.condition.Test.{Test}
use Rattle.fws_net.specs.declared.condition.Test.TheVariants.{Src, Dst, Sport, Dport, Proto, Icmp, Flags, Recv, Est, Tag}
use Rattle.fws_net.specs.declared.outcome.End.{End}
use Rattle.fws_net.specs.declared.site.Site.{Site}
use Rattle.fws_ipt.specs.declared.config.IptTable.{IptTable}
use Rattle.fws_ipt.specs.declared.config.IptTable.TheVariants.{Filter, Nat, Mangle}
use Rattle.fws_ipt.specs.declared.config.IptGo.{IptGo}
use Rattle.fws_ipt.specs.declared.config.IptGo.TheVariants.{Accept, Drop, Goto, Mark, Source, Dest, Netmap}
use Rattle.fws_ipt.specs.declared.config.IptRule.{IptRule}
use Rattle.fws_ipt.specs.declared.config.IptChain.{IptChain}
use Rattle.fws_ipt.specs.declared.config.IptConfig.{IptConfig}
use Rattle.fws_ipt.specs.declared.hook.Hook.{Hook}
use Rattle.fws_ipt.specs.Hooks.{hook_named}
use Rattle.fws_ipt.specs.Soundness.{are_apart, is_named, is_user_chain}
use Rattle.fws_ipt.specs.Spelled.{asks_protocol, asks_ports, is_network, names_block}
use Rattle.fws_ipt.specs.Walk.{is_table, shows_recv, writes_dst_at, writes_src_at}
use Rattle.fws_print.specs.Sets.{are_ranges, ascend_from as ascend_up_to, is_number, is_range}

-- Names

-- a small letter, a digit or `-`
abbrev pub is_name_byte : ℕ → Bool
is_name_byte c = (nat_le 97 c && nat_le c 122) || (nat_le 48 c && nat_le c 57) || nat_eq c 45

abbrev pub begins_with_letter : List ℕ → Bool
begins_with_letter [] = false
begins_with_letter (c ∷ cs) = nat_le 97 c && nat_le c 122

-- a name of a chain of the user's: it begins with a small letter, and has at most 28 bytes
abbrev pub is_chain_name : List ℕ → Bool
is_chain_name name = begins_with_letter name && list_all is_name_byte name && nat_le (length name) 28

-- Tests

-- the places that a range takes in a list of ports: one for a single port, and else two
abbrev pub places_of : Iv → ℕ
places_of iv = if nat_eq iv.lo iv.hi then 1 else 2

abbrev pub all_places : List Iv → ℕ
all_places [] = 0
all_places (iv ∷ set) = places_of iv + all_places set

-- ranges of ports that ascend from a number on and don't touch
abbrev pub ascend_from : ℕ → List Iv → Bool
ascend_from from set = ascend_up_to 65535 from set

-- ports that one list holds: at least one range, and at most fifteen places
abbrev pub are_ports : List Iv → Bool
are_ports set = are_ranges 65535 set && nat_le (all_places set) 15

-- the number of an option, which stands once in a rule
abbrev pub option_of : Test → ℕ
option_of (Proto set) = 0
option_of (Src set) = 1
option_of (Dst set) = 2
option_of (Sport set) = 3
option_of (Dport set) = 4
option_of (Flags mask want) = 5
option_of (Icmp set) = 6
option_of (Recv set) = 7
option_of Est = 8
option_of (Tag n) = 9
option_of _ = 10

-- no two literals have the same option
abbrev pub are_different : List Lit → Bool
are_different [] = true
are_different (lit ∷ lits) = list_all (λ other. not (nat_eq (option_of lit.test) (option_of other.test))) lits && are_different lits

-- a test that is printed: of a protocol but 0, of one range of addresses, of ports under TCP or UDP, of flags under TCP, of an
-- ICMP type but 255 under ICMP, of one interface where it is shown, of the class, and of a mark
abbrev pub is_printed_test : Site → Bool → List Lit → Test → Bool
is_printed_test site shown cond (Proto set) = is_number 255 set && not (list_any (λ iv. nat_eq iv.lo 0) set)
is_printed_test site shown cond (Src set) = is_range (2 ^ 32 - 1) set
is_printed_test site shown cond (Dst set) = is_range (2 ^ 32 - 1) set
is_printed_test site shown cond (Sport set) = asks_ports cond && are_ports set
is_printed_test site shown cond (Dport set) = asks_ports cond && are_ports set
is_printed_test site shown cond (Flags mask want) = asks_protocol 6 cond && nat_le mask 63 && nat_le want 63
is_printed_test site shown cond (Icmp set) = asks_protocol 1 cond && is_number 254 set
is_printed_test site shown cond (Recv set) = shown && is_number (length site.faces + 1) set && not (list_any (λ iv. nat_eq iv.lo 0) set)
is_printed_test site shown cond Est = true
is_printed_test site shown cond (Tag n) = nat_lt n (2 ^ 32)
is_printed_test site shown cond _ = false

abbrev pub is_class : Test → Bool
is_class Est = true
is_class _ = false

-- only the class of a packet is tested by a negated literal
abbrev pub is_printed_literal : Site → Bool → List Lit → Lit → Bool
is_printed_literal site shown cond lit = (not lit.not || is_class lit.test) && is_printed_test site shown cond lit.test

abbrev pub is_port_test : Test → Bool
is_port_test (Sport set) = true
is_port_test (Dport set) = true
is_port_test _ = false

abbrev pub is_protocol_test : Test → Bool
is_protocol_test (Proto set) = true
is_protocol_test _ = false

-- the protocol is named ahead of ports: options are read from left to right, and a list of ports asks for it
abbrev pub protocol_leads : List Lit → Bool
protocol_leads [] = true
protocol_leads (lit ∷ lits) =
    not (is_port_test lit.test && list_any (λ later. is_protocol_test later.test) lits) && protocol_leads lits

-- Acts

-- a built-in chain at such a hook
abbrev pub stands_where : (Hook → Bool) → IptChain → Bool
stands_where such chain = is_some chain.policy && option_map_or such (hook_named chain.name) false

-- a whole address, whose port is written under TCP or UDP
abbrev pub is_end : List Lit → End → Bool
is_end cond e =
    nat_eq e.len 32 && nat_lt e.addr (2 ^ 32) && option_map_or (λ port. nat_le port 65535 && asks_ports cond) e.port true

-- NETMAP stands in a built-in chain, behind a prefix of the addresses over which it writes
abbrev pub maps_block : IptChain → List Lit → Prefix → Bool
maps_block chain cond net = is_network net && nat_lt net.addr (2 ^ 32) && stands_where (λ hook. names_block hook net.len cond) chain

-- an act that is printed: a source is written where a packet is about to leave or to be delivered, a destination where it is
-- still to be routed
abbrev pub is_printed_act : List IptChain → IptChain → List Lit → IptGo → Bool
is_printed_act chains chain cond Accept = true
is_printed_act chains chain cond Drop = not (is_table Nat chain.table)
is_printed_act chains chain cond (Goto c) = is_user_chain chain.table chains c
is_printed_act chains chain cond (Mark v) = is_table Mangle chain.table && nat_lt v (2 ^ 32)
is_printed_act chains chain cond (Source e) = is_table Nat chain.table && stands_where writes_src_at chain && is_end cond e
is_printed_act chains chain cond (Dest e) = is_table Nat chain.table && stands_where writes_dst_at chain && is_end cond e
is_printed_act chains chain cond (Netmap net) = is_table Nat chain.table && maps_block chain cond net
is_printed_act chains chain cond _ = false

-- Chains

-- the receiving interface is tested in built-in chains at which it is shown
abbrev pub shows_receiving : IptChain → Bool
shows_receiving chain = stands_where shows_recv chain

abbrev pub is_printed_rule : Site → List IptChain → IptChain → IptRule → Bool
is_printed_rule site chains chain rule =
    are_different rule.cond && protocol_leads rule.cond
    && list_all (is_printed_literal site (shows_receiving chain) rule.cond) rule.cond
    && is_printed_act chains chain rule.cond rule.go

-- a policy of nat accepts
abbrev pub is_printed_policy : IptTable → Option Bool → Bool
is_printed_policy Nat policy = option_map_or (λ accepts. accepts) policy true
is_printed_policy _ policy = true

abbrev pub is_printed_chain : Site → List IptChain → IptChain → Bool
is_printed_chain site chains chain =
    (is_some chain.policy || is_chain_name chain.name) && is_printed_policy chain.table chain.policy
    && list_all (is_printed_rule site chains chain) chain.rules

-- the order of the tables
abbrev pub rank_of : IptTable → ℕ
rank_of Mangle = 0
rank_of Nat = 1
rank_of Filter = 2

-- the chains of a table stand together, those of mangle first and those of filter last
abbrev pub are_in_order : ℕ → List IptChain → Bool
are_in_order least [] = true
are_in_order least (chain ∷ chains) = nat_le least (rank_of chain.table) && are_in_order (rank_of chain.table) chains

-- the configuration can be printed: its chains are named as iptables asks and stand table by table, no two are the same, and
-- all their rules are printed
abbrev pub is_printable : Site → IptConfig → Bool
is_printable site c =
    are_in_order 0 c.chains && list_all is_named c.chains && are_apart c.chains && list_all (is_printed_chain site c.chains) c.chains
