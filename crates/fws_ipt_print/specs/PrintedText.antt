-- The text of a configuration, as iptables-save(8) writes it.
use Rattle.std.specs.Prelude.{ℕ, zero, suc, ◌+◌, ◌-◌, ◌/◌, ◌%◌, ◌^◌, Bool, ◌&&◌, nat_eq, nat_lt, slice_get, Option, Some, None, List, [], ◌∷◌, ◌++◌, map, codes, if◌then◌else◌}
use Rattle.std.specs.Fmt.{decimal}
use Rattle.std.specs.List.{flat_map, list_any}
use Rattle.std.specs.Option.{option_map_or}
use Rattle.fws_num.specs.Numbers.{dotted}
use Rattle.fws_num.specs.Written.{ended}
use Rattle.fws_iv.specs.declared.iv.Iv.{Iv}
use Rattle.fws_net.specs.declared.condition.Lit.{Lit}
use Rattle.fws_net.specs.declared.condition.Test.{Test}
use Rattle.fws_net.specs.declared.condition.Test.TheVariants.{Src, Dst, Sport, Dport, Proto, Icmp, Flags, Recv, Est, Tag}
use Rattle.fws_net.specs.declared.outcome.End.{End}
use Rattle.fws_net.specs.declared.site.Site.{Site}
use Rattle.fws_net.specs.SiteSpelling.{lines_text, net_word}
use Rattle.fws_net.specs.declared.packet.Lang.TheVariants.{Iptables}
use Rattle.fws_rules.specs.Names.{interface_name}
use Rattle.fws_ipt.specs.declared.config.IptTable.{IptTable}
use Rattle.fws_ipt.specs.declared.config.IptTable.TheVariants.{Filter, Nat, Mangle}
use Rattle.fws_ipt.specs.declared.config.IptGo.{IptGo}
use Rattle.fws_ipt.specs.declared.config.IptGo.TheVariants as acts
use Rattle.fws_ipt.specs.declared.config.IptRule.{IptRule}
use Rattle.fws_ipt.specs.declared.config.IptChain.{IptChain}
use Rattle.fws_ipt.specs.declared.config.IptConfig.{IptConfig}
use Rattle.fws_ipt.specs.Spelled.{asks_protocol}
use Rattle.fws_ipt.specs.Walk.{is_table}
use Rattle.fws_print.specs.Words.{protocol_name, range_text, ranges_text}

-- Numbers

-- a hexadecimal digit
abbrev pub hex_byte : ℕ → ℕ
hex_byte d = if nat_lt d 10 then 48 + d else 87 + d

-- a number as hexadecimal digits, at most one more than n of them
abbrev pub hex_text : ℕ → ℕ → List ℕ
hex_text zero v = hex_byte (v % 16) ∷ []
hex_text (suc n) v = if nat_lt v 16 then hex_byte (v % 16) ∷ [] else hex_text n (v / 16) ++ hex_byte (v % 16) ∷ []

-- a mark, as `0x1f`
unfoldable pub mark_word : ℕ → List ℕ
mark_word v = 48 ∷ 120 ∷ hex_text 7 v

-- Addresses

-- the first range of a set
abbrev pub first_part : List Iv → Iv
first_part [] = record { lo = 0; hi = 0 }
first_part (iv ∷ set) = iv

-- the range is a prefix behind which this many bits are free
abbrev pub has_free : ℕ → Iv → Bool
has_free bits iv = nat_eq (iv.lo % 2 ^ bits) 0 && nat_eq iv.hi (iv.lo + (2 ^ bits - 1))

-- how many bits are free behind the prefix that the range is; n numbers from this one on are tried
abbrev pub free_from : ℕ → ℕ → Iv → Option ℕ
free_from zero bits iv = None
free_from (suc n) bits iv = if has_free bits iv then Some bits else free_from n (suc bits) iv

-- how many bits are free behind the prefix that the range is, if it is one
unfoldable pub free_bits : Iv → Option ℕ
free_bits iv = free_from 33 0 iv

-- a range of addresses: as a prefix behind one option, or by its ends behind another
abbrev pub address_words : List ℕ → List ℕ → Iv → List (List ℕ)
address_words prefix range iv = option_map_or
    (λ bits. prefix ∷ net_word iv.lo (32 - bits) ∷ [])
    (free_bits iv)
    (codes "-m" ∷ codes "iprange" ∷ range ∷ (dotted iv.lo ++ 45 ∷ dotted iv.hi) ∷ [])

-- Ports

-- a port, or two with a colon between
abbrev pub range_word : Iv → List ℕ
range_word iv = range_text 58 iv

-- the ranges joined by commas
abbrev pub ranges_word : List Iv → List ℕ
ranges_word set = ranges_text 58 set

-- the module that tests one range of ports
abbrev pub port_module : List Lit → List ℕ
port_module cond = if asks_protocol 6 cond then codes "tcp" else codes "udp"

-- one range behind an option of this module, several behind an option of `multiport`
abbrev pub port_words : List ℕ → List ℕ → List ℕ → List Iv → List (List ℕ)
port_words kind one many (iv ∷ []) = codes "-m" ∷ kind ∷ one ∷ range_word iv ∷ []
port_words kind one many set = codes "-m" ∷ codes "multiport" ∷ many ∷ ranges_word set ∷ []

-- Protocols and flags

-- flags and their bits
abbrev pub flag_names : List (List ℕ × ℕ)
flag_names = (codes "FIN", 1) ∷ (codes "SYN", 2) ∷ (codes "RST", 4) ∷ (codes "PSH", 8) ∷ (codes "ACK", 16) ∷ (codes "URG", 32) ∷ []

-- a flag that is set, behind a comma where one of a lower bit is set too
abbrev pub flag_text : ℕ → ℕ → List ℕ → List ℕ
flag_text flags bit name =
    if nat_eq (flags / bit % 2) 1 then (if nat_eq (flags % bit) 0 then name else 44 ∷ name) else []

-- the names of the flags that are set, joined by commas
abbrev pub flag_names_word : ℕ → List ℕ
flag_names_word flags = flat_map (λ row. flag_text flags row.1 row.0) flag_names

-- flags joined by commas; ALL for all of them, and NONE for none
unfoldable pub flags_word : ℕ → List ℕ
flags_word flags =
    if nat_eq flags 63 then codes "ALL" else if nat_eq flags 0 then codes "NONE"
    else flag_names_word flags

-- Tests

abbrev pub class_word : Bool → List ℕ
class_word is_new = if is_new then codes "NEW" else codes "RELATED,ESTABLISHED"

-- the words of a test in a condition; the class alone may be negated
abbrev pub test_words : Site → List Lit → Bool → Test → List (List ℕ)
test_words site cond negated (Proto set) = codes "-p" ∷ protocol_name (first_part set).lo ∷ []
test_words site cond negated (Src set) = address_words (codes "-s") (codes "--src-range") (first_part set)
test_words site cond negated (Dst set) = address_words (codes "-d") (codes "--dst-range") (first_part set)
test_words site cond negated (Sport set) = port_words (port_module cond) (codes "--sport") (codes "--sports") set
test_words site cond negated (Dport set) = port_words (port_module cond) (codes "--dport") (codes "--dports") set
test_words site cond negated (Flags mask want) =
    codes "-m" ∷ codes "tcp" ∷ codes "--tcp-flags" ∷ flags_word mask ∷ flags_word want ∷ []
test_words site cond negated (Icmp set) = codes "-m" ∷ codes "icmp" ∷ codes "--icmp-type" ∷ decimal (first_part set).lo ∷ []
test_words site cond negated (Recv set) = codes "-i" ∷ interface_name Iptables site (first_part set).lo ∷ []
test_words site cond negated Est = codes "-m" ∷ codes "conntrack" ∷ codes "--ctstate" ∷ class_word negated ∷ []
test_words site cond negated (Tag n) = codes "-m" ∷ codes "mark" ∷ codes "--mark" ∷ mark_word n ∷ []
test_words site cond negated _ = []

abbrev pub literal_words : Site → List Lit → Lit → List (List ℕ)
literal_words site cond lit = test_words site cond lit.not lit.test

-- Acts

-- the name of the chain with this number
abbrev pub chain_name : List IptChain → ℕ → List ℕ
chain_name chains c = option_map_or (λ chain. chain.name) (slice_get chains c) []

-- an address, and maybe a port behind a colon
abbrev pub end_word : End → List ℕ
end_word e = dotted e.addr ++ option_map_or (λ port. 58 ∷ decimal port) e.port []

abbrev pub act_words : List IptChain → IptGo → List (List ℕ)
act_words chains acts.Accept = codes "-j" ∷ codes "ACCEPT" ∷ []
act_words chains acts.Drop = codes "-j" ∷ codes "DROP" ∷ []
act_words chains (acts.Goto c) = codes "-g" ∷ chain_name chains c ∷ []
act_words chains (acts.Mark v) = codes "-j" ∷ codes "MARK" ∷ codes "--set-xmark" ∷ (mark_word v ++ codes "/0xffffffff") ∷ []
act_words chains (acts.Source e) = codes "-j" ∷ codes "SNAT" ∷ codes "--to-source" ∷ end_word e ∷ []
act_words chains (acts.Dest e) = codes "-j" ∷ codes "DNAT" ∷ codes "--to-destination" ∷ end_word e ∷ []
act_words chains (acts.Netmap net) = codes "-j" ∷ codes "NETMAP" ∷ codes "--to" ∷ net_word net.addr net.len ∷ []
act_words chains _ = []

-- Lines

-- a rule behind the name of its chain: its literals in their order, and its act
abbrev pub rule_words : Site → List IptChain → IptRule → List (List ℕ)
rule_words site chains rule = flat_map (literal_words site rule.cond) rule.cond ++ act_words chains rule.go

abbrev pub rule_line : Site → List IptChain → List ℕ → IptRule → List (List ℕ)
rule_line site chains name rule = codes "-A" ∷ name ∷ rule_words site chains rule

-- the rules of the chains of a table, chain by chain
abbrev pub rule_lines : Site → List IptChain → IptTable → List IptChain → List (List (List ℕ))
rule_lines site chains table [] = []
rule_lines site chains table (chain ∷ rest) =
    if is_table table chain.table then map (rule_line site chains chain.name) chain.rules ++ rule_lines site chains table rest
    else rule_lines site chains table rest

abbrev pub policy_word : Option Bool → List ℕ
policy_word None = codes "-"
policy_word (Some accepts) = if accepts then codes "ACCEPT" else codes "DROP"

-- the declaration of a chain
abbrev pub chain_line : IptChain → List (List ℕ)
chain_line chain = (58 ∷ chain.name) ∷ policy_word chain.policy ∷ codes "[0:0]" ∷ []

-- the declarations of the chains of a table
abbrev pub chain_lines : IptTable → List IptChain → List (List (List ℕ))
chain_lines table [] = []
chain_lines table (chain ∷ rest) =
    if is_table table chain.table then chain_line chain ∷ chain_lines table rest else chain_lines table rest

abbrev pub table_word : IptTable → List ℕ
table_word Filter = codes "*filter"
table_word Nat = codes "*nat"
table_word Mangle = codes "*mangle"

-- a table, if it has chains
abbrev pub table_lines : Site → List IptChain → IptTable → List (List (List ℕ))
table_lines site chains table =
    if list_any (λ chain. is_table table chain.table) chains
    then (table_word table ∷ []) ∷ (chain_lines table chains ++ rule_lines site chains table chains ++ (codes "COMMIT" ∷ []) ∷ [])
    else []

-- the tables, mangle first and filter last
abbrev pub config_lines : Site → IptConfig → List (List (List ℕ))
config_lines site c = table_lines site c.chains Mangle ++ table_lines site c.chains Nat ++ table_lines site c.chains Filter

-- what stands ahead of the tables, as comments
abbrev pub head_lines : List (List ℕ)
head_lines =
    codes "# Written by FWS for iptables-restore(8). Marks that mangle sets are those that nat asks for." ∷
    codes "# new-FIELD-N: what becomes of new packets, by a field. known-FIELD-N: packets of connections, as they enter." ∷
    codes "# reply-FIELD-N: packets of connections, behind routing. mark-N: sets the mark N and accepts." ∷ []

-- the text of a configuration
abbrev pub config_text : Site → IptConfig → List ℕ
config_text site c = ended head_lines ++ lines_text (config_lines site c)
