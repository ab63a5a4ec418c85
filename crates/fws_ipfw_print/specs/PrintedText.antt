-- The text of a configuration: lines that ipfw(8) takes one by one, with rules as `ipfw list` prints them.
use Rattle.std.specs.Prelude.{ℕ, zero, suc, ◌+◌, ◌-◌, ◌/◌, ◌%◌, ◌^◌, Bool, ◌&&◌, ◌||◌, nat_eq, nat_le, nat_lt, List, [], ◌∷◌, ◌++◌, map, codes, if◌then◌else◌}
use Rattle.std.specs.Fmt.{decimal}
use Rattle.std.specs.List.{flat_map, join_by, range_with_len}
use Rattle.std.specs.Option.{option_map_or}
use Rattle.fws_num.specs.declared.prefix.Prefix.{Prefix}
use Rattle.fws_num.specs.Numbers.{dotted}
use Rattle.fws_num.specs.Written.{ended, has_slashes, spaced}
use Rattle.fws_iv.specs.declared.iv.Iv.{Iv}
use Rattle.fws_net.specs.declared.condition.Lit.{Lit}
use Rattle.fws_net.specs.declared.condition.Test.{Test}
use Rattle.fws_net.specs.declared.condition.Test.TheVariants.{Src, Dst, Sport, Dport, Proto, Icmp, Flags, Recv, Outward, Tag}
use Rattle.fws_net.specs.declared.outcome.End.{End}
use Rattle.fws_net.specs.declared.site.Site.{Site}
use Rattle.fws_net.specs.SiteSpelling.{net_word}
use Rattle.fws_net.specs.declared.packet.Lang.TheVariants.{Ipfw}
use Rattle.fws_rules.specs.Names.{interface_name}
use Rattle.fws_ipfw.specs.declared.config.IpfwAct.{IpfwAct}
use Rattle.fws_ipfw.specs.declared.config.IpfwAct.TheVariants as acts
use Rattle.fws_ipfw.specs.declared.config.IpfwTag.{IpfwTag}
use Rattle.fws_ipfw.specs.declared.config.IpfwTag.TheVariants as tags
use Rattle.fws_ipfw.specs.declared.config.IpfwConfig.{IpfwConfig}
use Rattle.fws_ipfw.specs.declared.config.IpfwNat.{IpfwNat}
use Rattle.fws_ipfw.specs.declared.config.IpfwRule.{IpfwRule}
use Rattle.fws_ipfw.specs.declared.config.Redirect.{Redirect}
use Rattle.fws_ipfw.specs.Soundness.{is_check}
use Rattle.fws_ipfw.specs.Values.{tcp_flags}
use Rattle.fws_ipfw_print.specs.Printable.{place_of}
use Rattle.fws_print.specs.Words.{protocol_name, range_text, ranges_text}
use Rattle.fws_print.specs.Sets.{first_number}

-- Addresses

-- the 2 ^ bits addresses from one on lie within the range
abbrev pub is_within : ℕ → ℕ → Iv → Bool
is_within bits addr iv = nat_le iv.lo addr && nat_le (addr + 2 ^ bits) (iv.hi + 1)

-- none of the 2 ^ bits addresses from one on lies within the range
abbrev pub is_apart : ℕ → ℕ → Iv → Bool
is_apart bits addr iv = nat_lt iv.hi addr || nat_le (addr + 2 ^ bits) iv.lo

-- the prefix of the 2 ^ bits addresses from one on
abbrev pub prefix_from : ℕ → ℕ → Prefix
prefix_from bits addr = record { addr = addr; len = 32 - bits }

-- the prefixes that make up what a range has of the 2 ^ bits addresses from one on: all of them if they lie within it, and else
-- the prefixes of either half
abbrev pub blocks_from : ℕ → ℕ → Iv → List Prefix
blocks_from zero addr iv = if is_within zero addr iv then prefix_from zero addr ∷ [] else []
blocks_from (suc n) addr iv =
    if is_within (suc n) addr iv then prefix_from (suc n) addr ∷ []
    else if is_apart (suc n) addr iv then [] else blocks_from n addr iv ++ blocks_from n (addr + 2 ^ n) iv

-- the bits of an address
unfoldable pub all_bits : ℕ
all_bits = 32

-- the prefixes that make up a range
abbrev pub blocks_of : Iv → List Prefix
blocks_of iv = blocks_from all_bits 0 iv

-- a prefix; a whole address without its length
abbrev pub prefix_word : Prefix → List ℕ
prefix_word net = if nat_eq net.len 32 then dotted net.addr else net_word net.addr net.len

-- the prefixes of the ranges, joined by commas
abbrev pub addresses_word : List Iv → List ℕ
addresses_word set = join_by prefix_word (44 ∷ []) (flat_map blocks_of set)

-- Ports, types and flags

-- a port, or two with a dash between
abbrev pub range_word : Iv → List ℕ
range_word iv = range_text 45 iv

-- the ranges joined by commas
abbrev pub ranges_word : List Iv → List ℕ
ranges_word set = ranges_text 45 set

-- the numbers of a range
abbrev pub numbers_of : Iv → List ℕ
numbers_of iv = range_with_len iv.lo (iv.hi + 1 - iv.lo)

-- the numbers of the ranges, each alone, joined by commas
abbrev pub numbers_word : List Iv → List ℕ
numbers_word set = join_by decimal (44 ∷ []) (flat_map numbers_of set)

-- a flag that is tested: behind a comma where one of a lower bit is tested too, and with `!` before it where it is to be clear
abbrev pub flag_text : ℕ → ℕ → ℕ → List ℕ → List ℕ
flag_text mask want bit name =
    if nat_eq (mask / bit % 2) 1
    then (if nat_eq (mask % bit) 0 then [] else 44 ∷ []) ++ (if nat_eq (want / bit % 2) 1 then [] else 33 ∷ []) ++ name
    else []

-- the flags that are tested, joined by commas
unfoldable pub flags_word : ℕ → ℕ → List ℕ
flags_word mask want = flat_map (λ row. flag_text mask want row.1 row.0) tcp_flags

-- a test of flags: that SYN is set and ACK is clear has a word of its own
abbrev pub flag_words : ℕ → ℕ → List (List ℕ)
flag_words mask want =
    if nat_eq mask 18 && nat_eq want 2 then codes "setup" ∷ [] else codes "tcpflags" ∷ flags_word mask want ∷ []

-- Interfaces

-- a name; in quotes where two slashes stand in a row, which else begin a comment
abbrev pub name_word : List ℕ → List ℕ
name_word name = if has_slashes name then 34 ∷ name ++ 34 ∷ [] else name

-- Conditions

-- a condition without its first literal, if that tests what stands at this place
abbrev pub behind_place : ℕ → List Lit → List Lit
behind_place place [] = []
behind_place place (lit ∷ lits) = if nat_eq (place_of lit.test) place then lits else lit ∷ lits

-- a protocol that is tested; `ip` for another test
abbrev pub protocol_tested : Test → List ℕ
protocol_tested (Proto set) = protocol_name (first_number set)
protocol_tested _ = codes "ip"

-- the protocol that a condition tests first; `ip` where it doesn't
abbrev pub protocol_word : List Lit → List ℕ
protocol_word [] = codes "ip"
protocol_word (lit ∷ lits) = protocol_tested lit.test

-- sources that are tested; `any` for another test
abbrev pub source_tested : Test → List ℕ
source_tested (Src set) = addresses_word set
source_tested _ = codes "any"

-- the sources that a condition tests first; `any` where it doesn't
abbrev pub source_word : List Lit → List ℕ
source_word [] = codes "any"
source_word (lit ∷ lits) = source_tested lit.test

-- destinations that are tested; `any` for another test
abbrev pub destination_tested : Test → List ℕ
destination_tested (Dst set) = addresses_word set
destination_tested _ = codes "any"

-- the destinations that a condition tests first; `any` where it doesn't
abbrev pub destination_word : List Lit → List ℕ
destination_word [] = codes "any"
destination_word (lit ∷ lits) = destination_tested lit.test

-- a test as an option of a rule
abbrev pub test_words : Site → Test → List (List ℕ)
test_words site Outward = codes "out" ∷ []
test_words site (Recv set) = codes "recv" ∷ name_word (interface_name Ipfw site (first_number set)) ∷ []
test_words site (Sport set) = codes "src-port" ∷ ranges_word set ∷ []
test_words site (Dport set) = codes "dst-port" ∷ ranges_word set ∷ []
test_words site (Flags mask want) = flag_words mask want
test_words site (Icmp set) = codes "icmptypes" ∷ numbers_word set ∷ []
test_words site (Tag n) = codes "tagged" ∷ decimal n ∷ []
test_words site _ = []

-- a negated test as an option: `in`, and that no interface received the packet
abbrev pub negated_words : Test → List (List ℕ)
negated_words Outward = codes "in" ∷ []
negated_words (Recv set) = codes "not" ∷ codes "recv" ∷ codes "*" ∷ []
negated_words _ = []

abbrev pub literal_words : Site → Lit → List (List ℕ)
literal_words site lit = if lit.not then negated_words lit.test else test_words site lit.test

-- Rules

abbrev pub act_words : IpfwAct → List (List ℕ)
act_words acts.Allow = codes "allow" ∷ []
act_words acts.Deny = codes "deny" ∷ []
act_words acts.Count = codes "count" ∷ []
act_words (acts.Skip n) = codes "skipto" ∷ decimal n ∷ []
act_words acts.Check = codes "check-state" ∷ []
act_words (acts.Nat n) = codes "nat" ∷ decimal n ∷ []

-- a tag that is added
abbrev pub tag_words : IpfwTag → List (List ℕ)
tag_words (tags.Add n) = codes "tag" ∷ decimal n ∷ []
tag_words _ = []

abbrev pub keep_words : Bool → List (List ℕ)
keep_words keep = if keep then codes "keep-state" ∷ [] else []

-- what a rule tests: the protocol, the source, the destination, and the other tests as options
abbrev pub condition_words : Site → List Lit → List (List ℕ)
condition_words site cond =
    let behind_protocol = behind_place 0 cond in
    let behind_source = behind_place 1 behind_protocol in
    let options = behind_place 2 behind_source in
    protocol_word cond ∷ codes "from" ∷ source_word behind_protocol ∷ codes "to" ∷ destination_word behind_source ∷ flat_map (literal_words site) options

-- a rule behind its number; `check-state` stands alone
abbrev pub body_words : Site → IpfwRule → List (List ℕ)
body_words site r =
    if is_check r.act then act_words r.act
    else act_words r.act ++ (tag_words r.tag ++ condition_words site r.cond ++ keep_words r.keep)

abbrev pub rule_words : Site → IpfwRule → List (List ℕ)
rule_words site r = codes "add" ∷ decimal r.number ∷ body_words site r

-- Instances

-- an address, and maybe a port behind a colon
abbrev pub end_word : End → List ℕ
end_word e = dotted e.addr ++ option_map_or (λ port. 58 ∷ decimal port) e.port []

-- a redirect of ports, or one of addresses
abbrev pub redirect_words : Redirect → List (List ℕ)
redirect_words r = option_map_or
    (λ proto. codes "redirect_port" ∷ protocol_name proto ∷ end_word r.local ∷ end_word r.public ∷ [])
    r.proto
    (codes "redirect_addr" ∷ dotted r.local.addr ∷ dotted r.public.addr ∷ [])

abbrev pub nat_words : IpfwNat → List (List ℕ)
nat_words nat =
    codes "nat" ∷ decimal nat.number ∷ codes "config" ∷ codes "ip" ∷ dotted nat.alias ∷ flat_map redirect_words nat.redirects

-- Lines

-- what stands ahead of the lines, as comments
abbrev pub head_lines : List (List ℕ)
head_lines =
    codes "# Written by FWS for ipfw(8). It is loaded with: ipfw -q FILE" ∷
    codes "# Rules are added to those that are there: begin with an empty list (ipfw flush)." ∷
    codes "# one_pass has to be as in the site file (sysctl net.inet.ip.fw.one_pass)." ∷ []

-- the instances, if there are any, behind a comment
abbrev pub nat_lines : List IpfwNat → List (List ℕ)
nat_lines [] = []
nat_lines (nat ∷ nats) =
    codes "# The instances of address translation that rules name." ∷ map (λ nat. spaced (nat_words nat)) (nat ∷ nats)

-- the sections that rules of placed policies stand in, from the last to the first: where each begins, and a comment on it
abbrev pub sections : List (ℕ × List ℕ)
sections =
    (60000, codes "# Sources of new packets are translated, by their tags.") ∷
    (10000, codes "# Destinations of new packets are translated.") ∷
    (7000, codes "# What becomes of new packets of the host.") ∷
    (6000, codes "# What becomes of new packets that arrive.") ∷
    (5000, codes "# The look-up of connections. New packets that arrive get tag 1.") ∷
    (4000, codes "# Packets of connections of the host, as they leave.") ∷
    (3000, codes "# Packets of connections that are forwarded, as they leave.") ∷
    (2000, codes "# As they leave, new packets that have arrived go on at the look-up, and all of the host at its section.") ∷
    (1000, codes "# Packets of connections as they arrive: those that are never accepted are dropped.") ∷ []

-- the comment on the first of these sections that begins behind one number and not behind another
abbrev pub comment_between : ℕ → ℕ → List (ℕ × List ℕ) → List (List ℕ)
comment_between from to [] = []
comment_between from to (row ∷ rows) = if nat_lt from row.0 && nat_le row.0 to then row.1 ∷ [] else comment_between from to rows

-- the rules behind one with this number; where sections begin between two rules, the last of them is told of
abbrev pub rule_lines : Site → ℕ → List IpfwRule → List (List ℕ)
rule_lines site from [] = []
rule_lines site from (r ∷ rs) = comment_between from r.number sections ++ spaced (rule_words site r) ∷ rule_lines site r.number rs

abbrev pub config_lines : Site → IpfwConfig → List (List ℕ)
config_lines site c = head_lines ++ nat_lines c.nats ++ rule_lines site 0 c.rules

-- the text of a configuration
abbrev pub config_text : Site → IpfwConfig → List ℕ
config_text site c = ended (config_lines site c)
