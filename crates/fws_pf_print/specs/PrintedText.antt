-- The text of a configuration: comments, translations and filter rules, as pfctl(8) of FreeBSD loads them.
use Rattle.std.specs.Prelude.{ℕ, ◌+◌, ◌-◌, ◌/◌, ◌%◌, Bool, true, false, ◌&&◌, not, nat_eq, nat_le, Option, List, [], ◌∷◌, ◌++◌, map, codes, if◌then◌else◌}
use Rattle.std.specs.Fmt.{decimal}
use Rattle.std.specs.List.{find, flat_map, list_any, range_with_len}
use Rattle.std.specs.Option.{option_map_or}
use Rattle.std.specs.Str.{bytes_eq}
use Rattle.fws_num.specs.Numbers.{dotted, is_digit, lacks}
use Rattle.fws_num.specs.Written.{ended, spaced}
use Rattle.fws_iv.specs.declared.iv.Iv.{Iv}
use Rattle.fws_net.specs.declared.condition.Lit.{Lit}
use Rattle.fws_net.specs.declared.condition.Test.{Test}
use Rattle.fws_net.specs.declared.condition.Test.TheVariants.{Flags, Icmp, Tag}
use Rattle.fws_net.specs.declared.outcome.End.{End}
use Rattle.fws_net.specs.declared.site.Site.{Site}
use Rattle.fws_net.specs.SiteSpelling.{net_word}
use Rattle.fws_net.specs.declared.packet.Lang.TheVariants.{Pf}
use Rattle.fws_rules.specs.Names.{interface_name}
use Rattle.fws_pf.specs.declared.config.PfConfig.{PfConfig}
use Rattle.fws_pf.specs.declared.config.PfNat.{PfNat}
use Rattle.fws_pf.specs.declared.config.PfRule.{PfRule}
use Rattle.fws_pf.specs.declared.config.Way.{Way}
use Rattle.fws_pf.specs.declared.config.Way.TheVariants as ways
use Rattle.fws_print.specs.Sets.{first_number, is_network}
use Rattle.fws_pf_print.specs.Printable.{place_of, tag_name, tested}
use Rattle.fws_print.specs.Words.{protocol_name, range_text}

-- Interfaces

abbrev pub ends_in_digit : List ℕ → Bool
ends_in_digit [] = false
ends_in_digit (c ∷ []) = is_digit c
ends_in_digit (c ∷ d ∷ cs) = ends_in_digit (d ∷ cs)

-- a name that pfctl(8) takes without quotes: it has no slash and ends in a digit, as no keyword does but these
abbrev pub is_bare_name : List ℕ → Bool
is_bare_name name = lacks 47 name && ends_in_digit name && not (bytes_eq name (codes "inet6")) && not (bytes_eq name (codes "l3"))

-- a name, in quotes where it may need them
abbrev pub name_word : List ℕ → List ℕ
name_word name = if is_bare_name name then name else 34 ∷ name ++ 34 ∷ []

-- the interface that is asked for, if one is
abbrev pub interface_words : Site → List Iv → List (List ℕ)
interface_words site [] = []
interface_words site (iv ∷ set) = codes "on" ∷ name_word (interface_name Pf site iv.lo) ∷ []

-- Protocols

-- the protocol that is asked for, if one is
abbrev pub protocol_words : List Iv → List (List ℕ)
protocol_words [] = []
protocol_words (iv ∷ set) = codes "proto" ∷ protocol_name iv.lo ∷ []

-- Addresses and ports

-- the bits of the network whose addresses the range has, if there is one
unfoldable pub network_len : Iv → Option ℕ
network_len iv = find (λ n. is_network n iv) (range_with_len 0 33)

-- two addresses with a dash between
abbrev pub between_words : Iv → List (List ℕ)
between_words iv = dotted iv.lo ∷ codes "-" ∷ dotted iv.hi ∷ []

-- a range of addresses: an address, a network, or the first and the last address
abbrev pub range_words : Iv → List (List ℕ)
range_words iv =
    if nat_eq iv.lo iv.hi then dotted iv.lo ∷ [] else option_map_or (λ n. net_word iv.lo n ∷ []) (network_len iv) (between_words iv)

-- the addresses that are asked for; `any` where none are
abbrev pub addresses_words : List Iv → List (List ℕ)
addresses_words [] = codes "any" ∷ []
addresses_words (iv ∷ set) = range_words iv

-- a port, or two with a colon between
abbrev pub ports_word : Iv → List ℕ
ports_word iv = range_text 58 iv

-- the ports that are asked for, if any are
abbrev pub ports_words : List Iv → List (List ℕ)
ports_words [] = []
ports_words (iv ∷ set) = codes "port" ∷ ports_word iv ∷ []

-- addresses or ports are tested at this place
abbrev pub is_host_place : ℕ → Bool
is_host_place place = nat_le 2 place && nat_le place 5

-- the condition asks for addresses or ports
abbrev pub tests_hosts : List Lit → Bool
tests_hosts cond = list_any (λ lit. is_host_place (place_of lit.test)) cond

-- the addresses and ports of either side
abbrev pub sides_words : List Lit → List (List ℕ)
sides_words cond =
    codes "from" ∷ addresses_words (tested 2 cond)
    ++ (ports_words (tested 3 cond) ++ (codes "to" ∷ addresses_words (tested 4 cond) ++ ports_words (tested 5 cond)))

-- the addresses and ports that are asked for; `all` where none are
abbrev pub hosts_words : List Lit → List (List ℕ)
hosts_words cond = if tests_hosts cond then sides_words cond else codes "all" ∷ []

-- Options

-- TCP flags and their bits
abbrev pub flag_letters : List (ℕ × ℕ)
flag_letters = (70, 1) ∷ (83, 2) ∷ (82, 4) ∷ (80, 8) ∷ (65, 16) ∷ (85, 32) ∷ []

-- the letters of flags
unfoldable pub letters_of : ℕ → List ℕ
letters_of flags = flat_map (λ row. if nat_eq (flags / row.1 % 2) 1 then row.0 ∷ [] else []) flag_letters

-- the flags that are wanted, and behind a slash those that are looked at
abbrev pub flags_word : ℕ → ℕ → List ℕ
flags_word mask want = letters_of want ++ 47 ∷ letters_of mask

-- a test as an option of a rule; those that stand ahead of options are none
abbrev pub option_words : Test → List (List ℕ)
option_words (Flags mask want) = codes "flags" ∷ flags_word mask want ∷ []
option_words (Icmp set) = codes "icmp-type" ∷ decimal (first_number set) ∷ []
option_words (Tag n) = codes "tagged" ∷ tag_name n ∷ []
option_words _ = []

abbrev pub options_words : List Lit → List (List ℕ)
options_words cond = flat_map (λ lit. option_words lit.test) cond

-- the tag that is put, if one is
abbrev pub tag_words : Option ℕ → List (List ℕ)
tag_words tag = option_map_or (λ n. codes "tag" ∷ tag_name n ∷ []) tag []

-- Filter rules

abbrev pub action_word : Bool → List ℕ
action_word pass = if pass then codes "pass" else codes "block"

abbrev pub way_words : Way → List (List ℕ)
way_words ways.Both = []
way_words ways.Inward = codes "in" ∷ []
way_words ways.Outward = codes "out" ∷ []

-- the condition asks for flags
abbrev pub tests_flags : List Lit → Bool
tests_flags cond = list_any (λ lit. nat_eq (place_of lit.test) 6) cond

-- a rule that passes packets keeps state, and doesn't ask for the flags of first packets unless it says so
abbrev pub state_words : Bool → List Lit → List (List ℕ)
state_words pass cond = if pass then (if tests_flags cond then [] else codes "flags" ∷ codes "any" ∷ []) ++ (codes "keep" ∷ codes "state" ∷ []) else []

-- what stands ahead of options: the interface, the protocol, addresses and ports
abbrev pub front_words : Site → List Lit → List (List ℕ)
front_words site cond = interface_words site (tested 0 cond) ++ (protocol_words (tested 1 cond) ++ hosts_words cond)

abbrev pub rule_words : Site → PfRule → List (List ℕ)
rule_words site r =
    action_word r.pass ∷ way_words r.way ++ (front_words site r.cond ++ (options_words r.cond ++ (tag_words r.tag ++ state_words r.pass r.cond)))

-- Translations

-- destinations are written by `rdr`, and sources by `nat`
abbrev pub verb_word : Bool → List ℕ
verb_word redirects = if redirects then codes "rdr" else codes "nat"

-- the port of an end, if it has one
abbrev pub end_port_words : Option ℕ → List (List ℕ)
end_port_words port = option_map_or (λ n. codes "port" ∷ decimal n ∷ []) port []

-- a source keeps its port
abbrev pub static_words : Bool → List (List ℕ)
static_words redirects = if redirects then [] else codes "static-port" ∷ []

-- an end that is written: a whole address, or a network whose bits are written over the first bits of an address
abbrev pub end_words : End → List (List ℕ)
end_words e = if nat_eq e.len 32 then dotted e.addr ∷ end_port_words e.port else net_word e.addr e.len ∷ codes "bitmask" ∷ []

abbrev pub target_words : Bool → Option End → List (List ℕ)
target_words redirects to = option_map_or (λ e. codes "->" ∷ end_words e ++ static_words redirects) to []

-- a translation that writes nothing begins with `no`
abbrev pub begin_words : Bool → Option End → List (List ℕ)
begin_words redirects to = option_map_or (λ e. verb_word redirects ∷ []) to (codes "no" ∷ verb_word redirects ∷ [])

abbrev pub translation_words : Site → Bool → PfNat → List (List ℕ)
translation_words site redirects nat =
    begin_words redirects nat.to ++ (front_words site nat.cond ++ (tag_words nat.tag ++ (options_words nat.cond ++ target_words redirects nat.to)))

-- Lines

-- what stands ahead of the lines, as comments
abbrev pub head_lines : List (List ℕ)
head_lines =
    codes "# Written by FWS for pf of FreeBSD. It is loaded with: pfctl -f FILE" ∷
    codes "# Tags n0, n1 and so on stand for what was decided so far of a packet." ∷ []

-- what the translations do
abbrev pub translations_comment : Bool → List ℕ
translations_comment redirects =
    if redirects then codes "# Packets that come in: destinations are translated, and first tags are put."
    else codes "# Packets that go out: sources are translated, by the tags that were put as they came in."

abbrev pub filter_comment : List ℕ
filter_comment = codes "# What becomes of packets: each rule tests one thing and a tag and puts the next tag. The last one that matches decides."

-- lines behind a comment, if there are any
abbrev pub section : List ℕ → List (List ℕ) → List (List ℕ)
section comment [] = []
section comment (line ∷ lines) = comment ∷ line ∷ lines

abbrev pub translation_lines : Site → Bool → List PfNat → List (List ℕ)
translation_lines site redirects nats = map (λ nat. spaced (translation_words site redirects nat)) nats

abbrev pub rule_lines : Site → List PfRule → List (List ℕ)
rule_lines site rules = map (λ r. spaced (rule_words site r)) rules

abbrev pub config_lines : Site → PfConfig → List (List ℕ)
config_lines site c =
    head_lines ++ (section (translations_comment true) (translation_lines site true c.rdr)
    ++ (section (translations_comment false) (translation_lines site false c.nat) ++ section filter_comment (rule_lines site c.filter)))

-- the text of a configuration
abbrev pub config_text : Site → PfConfig → List ℕ
config_text site c = ended (config_lines site c)
