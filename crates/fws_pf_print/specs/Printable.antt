-- The configurations that are printed: those that hold what placed policies need, in the forms that pf.conf(5) has for them.
use Rattle.std.specs.Prelude.{ℕ, suc, ◌+◌, ◌-◌, ◌^◌, Bool, true, false, ◌&&◌, ◌||◌, not, nat_eq, nat_le, nat_lt, Option, Some, None, option_and_then, List, [], ◌∷◌, length, if◌then◌else◌}
use Rattle.std.specs.Fmt.{decimal}
use Rattle.std.specs.List.{list_all}
use Rattle.std.specs.Option.{option_map_or}
use Rattle.std.specs.Str.{bytes_eq}
use Rattle.fws_iv.specs.declared.iv.Iv.{Iv}
use Rattle.fws_iv.specs.Prefixes.{agree}
use Rattle.fws_net.specs.declared.condition.Lit.{Lit}
use Rattle.fws_net.specs.declared.condition.Test.{Test}
use Rattle.fws_net.specs.declared.condition.Test.TheVariants.{Src, Dst, Sport, Dport, Proto, Icmp, Flags, Via, Tag}
use Rattle.fws_net.specs.declared.outcome.End.{End}
use Rattle.fws_net.specs.declared.site.Site.{Site}
use Rattle.fws_pf.specs.declared.config.PfConfig.{PfConfig}
use Rattle.fws_pf.specs.declared.config.PfNat.{PfNat}
use Rattle.fws_pf.specs.declared.config.PfRule.{PfRule}
use Rattle.fws_pf.specs.Drawn.{is_port_protocol}
use Rattle.fws_print.specs.Sets.{are_flags, first_number, is_interface, is_number, is_range}

-- Sets

-- one range of addresses that agree in their first n bits
abbrev pub is_block : ℕ → List Iv → Bool
is_block n (iv ∷ []) = agree n iv.lo iv.hi
is_block n _ = false

-- Tests

-- the place of a test in a rule: the interface, the protocol, the source and its port, the destination and its port, and options
-- behind them in this order
abbrev pub place_of : Test → ℕ
place_of (Via set) = 0
place_of (Proto set) = 1
place_of (Src set) = 2
place_of (Sport set) = 3
place_of (Dst set) = 4
place_of (Dport set) = 5
place_of (Flags mask want) = 6
place_of (Icmp set) = 7
place_of (Tag n) = 8
place_of _ = 9

-- the numbers that a test asks for, if it does
abbrev pub test_set : Test → List Iv
test_set (Via set) = set
test_set (Proto set) = set
test_set (Src set) = set
test_set (Sport set) = set
test_set (Dst set) = set
test_set (Dport set) = set
test_set (Icmp set) = set
test_set _ = []

-- the numbers that a condition asks for at a place; none where it doesn't
abbrev pub tested : ℕ → List Lit → List Iv
tested place [] = []
tested place (lit ∷ lits) = if nat_eq (place_of lit.test) place then test_set lit.test else tested place lits

-- the protocol that a condition asks for; 0 where it asks for none
abbrev pub protocol_tested : List Lit → ℕ
protocol_tested cond = first_number (tested 1 cond)

-- the tests stand in their order, none of them twice
abbrev pub ascend : ℕ → List Lit → Bool
ascend least [] = true
ascend least (lit ∷ lits) = nat_le least (place_of lit.test) && ascend (place_of lit.test + 1) lits

-- a test that is printed where a protocol is asked for: of one interface, one protocol, one range of addresses, one range of ports
-- under TCP or UDP, of flags under TCP, of one ICMP type under ICMP, and of a tag
abbrev pub is_printed_test : Site → ℕ → Test → Bool
is_printed_test site protocol (Via set) = is_interface site set
is_printed_test site protocol (Proto set) = is_number 255 set
is_printed_test site protocol (Src set) = is_range (2 ^ 32 - 1) set
is_printed_test site protocol (Dst set) = is_range (2 ^ 32 - 1) set
is_printed_test site protocol (Sport set) = is_port_protocol protocol && is_range 65535 set
is_printed_test site protocol (Dport set) = is_port_protocol protocol && is_range 65535 set
is_printed_test site protocol (Flags mask want) = nat_eq protocol 6 && are_flags mask want
is_printed_test site protocol (Icmp set) = nat_eq protocol 1 && is_number 255 set
is_printed_test site protocol (Tag n) = true
is_printed_test site protocol _ = false

-- no literal is negated
abbrev pub is_printed_literal : Site → ℕ → Lit → Bool
is_printed_literal site protocol lit = not lit.not && is_printed_test site protocol lit.test

abbrev pub is_printed_cond : Site → List Lit → Bool
is_printed_cond site cond = ascend 0 cond && list_all (is_printed_literal site (protocol_tested cond)) cond

-- Rules

-- a filter rule that is printed: it isn't quick, and keeps state just where it passes packets
abbrev pub is_printed_rule : Site → PfRule → Bool
is_printed_rule site r = not r.quick && (if r.pass then r.keep else not r.keep) && is_printed_cond site r.cond

-- translations test neither flags nor ICMP types
abbrev pub is_translation_test : Test → Bool
is_translation_test test = nat_lt (place_of test) 6 || nat_eq (place_of test) 8

-- a port is written over destinations alone, and under TCP or UDP
abbrev pub is_printed_port : Bool → List Lit → Option ℕ → Bool
is_printed_port redirects cond port = option_map_or (λ n. redirects && nat_le n 65535 && is_port_protocol (protocol_tested cond)) port true

-- the place of the addresses over which a translation writes: destinations or else sources
abbrev pub place_written : Bool → ℕ
place_written redirects = if redirects then 4 else 2

-- an end that is printed: a whole address, or fewer bits where the addresses that are written over are asked for and agree in so many
abbrev pub is_printed_end : Bool → List Lit → End → Bool
is_printed_end redirects cond e =
    nat_lt e.addr (2 ^ 32) && (if nat_eq e.len 32 then is_printed_port redirects cond e.port else is_block e.len (tested (place_written redirects) cond))

-- a translation that is printed, of destinations or else of sources; the pass goes on behind it
abbrev pub is_printed_translation : Site → Bool → PfNat → Bool
is_printed_translation site redirects nat =
    not nat.past && is_printed_cond site nat.cond && list_all (λ lit. is_translation_test lit.test) nat.cond
    && option_map_or (is_printed_end redirects nat.cond) nat.to true

-- Tags

-- the name of the tag with this number
abbrev pub tag_name : ℕ → List ℕ
tag_name n = 110 ∷ decimal n

-- these are the names of the tags from a number on
abbrev pub are_named : ℕ → List (List ℕ) → Bool
are_named n [] = true
are_named n (name ∷ names) = bytes_eq name (tag_name n) && are_named (suc n) names

-- Tags are numbered by their first places in the text. So many are known behind the name of one, where so many are known ahead of
-- it: it is one of these, or the next one, whose number has 32 bits
abbrev pub behind_tag : ℕ → ℕ → Option ℕ
behind_tag n known = if nat_lt n known then Some known else if nat_eq n known && nat_lt n (2 ^ 32) then Some (suc known) else None

-- behind a test
abbrev pub behind_test : Test → ℕ → Option ℕ
behind_test (Tag n) known = behind_tag n known
behind_test _ known = Some known

-- behind a condition
abbrev pub behind_cond : List Lit → ℕ → Option ℕ
behind_cond [] known = Some known
behind_cond (lit ∷ lits) known = option_and_then (behind_cond lits) (behind_test lit.test known)

-- behind the tag that a rule puts, if it does
abbrev pub behind_put : Option ℕ → ℕ → Option ℕ
behind_put tag known = option_map_or (λ n. behind_tag n known) tag (Some known)

-- behind a filter rule, which asks for a tag ahead of the one that it puts
abbrev pub behind_rule : PfRule → ℕ → Option ℕ
behind_rule r known = option_and_then (behind_put r.tag) (behind_cond r.cond known)

abbrev pub behind_rules : List PfRule → ℕ → Option ℕ
behind_rules [] known = Some known
behind_rules (r ∷ rs) known = option_and_then (behind_rules rs) (behind_rule r known)

-- behind a translation, which puts a tag ahead of the one that it asks for
abbrev pub behind_translation : PfNat → ℕ → Option ℕ
behind_translation nat known = option_and_then (behind_cond nat.cond) (behind_put nat.tag known)

abbrev pub behind_translations : List PfNat → ℕ → Option ℕ
behind_translations [] known = Some known
behind_translations (nat ∷ nats) known = option_and_then (behind_translations nats) (behind_translation nat known)

-- the tags that a whole text names
abbrev pub all_tags : PfConfig → Option ℕ
all_tags c = option_and_then (behind_rules c.filter) (option_and_then (behind_translations c.nat) (behind_translations c.rdr 0))

-- Configurations

-- no interface is skipped
abbrev pub skips_none : List Iv → Bool
skips_none [] = true
skips_none (iv ∷ skip) = false

-- the configuration can be printed: it skips no interface, all its translations and rules are printed, and its tags are n0, n1 and
-- so on, numbered by their first places in the text
abbrev pub is_printable : Site → PfConfig → Bool
is_printable site c =
    skips_none c.skip && list_all (is_printed_translation site true) c.rdr && list_all (is_printed_translation site false) c.nat
    && list_all (is_printed_rule site) c.filter && are_named 0 c.tags && option_map_or (nat_eq (length c.tags)) (all_tags c) false
