-- The configurations that are printed: those that hold what placed policies need, in the forms that ipfw(8) lists.
use Rattle.std.specs.Prelude.{ℕ, ◌+◌, ◌-◌, ◌^◌, Bool, true, false, ◌&&◌, ◌||◌, not, nat_eq, nat_le, nat_lt, Option, is_none, List, [], ◌∷◌, length, if◌then◌else◌}
use Rattle.std.specs.List.{list_all}
use Rattle.std.specs.Option.{option_map_or}
use Rattle.fws_iv.specs.declared.iv.Iv.{Iv}
use Rattle.fws_net.specs.declared.condition.Lit.{Lit}
use Rattle.fws_net.specs.declared.condition.Test.{Test}
use Rattle.fws_net.specs.declared.condition.Test.TheVariants.{Src, Dst, Sport, Dport, Proto, Icmp, Flags, Recv, Outward, Tag}
use Rattle.fws_net.specs.declared.outcome.End.{End}
use Rattle.fws_net.specs.declared.site.Site.{Site}
use Rattle.fws_ipfw.specs.declared.config.IpfwAct.{IpfwAct}
use Rattle.fws_ipfw.specs.declared.config.IpfwAct.TheVariants.{Allow, Deny, Count, Skip, Check, Nat}
use Rattle.fws_ipfw.specs.declared.config.IpfwTag.{IpfwTag}
use Rattle.fws_ipfw.specs.declared.config.IpfwTag.TheVariants.{Nothing, Add, Remove}
use Rattle.fws_ipfw.specs.declared.config.IpfwConfig.{IpfwConfig}
use Rattle.fws_ipfw.specs.declared.config.IpfwNat.{IpfwNat}
use Rattle.fws_ipfw.specs.declared.config.IpfwRule.{IpfwRule}
use Rattle.fws_ipfw.specs.declared.config.Redirect.{Redirect}
use Rattle.fws_ipfw.specs.FileText.{has_nat}
use Rattle.fws_ipfw.specs.RuleText.{allows, has_ports}
use Rattle.fws_ipfw.specs.Soundness.{are_apart, are_ordered, is_check, is_everywhere, leaves_tags}
use Rattle.fws_print.specs.Sets.{are_flags, are_ranges, is_interface, is_number}

-- Sets

-- every interface
abbrev pub is_every_interface : Site → List Iv → Bool
is_every_interface site (iv ∷ []) = nat_eq iv.lo 1 && nat_eq iv.hi (length site.faces + 1)
is_every_interface site _ = false

-- Tests

-- the place of a test in a rule: the protocol, the source and the destination stand in front, and options behind them in this
-- order
abbrev pub place_of : Test → ℕ
place_of (Proto set) = 0
place_of (Src set) = 1
place_of (Dst set) = 2
place_of Outward = 3
place_of (Recv set) = 4
place_of (Sport set) = 5
place_of (Dport set) = 6
place_of (Flags mask want) = 7
place_of (Icmp set) = 8
place_of (Tag n) = 9
place_of _ = 10

-- the tests stand in their order, none of them twice
abbrev pub ascend : ℕ → List Lit → Bool
ascend least [] = true
ascend least (lit ∷ lits) = nat_le least (place_of lit.test) && ascend (place_of lit.test + 1) lits

-- a test that is printed: of one protocol, of addresses, of ports in at most thirty ranges, of flags, of ICMP types, of one
-- interface, of the direction, and of a tag
abbrev pub is_printed_test : Site → Test → Bool
is_printed_test site (Proto set) = is_number 255 set
is_printed_test site (Src set) = are_ranges (2 ^ 32 - 1) set
is_printed_test site (Dst set) = are_ranges (2 ^ 32 - 1) set
is_printed_test site (Sport set) = are_ranges 65535 set && nat_le (length set) 30
is_printed_test site (Dport set) = are_ranges 65535 set && nat_le (length set) 30
is_printed_test site (Flags mask want) = are_flags mask want
is_printed_test site (Icmp set) = are_ranges 255 set
is_printed_test site (Recv set) = is_interface site set
is_printed_test site Outward = true
is_printed_test site (Tag n) = nat_lt 0 n && nat_le n 65534
is_printed_test site _ = false

-- a negated test that is printed: `in`, and that no interface received the packet
abbrev pub is_printed_negation : Site → Test → Bool
is_printed_negation site Outward = true
is_printed_negation site (Recv set) = is_every_interface site set
is_printed_negation site _ = false

abbrev pub is_printed_literal : Site → Lit → Bool
is_printed_literal site lit = if lit.not then is_printed_negation site lit.test else is_printed_test site lit.test

abbrev pub is_printed_cond : Site → List Lit → Bool
is_printed_cond site cond = ascend 0 cond && list_all (is_printed_literal site) cond

-- Rules

-- a rule skips forward, and translates by an instance that is there
abbrev pub is_printed_act : List IpfwNat → ℕ → IpfwAct → Bool
is_printed_act nats number Allow = true
is_printed_act nats number Deny = true
is_printed_act nats number Count = true
is_printed_act nats number (Skip n) = nat_lt number n && nat_le n 65534
is_printed_act nats number Check = true
is_printed_act nats number (Nat n) = has_nat nats n

-- a tag is added, or none is changed
abbrev pub is_printed_tag : IpfwTag → Bool
is_printed_tag Nothing = true
is_printed_tag (Add n) = nat_lt 0 n && nat_le n 65534
is_printed_tag (Remove n) = false

-- a rule that is printed: state is kept where the packet is allowed, and a check-state rule stands alone
abbrev pub is_printed_rule : Site → List IpfwNat → IpfwRule → Bool
is_printed_rule site nats r =
    nat_lt 0 r.number && nat_le r.number 65534 && is_printed_cond site r.cond && is_printed_act nats r.number r.act && is_printed_tag r.tag
    && (not r.keep || allows r.act) && (not (is_check r.act) || (is_everywhere r.cond && leaves_tags r.tag))

-- Instances

-- a whole address
abbrev pub is_whole : End → Bool
is_whole e = nat_eq e.len 32 && nat_lt e.addr (2 ^ 32)

abbrev pub is_port : Option ℕ → Bool
is_port port = option_map_or (λ n. nat_le n 65535) port false

-- a redirect of ports of TCP or UDP, with a port at each end, or one of addresses without ports. No outer address is 0.0.0.0
abbrev pub is_printed_redirect : Redirect → Bool
is_printed_redirect r =
    is_whole r.local && is_whole r.public && not (nat_eq r.public.addr 0)
    && ((has_ports r.proto && is_port r.local.port && is_port r.public.port)
    || (is_none r.proto && is_none r.local.port && is_none r.public.port))

abbrev pub is_printed_nat : IpfwNat → Bool
is_printed_nat nat = nat_lt 0 nat.number && nat_le nat.number 65535 && nat_lt nat.alias (2 ^ 32) && list_all is_printed_redirect nat.redirects

-- the numbers of the instances ascend from a number on
abbrev pub numbers_ascend : ℕ → List IpfwNat → Bool
numbers_ascend from [] = true
numbers_ascend from (nat ∷ nats) = nat_le from nat.number && numbers_ascend (nat.number + 1) nats

-- the redirects of the instance with a number
abbrev pub redirects_at : List IpfwNat → ℕ → ℕ
redirects_at [] n = 0
redirects_at (nat ∷ nats) n = if nat_eq nat.number n then length nat.redirects else redirects_at nats n

-- the redirects of the instance that an act names
abbrev pub redirects_named : List IpfwNat → IpfwAct → ℕ
redirects_named nats (Nat n) = redirects_at nats n
redirects_named nats _ = 0

-- the redirects of the instances that the rules name, counted at each such rule
abbrev pub all_redirects : List IpfwNat → List IpfwRule → ℕ
all_redirects nats [] = 0
all_redirects nats (r ∷ rs) = redirects_named nats r.act + all_redirects nats rs

-- Configurations

-- the configuration can be printed: its rules stand by their numbers, no two instances have the same number, there are at most
-- 200,000 redirects, and all its rules and instances are printed
abbrev pub is_printable : Site → IpfwConfig → Bool
is_printable site c =
    are_ordered c.rules && are_apart c.nats && list_all is_printed_nat c.nats && list_all (is_printed_rule site c.nats) c.rules
    && nat_le (all_redirects c.nats c.rules) 200000
