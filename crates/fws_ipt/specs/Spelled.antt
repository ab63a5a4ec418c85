-- What holds of every rule that a text spells: which tests it has, under which protocols, and where NETMAP stands.
use Rattle.std.specs.Prelude.{◌≡◌, ℕ, ◌+◌, ◌-◌, ◌%◌, ◌^◌, Bool, true, false, ◌&&◌, ◌||◌, not, nat_eq, nat_le, is_some, is_none, Ok, List, [], ◌∷◌, if◌then◌else◌}
use Rattle.std.specs.List.{list_all, list_any, range_with_len}
use Rattle.std.specs.Option.{option_map_or}
use Rattle.fws_num.specs.declared.prefix.Prefix.{Prefix}
use Rattle.fws_iv.specs.declared.iv.Iv.{Iv}
use Rattle.fws_net.specs.declared.condition.Test.{Test}
use Rattle.fws_net.specs.declared.condition.Test.TheVariants.{Src, Dst, Sport, Dport, Proto, Icmp, Flags, AnyFlag, Via, Outward}
use Rattle.fws_net.specs.declared.condition.Lit.{Lit}
use Rattle.fws_net.specs.declared.site.Site.{Site}
use Rattle.fws_ipt.specs.declared.config.IptTable.TheVariants.{Nat}
use Rattle.fws_ipt.specs.declared.config.IptGo.{IptGo}
use Rattle.fws_ipt.specs.declared.config.IptGo.TheVariants.{Source, Dest, Redirect, Netmap}
use Rattle.fws_ipt.specs.declared.config.IptRule.{IptRule}
use Rattle.fws_ipt.specs.declared.config.IptChain.{IptChain}
use Rattle.fws_ipt.specs.declared.config.IptConfig.{IptConfig}
use Rattle.fws_ipt.specs.declared.hook.Hook.{Hook}
use Rattle.fws_ipt.specs.FileText.{spelled}
use Rattle.fws_ipt.specs.Hooks.{hook_named}
use Rattle.fws_ipt.specs.Walk.{is_table, writes_dst_at, writes_src_at}

-- Conditions

-- a literal that isn't negated has such a test
abbrev pub asks : (Test → Bool) → List Lit → Bool
asks test cond = list_any (λ lit. not lit.not && test lit.test) cond

-- the set has this one number
abbrev pub is_only : ℕ → List Iv → Bool
is_only n (iv ∷ []) = nat_eq iv.lo n && nat_eq iv.hi n
is_only n _ = false

-- only this protocol passes the test
abbrev pub tests_protocol : ℕ → Test → Bool
tests_protocol n (Proto set) = is_only n set
tests_protocol n _ = false

-- the condition asks for this protocol
abbrev pub asks_protocol : ℕ → List Lit → Bool
asks_protocol n cond = asks (tests_protocol n) cond

-- the condition asks for TCP or for UDP
abbrev pub asks_ports : List Lit → Bool
asks_ports cond = asks_protocol 6 cond || asks_protocol 17 cond

-- a test that an option means, where ports, flags and ICMP types may be tested
abbrev pub may_stand : Bool → Bool → Bool → Test → Bool
may_stand ports flags icmp (Sport set) = ports
may_stand ports flags icmp (Dport set) = ports
may_stand ports flags icmp (Flags mask want) = flags
may_stand ports flags icmp (Icmp set) = icmp
may_stand ports flags icmp (AnyFlag mask) = false
may_stand ports flags icmp (Via set) = false
may_stand ports flags icmp Outward = false
may_stand ports flags icmp _ = true

-- no test is of AnyFlag, Via or Outward; ports, flags and ICMP types are tested under their protocols
abbrev pub is_spelled_cond : List Lit → Bool
is_spelled_cond cond = list_all (λ lit. may_stand (asks_ports cond) (asks_protocol 6 cond) (asks_protocol 1 cond) lit.test) cond

-- no port is written, or ports may be
abbrev pub may_write : Bool → IptGo → Bool
may_write ports (Source e) = is_none e.port || ports
may_write ports (Dest e) = is_none e.port || ports
may_write ports (Redirect port) = is_none port || ports
may_write ports _ = true

-- ports are written under their protocols
abbrev pub is_spelled_rule : IptRule → Bool
is_spelled_rule rule = is_spelled_cond rule.cond && may_write (asks_ports rule.cond) rule.go

-- each rule that a text spells is such
abbrev pub SpelledConditions : Type 0
SpelledConditions = (site : Site) (text : List ℕ) (c : IptConfig) → spelled site text ≡ Ok c → list_all (λ chain. list_all is_spelled_rule chain.rules) c.chains ≡ true

-- Networks

-- the addresses that agree with one in their first len bits
abbrev pub is_block : ℕ → List Iv → Bool
is_block len (iv ∷ []) = nat_eq (iv.lo % 2 ^ (32 - len)) 0 && nat_eq iv.hi (iv.lo + (2 ^ (32 - len) - 1))
is_block len _ = false

-- the addresses of a prefix of this length, or of a longer one
abbrev pub is_prefix_set : ℕ → List Iv → Bool
is_prefix_set len set = list_any (λ n. is_block n set) (range_with_len len (33 - len))

-- the source is tested by such a set
abbrev pub tests_src : (List Iv → Bool) → Test → Bool
tests_src is_such (Src set) = is_such set
tests_src is_such _ = false

-- the destination is tested by such a set
abbrev pub tests_dst : (List Iv → Bool) → Test → Bool
tests_dst is_such (Dst set) = is_such set
tests_dst is_such _ = false

-- the condition names the addresses over which NETMAP writes at a hook, by a prefix of this length or a longer one
abbrev pub names_block : Hook → ℕ → List Lit → Bool
names_block hook len cond =
    if writes_dst_at hook then asks (tests_dst (is_prefix_set len)) cond
    else if writes_src_at hook then asks (tests_src (is_prefix_set len)) cond else false

-- a length of 1 to 32, and no bits past it
abbrev pub is_network : Prefix → Bool
is_network net = nat_le 1 net.len && nat_le net.len 32 && nat_eq (net.addr % 2 ^ (32 - net.len)) 0

-- NETMAP stands in a built-in chain of nat, and its rule names the addresses over which it writes
abbrev pub maps_named : IptChain → List Lit → IptGo → Bool
maps_named chain cond (Netmap net) =
    is_table Nat chain.table && is_some chain.policy && is_network net
    && option_map_or (λ hook. names_block hook net.len cond) (hook_named chain.name) false
maps_named chain cond _ = true

-- each NETMAP that a text spells is such
abbrev pub SpelledNetworks : Type 0
SpelledNetworks = (site : Site) (text : List ℕ) (c : IptConfig) → spelled site text ≡ Ok c
    → list_all (λ chain. list_all (λ rule. maps_named chain rule.cond rule.go) chain.rules) c.chains ≡ true
