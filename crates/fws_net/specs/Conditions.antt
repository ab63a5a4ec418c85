-- When a rule's condition holds: each of its literals does, at what the rule sees of a packet.
use Rattle.std.specs.Prelude.{ℕ, Bool, false, ◌&&◌, not, nat_eq, Option, List, if◌then◌else◌}
use Rattle.std.specs.List.{list_all, list_any}
use Rattle.std.specs.Option.{option_map_or}
use Rattle.std.specs.Int.Bits.{bit_and}
use Rattle.fws_iv.specs.declared.iv.Iv.{Iv}
use Rattle.fws_iv.specs.Ivs.{has}
use Rattle.fws_net.specs.declared.condition.Test.{Test}
use Rattle.fws_net.specs.declared.condition.Test.TheVariants.{Src, Dst, Sport, Dport, Proto, Icmp, Flags, AnyFlag, Recv, Xmit, Via, Outward, Est, Tag, Never}
use Rattle.fws_net.specs.declared.condition.Lit.{Lit}
use Rattle.fws_net.specs.declared.view.View.{View}
use Rattle.fws_net.specs.Fates.{has_ports}

-- an interface is shown, and is a member
abbrev pub is_shown : Option ℕ → List Iv → Bool
is_shown entry set = option_map_or (has set) entry false

-- a test holds: one of ports only for TCP and UDP, one of flags only for TCP, one of types only for ICMP
abbrev pub test_holds : View → Test → Bool
test_holds v (Src set) = has set v.packet.src
test_holds v (Dst set) = has set v.packet.dst
test_holds v (Sport set) = has_ports v.packet.proto && has set v.packet.sport
test_holds v (Dport set) = has_ports v.packet.proto && has set v.packet.dport
test_holds v (Proto set) = has set v.packet.proto
test_holds v (Icmp set) = nat_eq v.packet.proto 1 && has set v.packet.icmp
test_holds v (Flags mask want) = nat_eq v.packet.proto 6 && nat_eq (bit_and v.packet.flags mask) want
test_holds v (AnyFlag mask) = nat_eq v.packet.proto 6 && not (nat_eq (bit_and v.packet.flags mask) 0)
test_holds v (Recv set) = is_shown v.recv set
test_holds v (Xmit set) = is_shown v.xmit set
test_holds v (Via set) = is_shown (if v.outward then v.xmit else v.recv) set
test_holds v Outward = v.outward
test_holds v Est = v.est
test_holds v (Tag n) = list_any (nat_eq n) v.tags
test_holds v Never = false

-- a negated literal holds exactly where its test doesn't
abbrev pub lit_holds : View → Lit → Bool
lit_holds v lit = if lit.not then not (test_holds v lit.test) else test_holds v lit.test

-- all literals hold
abbrev pub holds : List Lit → View → Bool
holds cond v = list_all (lit_holds v) cond
