-- The conditions of which pieces are made.
use Rattle.std.specs.Prelude.{◌≡◌, ℕ, Bool, true, false, ◌&&◌, nat_lt, List, [], ◌∷◌, ◌++◌, map, if◌then◌else◌}
use Rattle.std.specs.List.{list_all, list_any}
use Rattle.fws_iv.specs.declared.cube.Cube.{Cube}
use Rattle.fws_iv.specs.declared.iv.Iv.{Iv}
use Rattle.fws_iv.specs.Ivs.{has}
use Rattle.fws_net.specs.declared.condition.Lit.{Lit}
use Rattle.fws_net.specs.declared.condition.Test.{Test}
use Rattle.fws_net.specs.declared.condition.Test.TheVariants as tests
use Rattle.fws_net.specs.declared.site.Site.{Site}
use Rattle.fws_net.specs.declared.view.View.{View}
use Rattle.fws_net.specs.Conditions.{holds}
use Rattle.fws_ipt_print.specs.Printable.{are_ports}
use Rattle.fws_tree_seen.specs.declared.field.PacketField.TheVariants.{Proto, Dst, Dport, Src, Sport, Flags, Icmp}
use Rattle.fws_tree_seen.specs.declared.field.PacketField.{PacketField}
use Rattle.fws_tree_seen.specs.Fields.{suits}
use Rattle.fws_tree_seen.specs.Shown.{value_of}
use Rattle.fws_ipt_put_chains.specs.declared.coming.Coming.{Coming}
use Rattle.fws_ipt_put_chains.specs.Pieces.{is_printed_cond}

-- a literal that isn't negated
abbrev pub lit_of : Test → Lit
lit_of test = record { not = false; test = test }

-- the set of one number
abbrev pub one_number : ℕ → List Iv
one_number n = record { lo = n; hi = n } ∷ []

-- a test of this protocol
abbrev pub proto_lit : ℕ → Lit
proto_lit proto = lit_of (tests.Proto (one_number proto))

-- a test of a field for the members of a set
abbrev pub set_test : PacketField → List Iv → Test
set_test Proto set = tests.Proto set
set_test Dst set = tests.Dst set
set_test Dport set = tests.Dport set
set_test Src set = tests.Src set
set_test Sport set = tests.Sport set
set_test Flags set = tests.Never
set_test Icmp set = tests.Icmp set

-- an address lies in the range
abbrev pub range_cond : PacketField → Iv → List Lit
range_cond field iv = lit_of (set_test field (iv ∷ [])) ∷ []

-- the protocol, or the type of an ICMP packet, is this one
abbrev pub value_cond : PacketField → ℕ → List Lit
value_cond Icmp v = proto_lit 1 ∷ lit_of (tests.Icmp (one_number v)) ∷ []
value_cond field v = lit_of (set_test field (one_number v)) ∷ []

-- the flags of a TCP packet lie in the cube
abbrev pub cube_cond : Cube → List Lit
cube_cond cube = proto_lit 6 ∷ lit_of (tests.Flags cube.mask cube.want) ∷ []

-- the port of a packet with this protocol is a member
abbrev pub port_cond : PacketField → ℕ → List Iv → List Lit
port_cond field proto set = proto_lit proto ∷ lit_of (set_test field set) ∷ []

-- conditions for the members below a number; they are printed
pub record AreValuesBelow (field : PacketField) (set : List Iv) (n : ℕ) (conds : List (List Lit)) : Type 0 where
  pub hit : (v : View)
      → list_any (λ cond. holds cond v) conds ≡ (suits field v.packet.proto && (nat_lt (value_of field v.packet) n && has set (value_of field v.packet)))
  pub printed : (site : Site) (shown : Bool) → list_all (is_printed_cond site shown) conds ≡ true

-- lists of ports that together have the members of the set
pub record ArePortLists (set : List Iv) (lists : List (List Iv)) : Type 0 where
  pub same : (x : ℕ) → list_any (λ s. has s x) lists ≡ has set x
  pub short : list_all are_ports lists ≡ true

-- conditions for ports under TCP and under UDP, where these may come
abbrev pub port_conds : PacketField → Coming → List (List Iv) → List (List Lit)
port_conds field coming lists =
    (if coming.tcp then map (port_cond field 6) lists else []) ++ (if coming.udp then map (port_cond field 17) lists else [])
