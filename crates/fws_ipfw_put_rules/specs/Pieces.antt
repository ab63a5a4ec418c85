-- Pieces of sets: literals of which one holds where a field's value is a member.
use Rattle.std.specs.Prelude.{◌≡◌, ℕ, ◌≤◌, true, false, ◌&&◌, nat_lt, List}
use Rattle.std.specs.List.{list_all, list_any}
use Rattle.fws_iv.specs.declared.cube.Cube.{Cube}
use Rattle.fws_iv.specs.declared.iv.Iv.{Iv}
use Rattle.fws_iv.specs.Ivs.{has}
use Rattle.fws_net.specs.declared.condition.Lit.{Lit}
use Rattle.fws_net.specs.declared.condition.Test.{Test}
use Rattle.fws_net.specs.declared.condition.Test.TheVariants as tests
use Rattle.fws_net.specs.declared.site.Site.{Site}
use Rattle.fws_net.specs.declared.view.View.{View}
use Rattle.fws_net.specs.Conditions.{lit_holds}
use Rattle.fws_tree_seen.specs.declared.field.PacketField.{PacketField}
use Rattle.fws_tree_seen.specs.declared.field.PacketField.TheVariants.{Proto, Dst, Dport, Src, Sport, Flags, Icmp}
use Rattle.fws_tree_seen.specs.Fields.{hits, suits, top_of}
use Rattle.fws_tree_seen.specs.Shown.{value_of}
use Rattle.fws_ipfw_put_rules.specs.Literals.{is_printed_at}

-- a test of a field for the members of a set
abbrev pub set_test : PacketField → List Iv → Test
set_test Proto set = tests.Proto set
set_test Dst set = tests.Dst set
set_test Dport set = tests.Dport set
set_test Src set = tests.Src set
set_test Sport set = tests.Sport set
set_test Flags set = tests.Never
set_test Icmp set = tests.Icmp set

abbrev pub set_lit : PacketField → List Iv → Lit
set_lit field set = record { not = false; test = set_test field set }

-- flags lie in the cube
abbrev pub cube_lit : Cube → Lit
cube_lit cube = record { not = false; test = tests.Flags cube.mask cube.want }

-- the place of the tests of a field
abbrev pub place_at : PacketField → ℕ
place_at Proto = 0
place_at Src = 1
place_at Dst = 2
place_at Sport = 5
place_at Dport = 6
place_at Flags = 7
place_at Icmp = 8

-- a set of some values of a field, and not of all
pub record IsProper (field : PacketField) (set : List Iv) : Type 0 where
  pub within : (v : ℕ) → has set v ≡ true → v ≤ top_of field
  pub some : (v : ℕ) × (has set v ≡ true)
  pub lacks : (v : ℕ) × (v ≤ top_of field) × (has set v ≡ false)

-- literals of which one holds just where the packet hits the set; they are printed, at the place of the field
pub record ArePieces (field : PacketField) (set : List Iv) (lits : List Lit) : Type 0 where
  pub hit : (v : View) → (suits field v.packet.proto ≡ true → value_of field v.packet ≤ top_of field) → list_any (lit_holds v) lits ≡ hits field set v.packet
  pub printed : (site : Site) → list_all (is_printed_at site (place_at field)) lits ≡ true

-- literals for the protocols below a number
pub record AreProtocolsBelow (set : List Iv) (n : ℕ) (lits : List Lit) : Type 0 where
  pub hit : (v : View) → list_any (lit_holds v) lits ≡ (nat_lt v.packet.proto n && has set v.packet.proto)
  pub printed : (site : Site) → list_all (is_printed_at site 0) lits ≡ true
