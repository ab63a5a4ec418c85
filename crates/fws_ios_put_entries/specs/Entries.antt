-- Entries of access lists for paths.
use Rattle.std.specs.Prelude.{◌≡◌, Bool, true, false, ◌&&◌, ◌||◌, not, nat_eq, Option, Some, None, option_map, List, [], ◌∷◌, ◌++◌}
use Rattle.std.specs.Int.Bits.{bit_and}
use Rattle.fws_iv.specs.declared.iv.Iv.{Iv}
use Rattle.fws_net.specs.declared.condition.Lit.{Lit}
use Rattle.fws_net.specs.declared.condition.Test.{Test}
use Rattle.fws_net.specs.declared.condition.Test.TheVariants as tests
use Rattle.fws_net.specs.declared.packet.Packet.{Packet}
use Rattle.fws_net.specs.declared.view.View.{View}
use Rattle.fws_net.specs.Conditions.{holds}
use Rattle.fws_net.specs.Faces.{prefix_parts}
use Rattle.fws_rules.specs.Literals.{one, positive}
use Rattle.fws_ios.specs.declared.config.IosEntry.{IosEntry}
use Rattle.fws_ios_print.specs.Printable.{is_printed_entry, is_state}
use Rattle.fws_ios_put_entries.specs.declared.act.Act.{Act}
use Rattle.fws_ios_put_entries.specs.declared.path.Path.{Path}
use Rattle.fws_ios_put_entries.specs.declared.side.Side.{Side}
use Rattle.fws_ios_put_entries.specs.declared.side.Side.TheVariants.{Proto, Src, Sport, Dst, Dport, Icmp}
use Rattle.fws_ios_put_entries.specs.Paths.{path_has}

-- ACK or RST of TCP is set: what `established` asks for
abbrev pub acknowledges : Packet → Bool
acknowledges p = nat_eq p.proto 6 && not (nat_eq (bit_and p.flags 20) 0)

-- the entry's packets
abbrev pub meets : Act → Path → Packet → Bool
meets act path p = path_has path p && (not act.established || acknowledges p)

-- the entry that does this with the packets on the path
pub record IsEntryOf (act : Act) (path : Path) (e : IosEntry) : Type 0 where
  pub permit : e.permit ≡ act.permit
  pub reflect : e.reflect ≡ act.reflect
  pub printed : is_printed_entry e ≡ true
  pub classless : is_state e.cond ≡ false
  pub holds : (v : View) → holds e.cond v ≡ meets act path v.packet

-- the entry that permits the packets of connections
pub record IsStateEntry (e : IosEntry) : Type 0 where
  pub permit : e.permit ≡ true
  pub reflect : e.reflect ≡ false
  pub cond : e.cond ≡ positive tests.Est ∷ []
  pub printed : is_printed_entry e ≡ true

-- Conditions

-- the test that the field is a member
abbrev pub test_of : Side → List Iv → Test
test_of Proto set = tests.Proto set
test_of Src set = tests.Src set
test_of Sport set = tests.Sport set
test_of Dst set = tests.Dst set
test_of Dport set = tests.Dport set
test_of Icmp set = tests.Icmp set

-- the literal that a field is a member, if it is asked
abbrev pub lits_of : Side → Option (List Iv) → List Lit
lits_of side None = []
lits_of side (Some set) = positive (test_of side set) ∷ []

-- the literal that ACK or RST is set, if that is asked
abbrev pub flag_lits : Bool → List Lit
flag_lits true = positive (tests.AnyFlag 20) ∷ []
flag_lits false = []

-- the sets that a path asks for
abbrev pub proto_set : Path → Option (List Iv)
proto_set path = option_map (λ n. one n n) path.proto

abbrev pub src_set : Path → Option (List Iv)
src_set path = option_map prefix_parts path.src

abbrev pub sport_set : Path → Option (List Iv)
sport_set path = option_map (λ range. range ∷ []) path.sport

abbrev pub dst_set : Path → Option (List Iv)
dst_set path = option_map prefix_parts path.dst

abbrev pub dport_set : Path → Option (List Iv)
dport_set path = option_map (λ range. range ∷ []) path.dport

abbrev pub type_set : Path → Option (List Iv)
type_set path = option_map (λ n. one n n) path.icmp

-- what a condition asks behind the source's port
abbrev pub behind_source : Path → Bool → List Lit
behind_source path established = lits_of Dst (dst_set path) ++ (lits_of Dport (dport_set path) ++ (lits_of Icmp (type_set path) ++ flag_lits established))

-- the condition that a packet is on a path, and has ACK or RST where that is asked
abbrev pub cond_of : Path → Bool → List Lit
cond_of path established = lits_of Proto (proto_set path) ++ (lits_of Src (src_set path) ++ (lits_of Sport (sport_set path) ++ behind_source path established))

-- literals with what a condition asks up to the source's port behind them
abbrev pub behind_front : List Lit → Path → List Lit
behind_front lits path = lits ++ lits_of Proto (proto_set path) ++ lits_of Src (src_set path) ++ lits_of Sport (sport_set path)
