-- What translations ask of packets.
use Rattle.std.specs.Prelude.{◌≡◌, ℕ, ◌≤◌, Bool, true, false, ◌&&◌, Option, Some, None, List, [], ◌∷◌, ◌++◌}
use Rattle.std.specs.List.{list_any}
use Rattle.std.specs.Option.{option_map_or}
use Rattle.fws_iv.specs.declared.iv.Iv.{Iv}
use Rattle.fws_iv.specs.Ivs.{has}
use Rattle.fws_net.specs.declared.condition.Lit.{Lit}
use Rattle.fws_net.specs.declared.condition.Test.{Test}
use Rattle.fws_net.specs.declared.condition.Test.TheVariants as tests
use Rattle.fws_net.specs.declared.outcome.End.{End}
use Rattle.fws_net.specs.declared.packet.Packet.{Packet}
use Rattle.fws_net.specs.declared.site.Site.{Site}
use Rattle.fws_net.specs.Conditions.{is_shown}
use Rattle.fws_net.specs.Fates.{has_ports}
use Rattle.fws_net.specs.Showing.{receiving}
use Rattle.fws_pf.specs.declared.config.PfNat.{PfNat}
use Rattle.fws_pf_print.specs.Printable.{is_printed_test}
use Rattle.fws_pf_put_nat.specs.declared.path.Path.{Path}
use Rattle.fws_pf_put_nat.specs.declared.side.Side.{Side}
use Rattle.fws_pf_put_nat.specs.declared.side.Side.TheVariants.{Entry, Proto, Dst, Dport, Src, Sport}

-- Fields

-- the number of the field among those of a point
abbrev pub number_of : Side → ℕ
number_of Entry = 0
number_of Proto = 1
number_of Dst = 2
number_of Dport = 3
number_of Src = 4
number_of Sport = 5

-- the test that the field is a member
abbrev pub test_of : Side → List Iv → Test
test_of Entry set = tests.Via set
test_of Proto set = tests.Proto set
test_of Dst set = tests.Dst set
test_of Dport set = tests.Dport set
test_of Src set = tests.Src set
test_of Sport set = tests.Sport set

-- the packet has the field, which is a member
abbrev pub hits : Side → List Iv → Packet → Bool
hits Entry set q = is_shown (receiving q) set
hits Proto set q = has set q.proto
hits Dst set q = has set q.dst
hits Dport set q = has_ports q.proto && has set q.dport
hits Src set q = has set q.src
hits Sport set q = has_ports q.proto && has set q.sport

-- Paths

abbrev pub no_parts : Path
no_parts = record { entry = None; proto = None; dst = None; dport = None; src = None; sport = None }

-- what is asked of a field
abbrev pub part_of : Side → Path → Option Iv
part_of Entry path = path.entry
part_of Proto path = path.proto
part_of Dst path = path.dst
part_of Dport path = path.dport
part_of Src path = path.src
part_of Sport path = path.sport

-- this range is asked of a field
abbrev pub with_part : Side → Iv → Path → Path
with_part Entry part path = record path { entry = Some part }
with_part Proto part path = record path { proto = Some part }
with_part Dst part path = record path { dst = Some part }
with_part Dport part path = record path { dport = Some part }
with_part Src part path = record path { src = Some part }
with_part Sport part path = record path { sport = Some part }

-- the packet's field is as it is asked
abbrev pub part_has : Side → Path → Packet → Bool
part_has side path q = option_map_or (λ part. hits side (part ∷ []) q) (part_of side path) true

-- all its fields are
abbrev pub path_has : Path → Packet → Bool
path_has path q = part_has Entry path q && part_has Proto path q && part_has Src path q && part_has Sport path q && part_has Dst path q && part_has Dport path q

-- one of the paths is the packet's
abbrev pub some_path_has : List Path → Packet → Bool
some_path_has paths q = list_any (λ path. path_has path q) paths

-- Rules

-- the literal that a field lies in a range, if it is tested
abbrev pub lits_of : Side → Option Iv → List Lit
lits_of side None = []
lits_of side (Some part) = record { not = false; test = test_of side (part ∷ []) } ∷ []

-- the condition that a packet is on a path
abbrev pub cond_of : Path → List Lit
cond_of path =
    lits_of Entry path.entry
    ++ (lits_of Proto path.proto ++ (lits_of Src path.src ++ (lits_of Sport path.sport ++ (lits_of Dst path.dst ++ lits_of Dport path.dport))))

-- the translation of packets on a path, behind which they have the tag
abbrev pub nat_of : Path → Option End → ℕ → PfNat
nat_of path to tag = record { cond = cond_of path; to = to; past = false; tag = Some tag }

-- What is known of paths

-- the protocol that is asked for, or 0
abbrev pub protocol_of : Path → ℕ
protocol_of path = option_map_or (λ part. part.lo) path.proto 0

-- a test of the field is printed
abbrev pub part_printed : Site → Path → Side → Bool
part_printed site path side = option_map_or (λ part. is_printed_test site (protocol_of path) (test_of side (part ∷ []))) (part_of side path) true

-- a path whose tests are printed, and which asks nothing of the fields from one on; on the out pass nothing is asked of the entry
pub record IsGoodPath (site : Site) (outward : Bool) (from : ℕ) (path : Path) : Type 0 where
  pub printed : (side : Side) → part_printed site path side ≡ true
  pub free : (side : Side) → from ≤ number_of side → part_of side path ≡ None
  pub entry : outward ≡ true → path.entry ≡ None
