-- What is tested at the places of a rule.
use Rattle.std.specs.Prelude.{List}
use Rattle.fws_iv.specs.declared.iv.Iv.{Iv}
use Rattle.fws_net.specs.declared.condition.Test.{Test}
use Rattle.fws_net.specs.declared.condition.Test.TheVariants as tests
use Rattle.fws_pf.specs.declared.rule_draft.Place.{Place}
use Rattle.fws_pf.specs.declared.rule_draft.Place.TheVariants as places

-- the test of the numbers at a place
abbrev pub test_at : Place → List Iv → Test
test_at places.On = tests.Via
test_at places.Proto = tests.Proto
test_at places.Source = tests.Src
test_at places.SourcePort = tests.Sport
test_at places.Destination = tests.Dst
test_at places.DestinationPort = tests.Dport
test_at places.IcmpType = tests.Icmp
