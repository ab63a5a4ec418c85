-- What a reader of a set gives of a test of the set.
use Rattle.std.specs.Prelude.{◌≡◌, ℕ, Option, Some, Result, Ok, Err, List}
use Rattle.fws_iv.specs.declared.iv.Iv.{Iv}
use Rattle.fws_net.specs.declared.condition.Lit.{Lit}
use Rattle.fws_net.specs.declared.condition.Test.{Test}
use Rattle.fws_net.specs.declared.condition.Test.TheVariants as tests
use Rattle.fws_net.specs.declared.cause.Cause.{Cause}
use Rattle.fws_net.specs.declared.cause.Cause.TheVariants.{Syntax}
use Rattle.fws_net.specs.declared.site.Site.{Site}
use Rattle.fws_net.specs.declared.answer.LineFault.{LineFault}
use Rattle.fws_net.specs.Ports.{ports_of, address_range}
use Rattle.fws_net.specs.Reading.{FaultGiven}
use Rattle.fws_rules.specs.Literals.{positive}
use Rattle.fws_ipt.specs.declared.words.TestOption.{TestOption}
use Rattle.fws_ipt.specs.declared.words.TestOption.TheVariants as options
use Rattle.fws_ipt.specs.Values.{interface_meaning, open_range, range_meaning, set_meaning, type_meaning}

-- a set, whichever test is made of it, is what reading gives, unless memory ran out
abbrev pub SetGiven : Result (List Iv) (LineFault Cause) → ((List Iv → Test) → Result (Option Lit) Cause) → Type 0
SetGiven (Ok set) read = (test : List Iv → Test) → read test ≡ Ok (Some (positive (test set)))
SetGiven (Err fault) read = (test : List Iv → Test) → FaultGiven fault (read test)

-- the literal of an option with a set, by a test of the set
abbrev pub set_meaning_of : Site → TestOption → List ℕ → (List Iv → Test) → Result (Option Lit) Cause
set_meaning_of site options.InInterface text test = interface_meaning site test text
set_meaning_of site options.OutInterface text test = interface_meaning site test text
set_meaning_of site options.SourcePort text test = range_meaning test (open_range text)
set_meaning_of site options.DestinationPort text test = range_meaning test (open_range text)
set_meaning_of site options.SourcePorts text test = set_meaning test (ports_of 58 text)
set_meaning_of site options.DestinationPorts text test = set_meaning test (ports_of 58 text)
set_meaning_of site options.SourceRange text test = range_meaning test (address_range text)
set_meaning_of site options.DestinationRange text test = range_meaning test (address_range text)
set_meaning_of site options.SourceType text test = type_meaning site test text
set_meaning_of site options.DestinationType text test = type_meaning site test text
set_meaning_of site option text test = Err Syntax

-- the test of an option's set
abbrev pub set_test : TestOption → List Iv → Test
set_test options.InInterface set = tests.Recv set
set_test options.OutInterface set = tests.Xmit set
set_test options.SourcePort set = tests.Sport set
set_test options.DestinationPort set = tests.Dport set
set_test options.SourcePorts set = tests.Sport set
set_test options.DestinationPorts set = tests.Dport set
set_test options.SourceRange set = tests.Src set
set_test options.DestinationRange set = tests.Dst set
set_test options.SourceType set = tests.Src set
set_test options.DestinationType set = tests.Dst set
set_test option set = tests.Never
