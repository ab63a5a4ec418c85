-- What the options of a rule ask for.
use Rattle.fws_net.specs.declared.condition.Test.TheVariants as tests
use Rattle.fws_pf.specs.declared.rule_draft.Choice.{Choice}
use Rattle.fws_pf.specs.RuleText.{choice_of, only}
use Rattle.std.specs.Prelude.{[]}
use Rattle.fws_pf_read.specs.declared.asked.Asked.{Asked}
use Rattle.fws_pf_read.specs.declared.asked.Asked.TheVariants as own

-- the choice for which an option asks
abbrev pub asked_choice : Asked → Choice
asked_choice (own.One cond) = only cond
asked_choice (own.Types items) = choice_of [] tests.Icmp items
