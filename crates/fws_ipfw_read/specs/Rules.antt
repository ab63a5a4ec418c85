-- A rule that is read in parts.
use Rattle.std.specs.Prelude.{Result, Ok, Err, List, if◌then◌else◌}
use Rattle.fws_num.specs.declared.word.Word.{Word}
use Rattle.fws_net.specs.declared.cause.Cause.{Cause}
use Rattle.fws_net.specs.declared.cause.Cause.TheVariants.{Syntax}
use Rattle.fws_net.specs.declared.site.Site.{Site}
use Rattle.fws_net.specs.Causes.{words_read}
use Rattle.fws_net.specs.Reading.{and_then}
use Rattle.fws_ipfw.specs.declared.draft.Defined.{Defined}
use Rattle.fws_ipfw.specs.declared.draft.RuleDraft.{RuleDraft}
use Rattle.fws_ipfw.specs.RuleText.{may_end, rule_step}

-- what was read of a rule and these words behind it; a line that ends too early is Syntax
abbrev pub rule_behind : Site → List Defined → RuleDraft → List Word → Result RuleDraft Cause
rule_behind site known d ws = and_then (words_read (rule_step site known) d ws) (λ next. if may_end next.expects then Ok next else Err Syntax)
