-- The words of what a translation writes.
use Rattle.std.specs.Prelude.{Result, Err}
use Rattle.fws_num.specs.declared.word.Word.{Word}
use Rattle.fws_net.specs.declared.cause.Cause.{Cause}
use Rattle.fws_net.specs.declared.cause.Cause.TheVariants.{Syntax}
use Rattle.fws_net.specs.declared.site.Site.{Site}
use Rattle.fws_pf.specs.declared.rule_draft.Expects.{Expects}
use Rattle.fws_pf.specs.declared.rule_draft.Expects.TheVariants as expect
use Rattle.fws_pf.specs.declared.rule_draft.RuleDraft.{RuleDraft}
use Rattle.fws_pf.specs.TargetText.{bitmask_step, ended_step, target_end_step, target_name_step, target_port_step, target_step, targeted_step}

-- a word that is taken for one of these; any other is refused
abbrev pub written_step : Site → Expects → Word → RuleDraft → Result RuleDraft Cause
written_step site expect.Target w d = target_step site w d
written_step site expect.TargetName w d = target_name_step site w d
written_step site expect.TargetEnd w d = target_end_step w d
written_step site expect.Bitmask w d = bitmask_step w d
written_step site expect.Targeted w d = targeted_step w d
written_step site expect.TargetPort w d = target_port_step w d
written_step site expect.Ended w d = ended_step w d
written_step site _ w d = Err Syntax
