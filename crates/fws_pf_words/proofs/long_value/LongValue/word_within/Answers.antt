use Rattle.std.proofs.Common.{rules, sym, ◌∙◌}
use Rattle.fws_pf_words.proofs.Fronting.{word_stays}
use Rattle.fws_pf_words.proofs.long_value.LongValue.word_within.Goals as goal

pub returns-in_ok-go_on-in-Ok : goal.returns-in_ok-go_on-in-Ok
returns-in_ok-go_on-in-Ok c =
    word_stays c.args.setting.now c.args.w.now c.args.self.now c.start-next.result c.value_step.new.d c.go_on.new.self c.in-Ok.took c.has_ended.result
    (sym c.is_sound.ensures ∙ search rules) c.start-next.ensures c.in-Ok.ensures (search rules) c.has_ended.ensures (search rules) c.in_ok-go_on-in-Ok.ensures
