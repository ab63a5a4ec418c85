use Rattle.fws_pf_words.proofs.Fronting.{step_refused, stepped}
use Rattle.fws_pf_words.proofs.long_value.LongValue.step.Goals as goal

pub returns-in-Err : goal.returns-in-Err
returns-in-Err c = step_refused c.args.setting.now c.args.w.now c.args.self.now c.start-next.result c.value_step.new.d _ c.start-next.ensures c.in-Err.ensures

pub returns-in_ok-go_on-in-Ok : goal.returns-in_ok-go_on-in-Ok
returns-in_ok-go_on-in-Ok c =
    stepped c.args.setting.now c.args.w.now c.args.self.now c.start-next.result c.value_step.new.d c.go_on.new.self _ c.start-next.ensures c.in-Ok.ensures
    c.in_ok-go_on-in-Ok.ensures
