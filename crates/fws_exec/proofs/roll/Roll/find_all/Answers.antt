use Rattle.std.proofs.Common.{◌∙◌}
use Rattle.fws_exec.proofs.roll.Roll.find_all.Goals as goal

pub loop-number-preserved : goal.loop-number-preserved
loop-number-preserved c = record { same = c.find.ensures ∙ c.loop-number.invariant.same }
