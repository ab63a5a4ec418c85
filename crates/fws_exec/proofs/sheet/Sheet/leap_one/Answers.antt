use Rattle.fws_exec.proofs.Telling.{keeps_then}
use Rattle.fws_exec.proofs.sheet.Sheet.leap_one.Goals as goal

pub returns-clause-kept : goal.returns-clause-kept
returns-clause-kept c = keeps_then c.args.errand.now c.args.self.now c.go_on.new.self c.pass_held.new.self c.in_ok-to.ensures.kept c.in_ok-pass_held.ensures.kept
