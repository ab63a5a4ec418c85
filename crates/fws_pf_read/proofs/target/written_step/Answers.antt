use Rattle.std.proofs.Common.{subst, sym}
use Rattle.fws_net.specs.Reading.{FaultGiven}
use Rattle.fws_pf.specs.declared.rule_draft.Expects.{Expects}
use Rattle.fws_pf_read.specs.Views.{draft_of}
use Rattle.fws_pf_read.specs.Written.{written_step}
use Rattle.fws_pf_read.proofs.target.written_step.Goals as goal

pub returns-in-Ended : goal.returns-in-Ended
returns-in-Ended c =
    let d = draft_of c.args.d.now in
    subst (λ (e : Expects). FaultGiven c.ended_fault.result (written_step c.args.site.now e c.args.w.now d)) (sym c.in-Ended.is) (c.ended_fault.ensures d)
