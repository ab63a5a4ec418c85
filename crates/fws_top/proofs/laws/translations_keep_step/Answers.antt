use Rattle.fws_top.proofs.KeepingStep.{SameFatesKeepStep, emitted_in_step}
use Rattle.fws_top.proofs.laws.translations_keep_step.Goals as goal

pub returns : goal.returns
returns c = λ from to site text emitted policy tables is_accepted tracked made emits.
    let laws = c.runs_keep_step_at_sites.ensures in
    let in_step : SameFatesKeepStep = λ site policy other same. record {
      answers = λ conns events met. laws.answers site policy.walk other.walk same conns events met;
      each = λ conns events met. laws.each site policy.walk other.walk same conns events met;
      last = λ conns events met. laws.last site policy.walk other.walk same conns events met;
      texts = λ events met. laws.text site policy.walk other.walk same events met;
    } in
    emitted_in_step in_step to site policy tables emitted tracked made emits
