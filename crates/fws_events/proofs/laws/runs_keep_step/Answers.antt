use Rattle.std.proofs.Common.{true, []}
use Rattle.fws_events.proofs.KeepStep.{everywhere, same_answers, same_all, same_each, same_text}
use Rattle.fws_events.proofs.laws.runs_keep_step.Goals as goal

pub returns-clause-answers : goal.returns-clause-answers
returns-clause-answers c walk other same conns es = same_answers true walk other conns es (everywhere true walk other same conns es)

pub returns-clause-each : goal.returns-clause-each
returns-clause-each c walk other same conns es = same_each true walk other conns es (everywhere true walk other same conns es)

pub returns-clause-last : goal.returns-clause-last
returns-clause-last c walk other same conns es = same_all true walk other conns es (everywhere true walk other same conns es)

pub returns-clause-text : goal.returns-clause-text
returns-clause-text c walk other same es = same_text true walk other es (everywhere true walk other same [] es)
