use Rattle.std.proofs.Common.{true, []}
use Rattle.fws_events.proofs.KeepStep.{at_site, same_answers, same_all, same_each, same_text}
use Rattle.fws_events.proofs.laws.runs_keep_step_at_sites.Goals as goal

pub returns-clause-answers : goal.returns-clause-answers
returns-clause-answers c site walk other same conns es met = same_answers true walk other conns es (at_site site true walk other same conns es met)

pub returns-clause-each : goal.returns-clause-each
returns-clause-each c site walk other same conns es met = same_each true walk other conns es (at_site site true walk other same conns es met)

pub returns-clause-last : goal.returns-clause-last
returns-clause-last c site walk other same conns es met = same_all true walk other conns es (at_site site true walk other same conns es met)

pub returns-clause-text : goal.returns-clause-text
returns-clause-text c site walk other same es met = same_text true walk other es (at_site site true walk other same [] es met)
