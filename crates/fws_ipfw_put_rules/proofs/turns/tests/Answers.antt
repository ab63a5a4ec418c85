use Rattle.fws_ipfw_put_rules.proofs.turns.tests.Goals as goal

pub other_turns-requires-clause-proper : goal.other_turns-requires-clause-proper
other_turns-requires-clause-proper c = c.requires.proper c.in-Some.f c.in-Some.is
