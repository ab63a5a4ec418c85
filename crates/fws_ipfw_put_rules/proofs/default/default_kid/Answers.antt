use Rattle.fws_ipfw_put_rules.proofs.default.default_kid.Goals as goal

pub dearest-requires-clause-proper : goal.dearest-requires-clause-proper
dearest-requires-clause-proper c = c.requires.proper c.in-Some.f c.in-Some.is
