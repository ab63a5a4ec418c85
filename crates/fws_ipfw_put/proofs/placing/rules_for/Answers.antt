use Rattle.fws_ipfw_put.proofs.Listed.{met_told}
use Rattle.fws_ipfw_put.proofs.placing.rules_for.Goals as goal

pub rules_of-requires-clause-fresh_tops : goal.rules_of-requires-clause-fresh_tops
rules_of-requires-clause-fresh_tops c = c.requires.regular.fresh_tops

pub rules_of-requires-clause-fresh_told : goal.rules_of-requires-clause-fresh_told
rules_of-requires-clause-fresh_told c = c.requires.known.fresh_told

pub rules_of-requires-clause-packet_told : goal.rules_of-requires-clause-packet_told
rules_of-requires-clause-packet_told c = c.requires.known.packet_told

pub rules_of-requires-clause-behind_told : goal.rules_of-requires-clause-behind_told
rules_of-requires-clause-behind_told c =
    met_told c.args.site.now c.args.views.now.behind.1 c.in_ok-behind.behind.1 c.in_ok-behind.ensures.met c.requires.known.behind_told

pub returns : goal.returns
returns c = (c.in_ok-behind.behind.1, c.in_ok-behind.ensures.met, c.in_ok-rules.ensures)
