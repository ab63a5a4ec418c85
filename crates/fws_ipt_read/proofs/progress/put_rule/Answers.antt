use Rattle.fws_ipt_read.proofs.Appended.{past_last, at_chain, same_keys}
use Rattle.fws_ipt_read.proofs.progress.put_rule.Goals as goal

pub returns-then-n-chains-clause-ok : goal.returns-then-n-chains-clause-ok
returns-then-n-chains-clause-ok c = past_last c.args.n c.args.rule _ c.if-n-chains.true

pub returns-clause-ok : goal.returns-clause-ok
returns-clause-ok c = at_chain c.args.n c.args.rule _ _ _ c.if-n-chains.false c.in_ok-put.ensures.ok

pub returns-clause-keys : goal.returns-clause-keys
returns-clause-keys c = same_keys c.args.n _ _ _
