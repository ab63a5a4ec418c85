use Rattle.fws_ipt_read.proofs.Keys.{put_in}
use Rattle.fws_ipt_read.proofs.chain_names.ChainNames.put.Goals as goal

pub returns-clause-ok : goal.returns-clause-ok
returns-clause-ok c = put_in c.args.table _ _ _ _ _ c.in_ok-of.ensures c.self.view_is c.in_ok-insert.ensures.keys
