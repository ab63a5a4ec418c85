use Rattle.fws_ios_read.proofs.PoolNames.{pool_put}
use Rattle.fws_ios_read.proofs.progress.Progress.put_pool.Goals as goal

pub returns : goal.returns
returns c = pool_put _ _ c.args.name _ c.self.view_is c.requires c.in_ok-insert.ensures.keys
