use Rattle.fws_ipt_read.proofs.Keys.{taken}
use Rattle.fws_ipt_read.proofs.chain_names.ChainNames.remove_last.Goals as goal

pub returns : goal.returns
returns c = λ front key e. taken front _ _ _ key _ c.self.view_is c.pop-last.ensures.keys c.pop-last.ensures.found e
