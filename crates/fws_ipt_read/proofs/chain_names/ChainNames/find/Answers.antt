use Rattle.std.proofs.Common.{Some, ap, ◌∙◌}
use Rattle.fws_ipt_read.proofs.Keys.{looked_up}
use Rattle.fws_ipt_read.proofs.chain_names.ChainNames.find.Goals as goal

pub returns-in_default : goal.returns-in_default
returns-in_default c = looked_up c.args.table _ _ _ _ _ c.in_ok-of.ensures c.self.view_is c.in_default.ensures.index

pub returns-in-Ok : goal.returns-in-Ok
returns-in-Ok c = ap Some c.in-Ok.ensures.1 ∙ looked_up c.args.table _ _ _ _ _ c.in_ok-of.ensures c.self.view_is c.in-Some.ensures.index
