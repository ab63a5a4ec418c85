use Rattle.std.proofs.Common.{length}
use Rattle.fws_ipt_print.proofs.rules.+protocol_leads.Given as goal

abbrev pub decreases-protocol_leads : goal.decreases-protocol_leads
decreases-protocol_leads l = length l.cond.now
