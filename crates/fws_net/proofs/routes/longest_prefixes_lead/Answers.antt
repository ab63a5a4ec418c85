use Rattle.fws_net.proofs.Longest.{longest_leads}
use Rattle.fws_net.proofs.routes.longest_prefixes_lead.Goals as goal

pub returns : goal.returns
returns c = λ site a. longest_leads site a
