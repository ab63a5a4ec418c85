use Rattle.fws_trace.proofs.OfSite.{words_of_site}
use Rattle.fws_trace.proofs.packets.spelled_packets_are_of_site.Goals as goal

pub returns : goal.returns
returns c = words_of_site
