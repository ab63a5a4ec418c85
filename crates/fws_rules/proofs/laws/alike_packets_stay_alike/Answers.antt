use Rattle.fws_rules.proofs.AlikeWays.{alike_packets_stay_alike}
use Rattle.fws_rules.proofs.laws.alike_packets_stay_alike.Goals as goal

pub returns : goal.returns
returns c = alike_packets_stay_alike
