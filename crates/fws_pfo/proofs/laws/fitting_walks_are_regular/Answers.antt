use Rattle.fws_pfo.proofs.Regular.{fitting_regular}
use Rattle.fws_pfo.proofs.laws.fitting_walks_are_regular.Goals as goal

pub returns : goal.returns
returns c = fitting_regular c.alike_packets_stay_alike.ensures c.regular_parts_make_alike_walks.ensures c.alike_walks_are_regular.ensures
