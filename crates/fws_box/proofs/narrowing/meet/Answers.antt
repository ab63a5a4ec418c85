use Rattle.fws_box.proofs.Boxed.{has_point}
use Rattle.fws_box.proofs.narrowing.meet.Goals as goal

pub returns-clause-some : goal.returns-clause-some
returns-clause-some c = has_point c.loop-k.met
