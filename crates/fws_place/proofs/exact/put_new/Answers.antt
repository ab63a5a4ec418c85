use Rattle.fws_place.proofs.Counting.{key_put}
use Rattle.fws_place.proofs.exact.put_new.Goals as goal

pub returns : goal.returns
returns g c =
    key_put g.T.PartialEq.eq g.met.T.Exact.exact g.met.T.Eq.laws c.args.kept.now.keys c.insert.new.self.keys c.args.value c.in_ok-insert.ensures.keys c.in_ok-insert.ensures.unique
