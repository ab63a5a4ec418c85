use Rattle.fws_ios_put_cover.proofs.Keeping.{key_put}
use Rattle.fws_ios_put_cover.proofs.exact.put_new.Goals as goal

pub returns : goal.returns
returns g c = key_put g.T.PartialEq.eq g.met.T.Exact.exact c.args.kept.now.keys c.insert.new.self.keys c.args.value c.in_ok-insert.ensures.keys
