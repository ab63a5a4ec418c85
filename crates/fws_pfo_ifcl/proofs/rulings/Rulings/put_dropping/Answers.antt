use Rattle.fws_pfo_ifcl.specs.Rulings.{rulings_of}
use Rattle.fws_pfo_ifcl.proofs.Standing.{dropping_put}
use Rattle.fws_pfo_ifcl.proofs.rulings.Rulings.put_dropping.Goals as goal

pub returns : goal.returns
returns c = dropping_put c.args.cond c.args.self.now.to (rulings_of c.args.self.now) (rulings_of c.decide.new.self) c.in_ok-decide.ensures
