use Rattle.fws_pfo_ifcl.specs.Rulings.{rulings_of}
use Rattle.fws_pfo_ifcl.proofs.Standing.{passing_put}
use Rattle.fws_pfo_ifcl.proofs.rulings.Rulings.put_passing.Goals as goal

pub returns : goal.returns
returns c =
    let turned = c.in_ok-turn_to.ensures in
    passing_put c.args.cond c.args.to c.turn_to.new.self.to (rulings_of c.args.self.now) (rulings_of c.turn_to.new.self) (rulings_of c.decide.new.self) turned.to
    turned.stand c.in_ok-decide.ensures
