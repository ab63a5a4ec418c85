use Rattle.fws_join.specs.declared.decision.Decision.{Decision}
use Rattle.fws_pfo_ifcl.proofs.Standing.{one_put}
use Rattle.fws_pfo_ifcl.proofs.rulings.Rulings.decide.Goals as goal

pub returns : goal.returns
returns c =
    let all = c.args.self.now in
    let one : Decision = record { cond = c.args.cond; passes = c.args.passes } in
    one_put all.to all.finished all.decisions c.put.new.self one c.in_ok-put.ensures
