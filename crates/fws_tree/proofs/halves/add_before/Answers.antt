use Rattle.fws_tree.proofs.Marking.{before}
use Rattle.fws_tree.proofs.halves.add_before.Goals as goal

pub returns-in_ok-add_step-clause-same : goal.returns-in_ok-add_step-clause-same
returns-in_ok-add_step-clause-same c = λ v z x. before v c.args.steps.now.items c.add_step.new.steps.items c.args.lo c.args.node z x c.if-lo-gt0.true (c.in_ok-add_step.ensures.same v z x)
