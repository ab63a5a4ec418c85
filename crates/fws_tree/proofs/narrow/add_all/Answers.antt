use Rattle.std.proofs.Common.{arith}
use Rattle.fws_tree.proofs.Asking.{run_pick, run_below}
use Rattle.fws_tree.proofs.narrow.add_all.Goals as goal

pub returns-clause-same : goal.returns-clause-same
returns-clause-same c v z x = run_pick v c.args.steps.now.items c.add_step.new.steps.items c.extend_from_slice.new.self.items c.args.run.now _ z x (omega arith) c.in_ok-add_step.ensures.same c.in_ok-extend_from_slice.ensures.items

pub returns-clause-below : goal.returns-clause-below
returns-clause-below c n old run = run_below c.add_step.new.steps.items c.extend_from_slice.new.self.items c.args.run.now n (c.in_ok-add_step.ensures.below n old (run 0 _ (omega arith))) run c.in_ok-extend_from_slice.ensures.items
