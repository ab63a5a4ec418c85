use Rattle.fws_tree.proofs.Asking.{ask_pushed}
use Rattle.fws_tree.proofs.narrow.ask.Goals as goal

pub returns-clause-steps : goal.returns-clause-steps
returns-clause-steps c = ask_pushed c.args.steps.now c.args.parts.now.items c.push.new.self.items c.args.begin c.args.at c.args.right _ c.requires.order c.requires.inside c.in_ok-push.ensures.items
