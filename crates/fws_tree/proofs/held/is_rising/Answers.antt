use Rattle.fws_tree.proofs.Touching.{rising-more}
use Rattle.fws_tree.proofs.held.is_rising.Goals as goal

pub returns-clause-rising : goal.returns-clause-rising
returns-clause-rising c = rising-more c.args.store.now c.args.rising.now.cells c.insert.new.self c.args.at c.args.field c.args.steps.now c.requires.cut c.requires.own c.requires.rising c.in_ok-insert.ensures.updates
    (c.rise.ensures c.if-not-rise.false)
