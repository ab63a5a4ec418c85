use Rattle.fws_ipfw_put_rules.proofs.Ending.{plan_made}
use Rattle.fws_ipfw_put_rules.proofs.put.put_rules.Goals as goal

pub put_planned-requires-clause-planned : goal.put_planned-requires-clause-planned
put_planned-requires-clause-planned c =
    plan_made c.args.site.now c.args.tree.now.0 c.args.section.now c.args.tree.now.1 _ _ c.requires.tops c.shared-shared.ensures c.requires.fits c.requires.number
