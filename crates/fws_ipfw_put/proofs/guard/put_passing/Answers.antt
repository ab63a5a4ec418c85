use Rattle.fws_net.specs.Points.{tops_of}
use Rattle.fws_ipfw_put.specs.Layout.{passing}
use Rattle.fws_ipfw_put.proofs.Listed.{images_fit, images_told, list_made, passing_fits}
use Rattle.fws_ipfw_put.proofs.guard.put_passing.Goals as goal

pub put_rules-requires-clause-told : goal.put_rules-requires-clause-told
put_rules-requires-clause-told c =
    images_told (tops_of c.args.site.now) c.args.tree.now.0 passing c.args.tree.now.1 c.in_ok-choices.choices.0 c.in_ok-choices.choices.1 c.requires.tops c.in_ok-choices.ensures.tops
    c.in_ok-choices.ensures.value c.args.section.now.seen c.relabelled_trees_are_told.ensures c.requires.told

pub put_rules-requires-clause-fits : goal.put_rules-requires-clause-fits
put_rules-requires-clause-fits c =
    images_fit (tops_of c.args.site.now) c.args.tree.now.0 passing c.args.tree.now.1 c.in_ok-choices.choices.0 c.in_ok-choices.choices.1 c.requires.tops c.in_ok-choices.ensures.tops
    c.in_ok-choices.ensures.value c.args.section.now.number (passing_fits c.args.section.now.number c.requires.ahead)

pub returns : goal.returns
returns c =
    list_made c.args.site.now c.args.section.now passing c.args.tree.now.1 c.args.tree.now.0 c.in_ok-choices.choices.0 c.in_ok-choices.choices.1 c.args.rules.now c.put_rules.new.rules
    c.requires.tops c.in_ok-choices.ensures.tops c.in_ok-choices.ensures.value c.in_ok-put_rules.ensures
