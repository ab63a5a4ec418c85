use Rattle.fws_net.specs.Points.{tops_of}
use Rattle.fws_ipfw_put.specs.Layout.{arriving_choice, new_arriving}
use Rattle.fws_ipfw_put.proofs.Listed.{arriving_fits, images_fit, images_told, list_made}
use Rattle.fws_ipfw_put.proofs.drafting.put_arriving.Goals as goal

pub put_rules-requires-clause-told : goal.put_rules-requires-clause-told
put_rules-requires-clause-told c =
    images_told (tops_of c.args.site.now) c.args.fresh.now.0 (arriving_choice c.args.destinations.now.keys c.args.sources.now.keys) c.args.fresh.now.1 c.in_ok-choices.choices.0 c.in_ok-choices.choices.1
    c.requires.tops c.in_ok-choices.ensures.tops c.in_ok-choices.ensures.value new_arriving.seen c.relabelled_trees_are_told.ensures c.requires.told

pub put_rules-requires-clause-fits : goal.put_rules-requires-clause-fits
put_rules-requires-clause-fits c =
    images_fit (tops_of c.args.site.now) c.args.fresh.now.0 (arriving_choice c.args.destinations.now.keys c.args.sources.now.keys) c.args.fresh.now.1 c.in_ok-choices.choices.0 c.in_ok-choices.choices.1
    c.requires.tops c.in_ok-choices.ensures.tops c.in_ok-choices.ensures.value 6000
    (arriving_fits c.args.destinations.now.keys c.args.sources.now.keys c.requires.few_destinations c.requires.few_sources)

pub returns : goal.returns
returns c =
    list_made c.args.site.now new_arriving (arriving_choice c.args.destinations.now.keys c.args.sources.now.keys) c.args.fresh.now.1 c.args.fresh.now.0 c.in_ok-choices.choices.0 c.in_ok-choices.choices.1
    c.args.rules.now c.put_rules.new.rules c.requires.tops c.in_ok-choices.ensures.tops c.in_ok-choices.ensures.value c.in_ok-put_rules.ensures
