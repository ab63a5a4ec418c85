use Rattle.fws_ipfw_put.proofs.Listed.{rules_laid}
use Rattle.fws_ipfw_put.proofs.drafting.rules_of.Goals as goal

pub returns : goal.returns
returns c =
    rules_laid c.args.site.now c.args.fresh.now.1 c.args.packet.now.1 c.args.behind.now.1 c.args.destinations.now.keys c.args.sources.now.keys c.as_slice.result.now c.as_slice-2.result.now
    c.new-rules.result c.put_guard.new.rules c.put_lookup.new.rules c.put_arriving.new.rules c.put_sent.new.rules c.put_ends.new.rules
    c.new-rules.ensures c.as_slice.ensures.keys c.as_slice-2.ensures.keys c.in_ok-put_guard.ensures c.in_ok-put_lookup.ensures c.in_ok-put_arriving.ensures c.in_ok-put_sent.ensures c.in_ok-put_ends.ensures
