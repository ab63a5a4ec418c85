use Rattle.fws_ipfw_put.proofs.Listed.{full_put, nothing_put}
use Rattle.fws_ipfw_put.proofs.guard.put_guard.Goals as goal

pub returns-then-are_true_everywhere : goal.returns-then-are_true_everywhere
returns-then-are_true_everywhere c =
    let e = c.are_true_everywhere.ensures in
    nothing_put c.args.site.now c.args.packet.now.1 c.args.behind.now.1 c.args.rules.now (e.packet c.if-are_true_everywhere.true) (e.behind c.if-are_true_everywhere.true)

pub returns : goal.returns
returns c = full_put c.args.site.now c.args.packet.now.1 c.args.behind.now.1 c.args.rules.now c.put_full.new.rules c.in_ok-put_full.ensures
