use Rattle.std.proofs.Common.{◌+◌, ◌++◌, length, ap, ◌∙◌}
use Rattle.fws_ipfw_ifcl.specs.Blocks.{acting}
use Rattle.fws_ipfw_ifcl.proofs.Putting.{tagged_put}
use Rattle.fws_ipfw_ifcl.proofs.blocks.put_tagged.Goals as goal

pub returns : goal.returns
returns c =
    let leads = c.args.leads in
    let tagged = c.put_always.new.rules.items in
    tagged_put c.args.nats.now leads.translated leads.ends leads.done leads.to c.args.cond c.args.act c.args.tags
    c.args.rules.now.items c.put_guard.new.rules.items tagged c.put_acting.new.rules.items c.in_ok-inner.inner
    (c.in_ok-inner.ensures ∙ ap (λ n. n + 1) c.in_ok-acts.ensures) c.in_ok-put_guard.ensures c.in_ok-put_always.ensures
    (c.in_ok-put_acting.ensures ∙ ap (λ cond. tagged ++ acting c.args.nats.now leads.translated leads.ends leads.done leads.to (length tagged) cond c.args.act) c.new.ensures)
