use Rattle.std.proofs.Common.{ap, ◌∙◌}
use Rattle.fws_ipfw_put.specs.Laid.{nats_for}
use Rattle.fws_ipfw_put.proofs.Kept.{clauses_met}
use Rattle.fws_ipfw_put.proofs.Whole.{all_placed}
use Rattle.fws_ipfw_put.proofs.placing.put_tables.Goals as goal

pub ends_for-requires-clause-few : goal.ends_for-requires-clause-few
ends_for-requires-clause-few c = (clauses_met c.args.site.now c.args.t.now c.requires.fits).few_redirects

pub returns : goal.returns
returns c =
    let w = c.in_ok-written.written in
    all_placed c.args.site.now c.args.t.now c.args.views.now.packet.1 c.args.views.now.behind.1 w.shown w.destinations.keys w.sources.keys c.in_ok-rules.rules c.in_ok-nats.nats
    c.requires.regular c.requires.fits c.requires.known c.in_ok-written.ensures.shown c.in_ok-written.ensures.ends c.in_ok-rules.ensures
    (c.in_ok-nats.ensures.nats
    ∙ ap (λ rs. nats_for rs c.as_slice-2.result.now c.as_slice-3.result.now) c.as_slice.ensures
    ∙ ap (λ ds. nats_for w.shown ds c.as_slice-3.result.now) c.as_slice-2.ensures.keys
    ∙ ap (λ ss. nats_for w.shown w.destinations.keys ss) c.as_slice-3.ensures.keys)
    c.in_ok-nats.ensures.fit
