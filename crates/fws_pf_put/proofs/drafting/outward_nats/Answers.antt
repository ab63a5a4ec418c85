use Rattle.std.proofs.Common.{◌++◌, ap, ◌∙◌}
use Rattle.fws_pf_put.proofs.drafting.outward_nats.Goals as goal

pub returns : goal.returns
returns c =
    let first = c.in_ok-put_sources.ensures in
    let host = c.in_ok-put_pass.ensures in
    (first.0, host.0, host.1 ∙ ap (λ l. l ++ host.0) (first.1 ∙ ap (λ l. l ++ first.0) c.new-nats.ensures), first.2, host.2)
