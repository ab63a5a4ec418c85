use Rattle.std.proofs.Common.{length, slice_index, ap, ◌∙◌}
use Rattle.fws_ipfw_ifcl.proofs.Starts.{starts_count, starts_last}
use Rattle.fws_ipfw_ifcl.proofs.layout.starts_from.Goals as goal

pub returns-clause-count : goal.returns-clause-count
returns-clause-count c =
    ap length c.in_ok-starts.ensures ∙ starts_count c.args.nats.now c.args.translated c.args.first c.args.rules.now

pub returns-clause-last : goal.returns-clause-last
returns-clause-last c =
    ap (λ s. slice_index s (length c.args.rules.now)) c.in_ok-starts.ensures
    ∙ starts_last c.args.nats.now c.args.translated c.args.first c.args.rules.now
