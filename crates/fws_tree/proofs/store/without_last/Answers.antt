use Rattle.std.proofs.Common.{◌≡◌, ◌+◌, ◌-◌, length, ◌∙◌, sym, ap, arith}
use Rattle.fws_tree.proofs.Steps.{child_at-shorter}
use Rattle.fws_tree.proofs.store.without_last.Goals as goal

pub returns-then-index-last-clause-same : goal.returns-then-index-last-clause-same
returns-then-index-last-clause-same c = λ x.
    let i : c.len-n.result ≡ length c.args.steps.items = omega arith in
    let k : c.len-n.result - 1 + 1 ≡ length c.args.steps.items = omega arith in
    rw c.truncate.ensures.items (child_at-shorter c.args.steps.items (c.len-n.result - 1) c.args.last x c.index.result.now k (sym (ap (λ s. s.node) c.index.ensures) ∙ c.if-index-last.true))
