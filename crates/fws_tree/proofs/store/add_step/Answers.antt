use Rattle.std.proofs.Common.{◌≡◌, ◌≤◌, ◌<◌, ◌+◌, ◌-◌, length, get_or, refl, ◌∙◌, sym, ap, subst, arith}
use Rattle.std.proofs.lemmas.List.{get_or_read}
use Rattle.fws_tree.proofs.Steps.{pick_grow}
use Rattle.fws_tree.proofs.store.add_step.Goals as goal

pub returns-then-index-hi-clause-same : goal.returns-then-index-hi-clause-same
returns-then-index-hi-clause-same c = λ v z x.
    let lt : c.len-n.result - 1 < length c.args.steps.now.items = omega arith in
    let k : c.len-n.result - 1 + 1 ≡ length c.args.steps.now.items = omega arith in
    let d = c.index_mut.result.now in
    let node = get_or_read c.args.steps.now.items _ _ lt c.index.ensures d in
    let hi = get_or_read c.args.steps.now.items _ _ lt c.index-then-index-node.ensures d in
    let e : (get_or c.args.steps.now.items (c.len-n.result - 1) d).node ≡ c.args.node = sym (ap (λ s. s.node) node) ∙ c.if-index-node.true in
    let h : (get_or c.args.steps.now.items (c.len-n.result - 1) d).hi ≤ c.args.hi = subst (λ s. s.hi ≤ c.args.hi) hi c.if-index-hi.true in
    pick_grow v c.args.steps.now.items (c.len-n.result - 1) d (record { hi = c.args.hi; node = c.args.node }) _ z x k e refl (ap (λ s. s.node) c.index_mut.ensures.value ∙ e) h
