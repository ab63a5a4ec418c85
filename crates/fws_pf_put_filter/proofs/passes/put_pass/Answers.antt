use Rattle.std.proofs.Common.{◌≡◌, ℕ, ◌∷◌, [], ◌++◌, Some, get_or, slice_get, inl, inr, refl, sym, ◌∙◌, ap, append-nil}
use Rattle.std.proofs.lemmas.Option.{slice_get-get_or}
use Rattle.fws_pf.specs.declared.config.PfRule.{PfRule}
use Rattle.fws_pf_put_filter.specs.Rules.{passing}
use Rattle.fws_pf_put_filter.proofs.Passing.{accepting_found, accepting_not}
use Rattle.fws_pf_put_filter.proofs.passes.put_pass.Goals as goal

pub returns-in_ok-put : goal.returns-in_ok-put
returns-in_ok-put c =
    let plan = c.args.plan.now in
    let leaves = plan.leaves.now in
    let nodes = plan.nodes.now in
    let k : ℕ = c.args.k in
    let node = get_or nodes k c.index-plan-k.result in
    let there : slice_get nodes k ≡ Some node = slice_get-get_or nodes k c.index-plan-k.result c.requires.inside in (
      passing k ∷ [],
      c.in_ok-put.ensures.ok ∙ ap (λ (r : PfRule). c.args.rules.now ++ r ∷ []) (c.in_ok-pass_rule.ensures ∙ ap passing c.if-n-k.false),
      inl (refl, accepting_found leaves nodes plan.states.now k node there (λ i e. c.requires.planned.shared.named k i (there ∙ ap Some e)) (sym c.accepts_node.ensures ∙ c.if-accepts_node.true) c.if-n-k.false),
    )

pub returns-else-accepts_node : goal.returns-else-accepts_node
returns-else-accepts_node c =
    let plan = c.args.plan.now in
    let nodes = plan.nodes.now in
    let k : ℕ = c.args.k in
    let node = get_or nodes k c.index-plan-k.result in
    let there : slice_get nodes k ≡ Some node = slice_get-get_or nodes k c.index-plan-k.result c.requires.inside in
    ([], sym (append-nil c.args.rules.now), inr (refl, accepting_not plan.leaves.now nodes plan.states.now k node there (sym c.accepts_node.ensures ∙ c.if-accepts_node.false)))
