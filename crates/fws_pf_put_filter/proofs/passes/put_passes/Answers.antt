use Rattle.std.proofs.Common.{◌≡◌, [], ◌++◌, length, sym, ◌∙◌, ap, subst, arith, append_assoc, append-nil}
use Rattle.fws_pf_put_filter.specs.Blocks.{ArePasses}
use Rattle.fws_pf_put_filter.proofs.Passing.{no_passes, passes_more}
use Rattle.fws_pf_put_filter.proofs.passes.put_passes.Goals as goal

pub loop-k-init : goal.loop-k-init
loop-k-init c =
    let plan = c.args.plan.now in
    ([], sym (append-nil c.args.rules.now), no_passes plan.site.now plan.leaves.now plan.nodes.now plan.states.now)

pub loop-k-preserved : goal.loop-k-preserved
loop-k-preserved c =
    let plan = c.args.plan.now in
    let inv = c.loop-k.invariant in
    let put = c.in_ok-put_pass.ensures in (
      inv.0 ++ put.0,
      put.1 ∙ ap (λ l. l ++ put.0) inv.1 ∙ append_assoc c.args.rules.now inv.0 put.0,
      passes_more plan.site.now plan.leaves.now plan.nodes.now plan.states.now c.loop-k.k inv.0 put.0 inv.2 put.2,
    )

pub returns : goal.returns
returns c =
    let plan = c.args.plan.now in
    let inv = c.loop-k.invariant in
    let end : c.loop-k.k ≡ length plan.nodes.now = omega arith in
    (inv.0, inv.1, subst (λ n. ArePasses plan.site.now plan.leaves.now plan.nodes.now plan.states.now n inv.0) end inv.2)
