use Rattle.fws_tree.specs.declared.together.Both.{Both}
use Rattle.fws_tree.proofs.Loading.{joined-next, joined-all}
use Rattle.fws_tree.proofs.kid_steps.join_cuts.Goals as goal
use Rattle.std.proofs.Common.{◌∙◌, ap}
use Rattle.fws_tree.specs.Held.{child_at}

pub loop-both-preserved : goal.loop-both-preserved
loop-both-preserved c = λ x. let d : Both = record { hi = 0; left = 0; right = 0 } in
    joined-next c.deref-both-items.result.now c.loop-both.both-index d c.loop-both.steps.items c.add_step.new.steps.items c.over_number.result _ _ x c.loop-both-test.true c.in_ok-add_step.ensures.same c.over_number.ensures (c.loop-both.invariant x)

pub returns : goal.returns
returns c = λ x. joined-all c.deref-both-items.result.now c.in_ok-met.met.items c.loop-both.both-index c.loop-both.steps.items c.args.a.now.steps.items c.args.b.now.steps.items c.over_number-2.result _ _ x c.loop-both-test.false
    c.deref-both-items.ensures.value c.over_number-2.ensures (c.loop-both.invariant x)
    (c.in_ok-met.ensures.left x ∙ ap (λ ss. child_at ss c.args.a.now.last x) c.as_slice.ensures.value) (c.in_ok-met.ensures.right x ∙ ap (λ ss. child_at ss c.args.b.now.last x) c.as_slice-2.ensures.value)
