use Rattle.std.proofs.Common.{◌++◌, ◌∙◌, ap, append_assoc}
use Rattle.fws_pf_put_filter.proofs.Walking.{kid_rules_more}
use Rattle.fws_pf_put_filter.proofs.nodes.put_kids.Goals as goal

pub loop-kid-preserved : goal.loop-kid-preserved
loop-kid-preserved c =
    let kid = c.kid-item.result in
    let inv = c.loop-kid.invariant in
    let put = c.in_ok-put_kid.ensures in (
      inv.0 ++ put.0,
      put.1 ∙ ap (λ l. l ++ put.0) inv.1 ∙ append_assoc c.args.rules.now inv.0 put.0,
      kid_rules_more c.args.tested c.args.states.now c.args.from c.args.default c.args.kids.now c.loop-kid.kid-index kid inv.0 put.0 c.loop-kid-test.true c.kid-item.is inv.2 put.2,
    )
