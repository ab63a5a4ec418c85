use Rattle.fws_iv.specs.declared.iv.Iv.{Iv}
use Rattle.fws_tree.proofs.Marking.{cut-more, cut-last, cut-past, cut-all}
use Rattle.fws_tree.proofs.halves.cuts_of.Goals as goal

pub returns-then-part-top-clause-same : goal.returns-then-part-top-clause-same
returns-then-part-top-clause-same c = λ x le.
    let d : Iv = record { lo = 0; hi = 0 } in
    cut-past c.args.side.now c.args.top c.args.on c.args.off c.loop-part.part-index d c.loop-part.steps.items c.requires c.loop-part-test.true c.loop-part.invariant.cut c.if-part-top.true x le

pub returns-then-part-top-2-clause-same : goal.returns-then-part-top-2-clause-same
returns-then-part-top-2-clause-same c = λ x le.
    let d : Iv = record { lo = 0; hi = 0 } in
    cut-last c.args.side.now c.args.top c.args.on c.args.off c.loop-part.part-index d c.loop-part.steps.items c.add_before.new.steps.items c.requires c.loop-part-test.true c.loop-part.invariant.cut
    c.if-part-top-2.true c.in_ok-add_before.ensures.same x le

pub loop-part-preserved : goal.loop-part-preserved
loop-part-preserved c =
    let d : Iv = record { lo = 0; hi = 0 } in
    record {
      cut = cut-more c.args.side.now c.args.top c.args.on c.args.off c.loop-part.part-index d c.loop-part.steps.items c.add_before.new.steps.items c.add_step.new.steps.items c.requires c.loop-part-test.true
          c.loop-part.invariant.cut c.in_ok-add_before.ensures.same c.in_ok-add_step.ensures.same;
      below = λ n on off. c.in_ok-add_step.ensures.below n (c.in_ok-add_before.ensures.below n (c.loop-part.invariant.below n on off) off) on;
    }

pub returns-clause-same : goal.returns-clause-same
returns-clause-same c = λ x le.
    cut-all c.args.side.now c.args.top c.args.on c.args.off c.loop-part.part-index c.loop-part.steps.items c.loop-part.invariant.cut c.loop-part-test.false x le
