use Rattle.std.proofs.Common.{arith, rules}
use Rattle.fws_box.proofs.Meeting.{met_next, sides_met}
use Rattle.fws_box.proofs.sides.meet_sides.Goals as goal

pub returns : goal.returns
returns c = sides_met c.loop-k.met c.args.a.now c.args.b.now 12 c.loop-k.invariant.twelve (omega arith) (omega arith) (λ j lt x. c.loop-k.invariant.made j (omega arith) x)

pub loop-k-preserved : goal.loop-k-preserved
loop-k-preserved c =
    let before = c.loop-k.invariant in
    record {
      twelve = search rules;
      made = met_next c.loop-k.met c.args.a.now c.args.b.now c.loop-k.k c.in_ok-met.field-0 _ _ before.twelve (omega arith) (omega arith) (omega arith) before.made c.in_ok-met.ensures;
    }
