use Rattle.std.proofs.Common.{◌≤◌, ◌<◌, length, arith}
use Rattle.fws_tree.specs.declared.store.Step.{Step}
use Rattle.fws_tree.proofs.Asking.{ask_more}
use Rattle.fws_tree.proofs.narrow.ask_all.Goals as goal

pub loop-at-preserved : goal.loop-at-preserved
loop-at-preserved c =
    let d : Step = record { hi = 0; node = 0 } in
    let first = c.loop-at.invariant.order.0 in let second = c.loop-at.invariant.order.1 in
    let third = c.in_ok-begin.ensures.order.0 in let fourth = c.in_ok-begin.ensures.order.1 in
    let end = c.requires.inside in
    let behind : c.args.from ≤ c.loop-at.at = omega arith in
    let inside : c.loop-at.at < length c.args.steps.now = omega arith in
    record {
      order = (omega arith, fourth);
      run = c.in_ok-begin.ensures.run;
      steps = ask_more c.args.steps.now c.args.parts.now.items c.loop-at.parts.items c.ask.new.parts.items c.args.from c.loop-at.begin c.in_ok-begin.begin c.loop-at.at c.args.right d behind second inside
          c.loop-at.invariant.steps c.in_ok-begin.ensures.steps;
      parts = λ n m all r old. c.in_ok-begin.ensures.parts n m all r (c.loop-at.invariant.parts n m all r old);
    }
