use Rattle.std.proofs.Common.{arith}
use Rattle.std.proofs.lemmas.Grind.{common_steps}
use Rattle.fws_io.proofs.Bytes.{with_more-take}
use Rattle.fws_io.proofs.sink.write_all.Goals as goal

pub loop-done-preserved : goal.loop-done-preserved
loop-done-preserved g c =
    let joined = with_more-take (g.K.Sink.written c.args.sink.now) c.args.bytes.now c.loop-done.done c.in_ok-done.field-0 in
    record {
      within = grind (arith, common_steps);
      written = cc (joined, c.in_ok-done.ensures.appended, c.loop-done.invariant.written);
      count = cc (c.in_ok-done.ensures.count, c.loop-done.invariant.count);
    }
