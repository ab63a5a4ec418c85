use Rattle.std.proofs.Common.{arith, [], ◌∷◌, length, length-append, ap, ◌∙◌}
use Rattle.fws_unfold.proofs.Flattened.{blocks_more}
use Rattle.fws_unfold.proofs.FlattenedUsed.{told_blocks_more}
use Rattle.fws_unfold.proofs.blocks.put_blocks.Goals as goal

pub loop-c-preserved : goal.loop-c-preserved
loop-c-preserved c =
    let inv = c.loop-c.invariant in
    let spans = c.loop-c.spans.items in
    let size = ap length c.in_ok-push.ensures.items ∙ length-append spans (c.in_ok-span.span ∷ []) in
    record {
      blocks = blocks_more c.args.f.now c.loop-c.code.items c.put_staged.new.code.items spans c.push.new.self.items c.in_ok-span.span c.loop-c.c inv.blocks c.in_ok-span.ensures.longer
          inv.counted c.in_ok-span.ensures.block c.in_ok-push.ensures.items;
      tells = told_blocks_more c.args.f.now c.loop-c.code.items c.put_staged.new.code.items c.loop-c.rules.items c.put_staged.new.rules.items spans c.push.new.self.items c.in_ok-span.span c.loop-c.c inv.blocks inv.tells
          c.in_ok-span.ensures.longer c.in_ok-span.ensures.more inv.counted c.in_ok-span.ensures.tells c.in_ok-push.ensures.items;
      even = c.in_ok-span.ensures.even;
      counted = omega (arith, size, inv.counted);
    }
