use Rattle.std.proofs.Common.{arith, refl, ap, length, reverse}
use Rattle.std.proofs.lemmas.List.{length-reverse}
use Rattle.fws_unfold.proofs.Frames.{begin_put}
use Rattle.fws_unfold.proofs.stacking.begin.Goals as goal

pub returns : goal.returns
returns c =
    let same = length-reverse c.args.out.now.items in
    record {
      chain = refl;
      ends = refl;
      put = begin_put c.args.chains.now c.args.c c.args.back _ _ (reverse c.args.out.now.items) (reverse c.put_end.new.out.items) (ap length c.rules_at-rules.ensures) c.new.ensures c.requires.chain
          (omega (arith, same, c.requires.low)) (c.in_ok-put_end.ensures.does c.args.chains.now) (c.in_ok-put_end.ensures.uses c.args.chains.now c.args.c);
    }
