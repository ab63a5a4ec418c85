use Rattle.std.proofs.Common.{[], arith, sym, ap, ◌∙◌, length-set, get_or}
use Rattle.fws_iv.specs.Ivs.{has}
use Rattle.fws_box.specs.Boxes.{sides_of}
use Rattle.fws_box.proofs.Boxed.{twelve}
use Rattle.fws_box.proofs.SideBySide.{have_all, chosen_more, least_of}
use Rattle.fws_box.proofs.pbox.PBox.pick.Goals as goal

pub loop-k-preserved : goal.loop-k-preserved
loop-k-preserved c =
    let sides = sides_of c.args.self.now in
    let n = twelve c.args.self.now in
    let s = c.side.result.now in
    let x = (get_or s 0 _).lo in
    record {
      twelve = omega (arith, length-set c.loop-k.point c.loop-k.k x);
      chosen = chosen_more c.loop-k.k sides c.loop-k.point x (omega arith) (omega arith)
          (ap (λ t. has t x) (ap (λ k. get_or sides k []) (sym c.at.ensures) ∙ sym c.side.ensures.value) ∙ least_of s _ c.side.ensures.regular c.side.ensures.filled)
          c.loop-k.invariant.chosen;
    }

pub returns : goal.returns
returns c =
    let n = twelve c.args.self.now in
    have_all (sides_of c.args.self.now) c.loop-k.point (omega arith) (λ j d e lt. c.loop-k.invariant.chosen j d e (omega arith))
