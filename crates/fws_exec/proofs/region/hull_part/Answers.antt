use Rattle.std.proofs.Common.{◌≡◌, ◌<◌, true, [], get_or, length, sym, subst, arith}
use Rattle.fws_iv.specs.Ivs.{has}
use Rattle.fws_exec.proofs.Bounding.{default}
use Rattle.fws_exec.proofs.region.hull_part.Goals as goal

pub loop-k-preserved : goal.loop-k-preserved
loop-k-preserved c =
    let long : length c.in_ok-sets.sets ≡ 12 = c.in_ok-sets.ensures.twelve in
    record {
      within = λ p n h. c.loop-k.invariant.within p n (c.in_ok-part.ensures.within p n h);
      covers = λ p point h. (
          let lt : c.loop-k.k < 12 = omega arith in
          c.in_ok-part.ensures.covers p point.twelve (c.loop-k.invariant.covers p point h)
          (subst (λ m. has (get_or c.in_ok-sets.sets c.loop-k.k c.index-sets-k.result) (get_or p m 0) ≡ true) (sym c.at.ensures)
          (subst (λ s. has s (get_or p c.loop-k.k 0) ≡ true) (default c.in_ok-sets.sets c.loop-k.k [] c.index-sets-k.result (omega arith))
          (c.in_ok-sets.ensures.each c.loop-k.k (get_or p c.loop-k.k 0) lt (point.low c.loop-k.k lt) (point.high c.loop-k.k lt)))));
    }
