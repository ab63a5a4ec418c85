use Rattle.std.proofs.Common.{◌≡◌, ◌≤◌, true, [], get_or, length, sym, ◌∙◌, ap, arith, rules}
use Rattle.fws_iv.specs.Ivs.{has}
use Rattle.fws_tree.specs.Marks.{sides_of}
use Rattle.fws_exec.proofs.Bounding.{more_holds, side_at}
use Rattle.fws_exec.proofs.hull.highs_of.Goals as goal

pub loop-k-preserved : goal.loop-k-preserved
loop-k-preserved c =
    let long : length c.args.mark.now.sides ≡ 12 = c.args.mark.now.twelve in
    record {
      twelve = search rules;
      done = λ j v. more_holds (λ i x. has (get_or (sides_of c.args.mark.now) i []) v ≡ true → v ≤ x) c.loop-k.highs c.loop-k.k _ (omega arith)
          (λ h. c.high_of.ensures v (ap (λ s. has s v) (sym (side_at (λ s. s.now) c.args.mark.now.sides c.loop-k.k _ (omega arith))) ∙ h))
          (λ i lt. c.loop-k.invariant.done i v lt) j;
    }
