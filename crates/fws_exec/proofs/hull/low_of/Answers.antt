use Rattle.std.proofs.Common.{◌<◌, ◌≤◌, get_or, length, ◌∙◌, ap, arith}
use Rattle.std.proofs.lemmas.List.{take_all}
use Rattle.fws_iv.specs.declared.iv.Iv.{Iv}
use Rattle.fws_iv.specs.Ivs.{has}
use Rattle.fws_exec.proofs.Bounding.{default, has_more}
use Rattle.fws_exec.proofs.hull.low_of.Goals as goal

pub loop-part-preserved : goal.loop-part-preserved
loop-part-preserved c =
    let lt : c.loop-part.part-index < length c.args.set.now = omega arith in
    let item : Iv = get_or c.args.set.now c.loop-part.part-index (record { lo = 0; hi = 0 }) in
    record {
      low = λ v h. has_more _ c.args.set.now c.loop-part.part-index v item lt (default c.args.set.now c.loop-part.part-index (record { lo = 0; hi = 0 }) item lt) h
          (λ before. let old : c.loop-part.low ≤ v = c.loop-part.invariant.low v before in omega arith)
          (λ lo hi. omega arith);
    }

pub returns : goal.returns
returns c v h = c.loop-part.invariant.low v (ap (λ s. has s v) (take_all c.loop-part.part-index c.args.set.now (omega arith)) ∙ h)
