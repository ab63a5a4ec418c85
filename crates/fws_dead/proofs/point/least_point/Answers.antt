use Rattle.std.proofs.Common.{◌≡◌, ◌<◌, true, [], length, sym, ◌∙◌, subst, arith, refl}
use Rattle.std.proofs.lemmas.List.{get_or_default}
use Rattle.std.specs.Prelude.{slice_index}
use Rattle.fws_iv.specs.Ivs.{has}
use Rattle.fws_dead.proofs.Sides.{had_all, set_length, side_has, values_more}
use Rattle.fws_dead.proofs.point.least_point.Goals as goal

pub loop-k-init : goal.loop-k-init
loop-k-init c = record { twelve = refl; members = λ k lt. absurd (omega arith) }

pub returns-in_err-point : goal.returns-in_err-point
returns-in_err-point c =
    let sides = c.args.sides.now in
    let k = c.loop-k.k in
    let lt : k < length sides = omega arith in
    let side = get_or_default sides k c.index-sides-k.result [] lt in
    rw c.from_residual.ensures (λ p h. c.in_err-point.ensures (slice_index p k) (subst (λ s. has s (slice_index p k) ≡ true) (sym side) (side_has sides p k h lt)))

pub loop-k-preserved : goal.loop-k-preserved
loop-k-preserved c =
    let sides = c.args.sides.now in
    let k = c.loop-k.k in
    let lt : k < length sides = omega arith in
    let side = get_or_default sides k c.index-sides-k.result [] lt in
    record {
      twelve = set_length c.loop-k.point k c.in_ok-point.field-0 ∙ c.loop-k.invariant.twelve;
      members = values_more sides c.loop-k.point k c.in_ok-point.field-0 c.loop-k.invariant.twelve c.loop-k-test.true c.loop-k.invariant.members
          (subst (λ s. has s c.in_ok-point.field-0 ≡ true) side c.in_ok-point.ensures);
    }

pub returns : goal.returns
returns c =
    let sides = c.args.sides.now in
    let twelve : length c.loop-k.point ≡ 12 = c.loop-k.invariant.twelve in
    let same : length sides ≡ length c.loop-k.point = omega arith in
    (twelve, had_all sides c.loop-k.point same (λ k lt. c.loop-k.invariant.members k (omega arith)))
