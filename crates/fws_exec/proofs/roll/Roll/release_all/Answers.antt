use Rattle.std.proofs.Common.{◌&&◌, get_or, slice_get, inl, inr, sym, ◌∙◌, ap, arith}
use Rattle.fws_exec.specs.Joined.{has_twin, is_joined}
use Rattle.fws_exec.proofs.Listing.{among_item}
use Rattle.fws_exec.proofs.Putting.{same_or_not}
use Rattle.fws_exec.proofs.roll.Roll.release_all.Goals as goal

pub loop-number-preserved : goal.loop-number-preserved
loop-number-preserved c n = elim (same_or_not n (get_or c.args.joined.now c.loop-number.number-index 0)) [
  | inl e ↦ inr (
    ap (λ k. is_joined c.args.twins.now c.args.joined.now k) e
        ∙ ap (λ b. b && has_twin c.args.twins.now (get_or c.args.joined.now c.loop-number.number-index 0)) (among_item c.args.joined.now c.loop-number.number-index (omega arith))
        ∙ sym c.has_twin.ensures ∙ c.if-not-has_twin.false,
    (c.in_ok-release.ensures.put.0, ap (λ k. slice_get c.release.new.self.classes.items k) e ∙ c.in_ok-release.ensures.put.1.0),
  )
  | inr d ↦ elim (c.loop-number.invariant n) [
    | inl k ↦ inl (c.in_ok-release.ensures.put.1.1 n d ∙ k)
    | inr k ↦ inr (k.0, (k.1.0, c.in_ok-release.ensures.put.1.1 n d ∙ k.1.1))
  ]
]
