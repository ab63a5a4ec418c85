use Rattle.std.proofs.Common.{◌≢◌, inl, inr, refl, sym, subst, arith}
use Rattle.std.proofs.lemmas.List.{take_all}
use Rattle.fws_tree.specs.Marks.{mark_at}
use Rattle.fws_exec.proofs.Bounding.{mark_more}
use Rattle.fws_exec.proofs.hull.Hull.of_marks.Goals as goal

pub loop-mark-init : goal.loop-mark-init
loop-mark-init c = record { has = λ p n h. absurd (h refl) }

pub loop-mark-preserved : goal.loop-mark-preserved
loop-mark-preserved c = record {
  has = λ p n h. elim (mark_more c.args.marks.now c.loop-mark.mark-index c.mark-item.result p (omega arith) c.mark-item.is h) [
    | inl before ↦ c.with-hull.ensures.first p (c.loop-mark.invariant.has p n before)
    | inr here ↦ c.with-hull.ensures.second p (c.of_mark.ensures p n here)
  ];
}

pub returns : goal.returns
returns c p n h = c.loop-mark.invariant.has p n (subst (λ ms. mark_at ms 0 p ≢ 0) (sym (take_all c.loop-mark.mark-index c.args.marks.now (omega arith))) h)
