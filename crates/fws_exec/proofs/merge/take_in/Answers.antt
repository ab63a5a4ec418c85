use Rattle.std.proofs.Common.{◌≡◌, ◌<◌, nat_lt, get_or, length, inl, inr, sym, ◌∙◌, ap, subst, arith}
use Rattle.std.proofs.lemmas.Bool.{cases_Bool, cases_lt}
use Rattle.std.proofs.lemmas.List.{get_or_past}
use borrow.Author.Tests.{ltb-true}
use Rattle.fws_exec.specs.Hulls.{HasAt}
use Rattle.fws_exec.proofs.Bounding.{default}
use Rattle.fws_exec.proofs.Putting.{not_below}
use Rattle.fws_exec.proofs.merge.take_in.Goals as goal

pub loop-place-preserved : goal.loop-place-preserved
loop-place-preserved c = record {
  grown = λ n p had. c.in_ok-take_one.ensures.grown n p (c.loop-place.invariant.grown n p had);
  taken = λ n p lt had. elim (cases_lt n c.loop-place.place) [
    | inl less ↦ c.in_ok-take_one.ensures.grown (get_or c.args.twins.now n n) p (c.loop-place.invariant.taken n p less had)
    | inr more ↦ (
        let is : n ≡ c.loop-place.place = omega arith in
        let within : n < length c.args.twins.now = omega arith in
        subst (λ k. HasAt c.take_one.new.hulls.items k p) (ap (λ k. get_or c.args.twins.now k 0) (sym is) ∙ default c.args.twins.now n 0 n within)
        (c.in_ok-take_one.ensures.taken p (subst (λ k. HasAt c.loop-place.hulls.items k p) is (c.loop-place.invariant.grown n p had))))
  ];
}

pub loop-place-preserved-then-twins-place : goal.loop-place-preserved-then-twins-place
loop-place-preserved-then-twins-place c = record {
  grown = c.loop-place.invariant.grown;
  taken = λ n p lt had. elim (cases_lt n c.loop-place.place) [
    | inl less ↦ c.loop-place.invariant.taken n p less had
    | inr more ↦ (
        let is : n ≡ c.loop-place.place = omega arith in
        let within : n < length c.args.twins.now = omega arith in
        subst (λ k. HasAt c.loop-place.hulls.items k p) (sym (default c.args.twins.now n n 0 within ∙ ap (λ k. get_or c.args.twins.now k 0) is ∙ c.if-twins-place.true ∙ sym is)) (c.loop-place.invariant.grown n p had))
  ];
}

pub returns-clause-taken : goal.returns-clause-taken
returns-clause-taken c n p had = elim (cases_Bool (nat_lt n (length c.args.twins.now))) [
  | inl t ↦ (let within : n < length c.args.twins.now = ltb-true n (length c.args.twins.now) t in
      c.loop-place.invariant.taken n p (omega arith) had)
  | inr f ↦ subst (λ k. HasAt c.loop-place.hulls.items k p) (sym (get_or_past c.args.twins.now n n (not_below n (length c.args.twins.now) f))) (c.loop-place.invariant.grown n p had)
]
