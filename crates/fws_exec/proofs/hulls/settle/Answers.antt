use Rattle.std.proofs.Common.{◌<◌, ◌&&◌, nat_eq, take, get_or, length, sym, ◌∙◌, subst, arith}
use Rattle.std.proofs.lemmas.Bool.{and_parts, eqb-true}
use Rattle.fws_exec.specs.declared.hulls.Change.{Change}
use Rattle.fws_exec.specs.Hulls.{is_noted, HasAt}
use Rattle.fws_exec.proofs.Bounding.{default}
use Rattle.fws_exec.proofs.Listing.{any_all, any_more, or_cases}
use Rattle.fws_exec.proofs.hulls.settle.Goals as goal

pub loop-change-preserved : goal.loop-change-preserved
loop-change-preserved c =
    let lt : c.loop-change.change-index < length c.args.changes.now = omega arith in
    let d : Change = get_or c.args.changes.now c.loop-change.change-index (record { from = 0; to = 0 }) in
    record {
      grown = λ n p had. c.in_ok-settle_one.ensures.grown n p (c.loop-change.invariant.grown n p had);
      settled = λ x z p noted had inside. or_cases _ (is_noted (take c.loop-change.change-index c.args.changes.now) x z) (nat_eq x d.from && nat_eq z d.to) (sym (any_more (λ e. nat_eq x e.from && nat_eq z e.to) c.args.changes.now c.loop-change.change-index d lt (default c.args.changes.now c.loop-change.change-index (record { from = 0; to = 0 }) d lt)) ∙ noted)
          (λ before. c.in_ok-settle_one.ensures.grown z p (c.loop-change.invariant.settled x z p before had inside))
          (λ here. let both = and_parts (nat_eq x d.from) (nat_eq z d.to) here in
          subst (λ k. HasAt c.settle_one.new.hulls.items k p) (sym (eqb-true z d.to both.1))
          (c.in_ok-settle_one.ensures.settled p (subst (λ k. HasAt c.loop-change.hulls.items k p) (eqb-true x d.from both.0) (c.loop-change.invariant.grown x p had)) inside));
    }

pub returns-clause-settled : goal.returns-clause-settled
returns-clause-settled c x z p noted had inside =
    c.loop-change.invariant.settled x z p (any_all (λ e. nat_eq x e.from && nat_eq z e.to) c.args.changes.now c.loop-change.change-index (omega arith) ∙ noted) had inside
