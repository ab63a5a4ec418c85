use Rattle.std.proofs.Common.{◌≡◌, All, List, ℕ, get_or, bit_and, subst}
use Rattle.std.proofs.lemmas.List.{take_all}
use Rattle.fws_tree.specs.declared.store.Step.{Step}
use Rattle.fws_tree.proofs.Cells.{child_has}
use Rattle.fws_tree.proofs.Covering.{or_left, joined-more}
use Rattle.fws_tree.proofs.masks.joined.Goals as goal

pub loop-step-preserved : goal.loop-step-preserved
loop-step-preserved c = record {
  last = λ w none. c.loop-step.invariant.last w (or_left c.loop-step.mask _ w none);
  steps = λ w none. joined-more c.args.masks.now c.args.steps.now c.loop-step.step-index (record { hi = 0; node = 0 }) c.loop-step.mask w c.loop-step-test.true (c.loop-step.invariant.steps w) none;
}

pub returns : goal.returns
returns c = λ x b covers w none.
    let P : ℕ → Type 0 = λ k. bit_and (get_or c.args.masks.now k 0) w ≡ 0 in
    let all : All (λ (s : Step). P s.node) c.args.steps.now = subst (λ (ss : List Step). All (λ s. P s.node) ss) (take_all c.loop-step.step-index c.args.steps.now c.loop-step-test.false) (c.loop-step.invariant.steps w none) in
    covers w (child_has P c.args.steps.now c.args.last x all (c.loop-step.invariant.last w none))
