use Rattle.std.proofs.Common.{◌≡◌, ℕ, List, get_or, sym, ◌∙◌, subst}
use Rattle.std.proofs.lemmas.List.{get_or_default}
use Rattle.fws_box.specs.Sides.{IsWithin}
use Rattle.fws_net.specs.declared.outcome.Outcome.{Outcome}
use Rattle.fws_net.specs.declared.outcome.Outcome.TheVariants.{Drop}
use Rattle.fws_place.specs.Apart.{HasValuesAmong}
use Rattle.fws_place.proofs.Apartness.{own_leaves}
use Rattle.fws_place.proofs.Going.{all_so_far, more_so_far, none_so_far}
use Rattle.fws_place.proofs.outgoing.going_out.Goals as goal

pub loop-outcome-init : goal.loop-outcome-init
loop-outcome-init c =
    let site = c.args.site.now in
    let outcomes = c.args.outcomes.now in
    let all = c.in_ok-all.all in
    record {
      tops = c.in_ok-all.ensures.tops ∙ c.requires.tops;
      so_far = none_so_far site outcomes.1 c.shared-shared.result.leaves.now all.1 (λ q w. c.in_ok-all.ensures.value q (subst (λ (ts : List ℕ). IsWithin ts q) (sym c.requires.tops) w));
    }

pub loop-outcome-preserved : goal.loop-outcome-preserved
loop-outcome-preserved c =
    let site = c.args.site.now in
    let outcomes = c.args.outcomes.now in
    let leaves : List Outcome = c.shared-shared.result.leaves.now in
    let k : ℕ = c.loop-outcome.outcome-index in
    let item : Outcome = c.outcome-item.result in
    let old = c.loop-outcome.all in
    let new = c.in_ok-all-2.all in
    let stands : get_or leaves k Drop ≡ item = get_or_default leaves k Drop item c.loop-outcome-test.true ∙ sym c.outcome-item.is in
    record {
      tops = c.in_ok-all-2.ensures.tops;
      so_far = more_so_far site outcomes.1 leaves k item old.1 new.1 c.loop-outcome-test.true stands c.loop-outcome.invariant.so_far c.in_ok-all-2.ensures.value;
    }

pub returns-clause-value : goal.returns-clause-value
returns-clause-value c =
    let site = c.args.site.now in
    let outcomes = c.args.outcomes.now in
    let leaves : List Outcome = c.shared-shared.result.leaves.now in
    let among : HasValuesAmong outcomes.1 leaves = own_leaves outcomes.0 outcomes.1 leaves c.shared-shared.result.nodes.now c.shared-shared.ensures in
    all_so_far site outcomes.1 leaves c.loop-outcome.outcome-index c.loop-outcome.all.1 c.loop-outcome-test.false among
    (λ q w. let here = c.in_ok-all.ensures.value q (subst (λ (ts : List ℕ). IsWithin ts q) (sym c.requires.tops) w) in (here.0, here.1)) c.loop-outcome.invariant.so_far
