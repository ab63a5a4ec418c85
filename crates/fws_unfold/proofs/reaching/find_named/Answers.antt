use Rattle.std.proofs.Common.{◌≡◌, ◌<◌, ◌≤◌, length, get_or, true, nat_eq, arith, subst, ⊎_elim, eq-or-lt_of_le, sym}
use Rattle.std.specs.List.{list_any}
use Rattle.fws_ifcl.specs.Refusals.{named_in}
use Rattle.fws_unfold.proofs.Searching.{name_at, all_names, grows_same, grows_on, in_grown}
use Rattle.fws_unfold.proofs.reaching.find_named.Goals as goal

pub find-requires : goal.find-requires
find-requires c =
    let chains = c.args.calls.now.chains.now in
    let xs = c.named-d-items.result.now in
    let is : xs ≡ named_in chains c.args.from = c.named-d-items.ensures chains c.requires.calls in
    let lt : c.loop-d.d-index < length xs = omega arith in
    let below : get_or xs c.loop-d.d-index 0 < length chains = c.requires.known c.args.from _ (name_at chains c.args.from c.loop-d.d-index xs is lt) in
    let sized : length c.loop-d.seen.items ≡ length chains = c.loop-d.invariant.found.sized in
    omega (arith, below, sized)

pub loop-d-init : goal.loop-d-init
loop-d-init c = record {
  found = c.requires.found;
  grown = grows_same _;
  there = λ k lt. absurd (omega arith);
}

pub loop-d-preserved : goal.loop-d-preserved
loop-d-preserved c =
    let chains = c.args.calls.now.chains.now in
    let xs = c.named-d-items.result.now in
    let is : xs ≡ named_in chains c.args.from = c.named-d-items.ensures chains c.requires.calls in
    let lt : c.loop-d.d-index < length xs = omega arith in
    let on = name_at chains c.args.from c.loop-d.d-index xs is lt in
    let before = c.loop-d.invariant.found in
    record {
      found = c.in_ok-find.ensures.found chains c.args.c before (c.requires.known c.args.from _ on) (c.requires.reached _ on);
      grown = grows_on _ _ _ c.loop-d.invariant.grown c.in_ok-find.ensures.grown;
      there = λ k less.
          let le : k ≤ c.loop-d.d-index = omega arith in
          ⊎_elim
          (λ same. subst (λ j. list_any (nat_eq (get_or xs j 0)) c.find.new.queue.items ≡ true) (sym same) (c.in_ok-find.ensures.there chains c.args.c before))
          (λ more. in_grown _ _ _ c.in_ok-find.ensures.grown (c.loop-d.invariant.there k more))
          (eq-or-lt_of_le le);
    }

pub returns-clause-all : goal.returns-clause-all
returns-clause-all c =
    let chains = c.args.calls.now.chains.now in
    let xs = c.named-d-items.result.now in
    let is : xs ≡ named_in chains c.args.from = c.named-d-items.ensures chains c.requires.calls in
    all_names chains c.args.from c.loop-d.d-index xs c.loop-d.queue.items is (omega arith) c.loop-d.invariant.there
