use Rattle.std.proofs.Common.{sym, ◌∙◌, subst}
use Rattle.std.proofs.lemmas.Option.{slice_get_within}
use Rattle.std.proofs.lemmas.Result.{IfOk-weaker}
use Rattle.fws_tree.specs.Building.{AreDifferent}
use Rattle.fws_tree.specs.Held.{held_at}
use Rattle.fws_tree.proofs.MetPairs.{pair_there}
use Rattle.fws_tree.proofs.pairing.finish_pairs.Goals as goal

pub finish-requires-clause-different : goal.finish-requires-clause-different
finish-requires-clause-different g c = subst AreDifferent (sym c.as_slice.ensures) c.in_ok-made.ensures.different

pub finish-requires-clause-places : goal.finish-requires-clause-places
finish-requires-clause-places g c = λ p w.
    let z = c.requires.held p w in
    slice_get_within _ _ _ (pair_there c.args.one.now.leaves.now c.args.two.now.leaves.now c.args.pairs.now c.in_ok-made.made.leaves c.as_slice.result.now c.in_ok-made.made.places.items c.as_slice-places.result.now
    (held_at c.args.store.now c.args.at p) z.0 z.1 z.3.0 z.4.0 c.in_ok-made.ensures.places z.2 z.3.2 z.4.2 c.as_slice.ensures c.as_slice-places.ensures.value)

pub returns-clause-value : goal.returns-clause-value
returns-clause-value g c = IfOk-weaker c.finish.result _ _ (λ t is p w.
    let z = c.requires.held p w in (
      z.3.0,
      z.4.0,
      z.3.1,
      z.4.1,
      is p w ∙ pair_there c.args.one.now.leaves.now c.args.two.now.leaves.now c.args.pairs.now c.in_ok-made.made.leaves c.as_slice.result.now c.in_ok-made.made.places.items c.as_slice-places.result.now
          (held_at c.args.store.now c.args.at p) z.0 z.1 z.3.0 z.4.0 c.in_ok-made.ensures.places z.2 z.3.2 z.4.2 c.as_slice.ensures c.as_slice-places.ensures.value,
    )) c.finish.ensures.value
