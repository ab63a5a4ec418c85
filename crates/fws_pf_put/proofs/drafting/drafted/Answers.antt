use Rattle.std.proofs.Common.{ℕ, List, sym, subst}
use Rattle.fws_tree.specs.Shared.{IsShared}
use Rattle.fws_pf_put_filter.specs.States.{AreStates}
use Rattle.fws_pf_put.proofs.drafting.drafted.Goals as goal

pub states_of-requires-clause-ordered : goal.states_of-requires-clause-ordered
states_of-requires-clause-ordered c = c.shared-shared.ensures.ordered

pub states_of-requires-clause-named : goal.states_of-requires-clause-named
states_of-requires-clause-named c = c.shared-shared.ensures.named

pub draft_of-requires : goal.draft_of-requires
draft_of-requires c =
    let shared = c.shared-shared.result in
    let leaves = shared.leaves.now in
    let nodes = shared.nodes.now in
    record {
      sound = c.requires.sound;
      regular = c.requires.regular;
      fits = c.requires.fits;
      shared = subst (λ (ts : List ℕ). IsShared ts c.args.tables.now.fresh.1 leaves nodes) c.requires.regular.fresh_tops c.shared-shared.ensures;
      stated = subst (AreStates leaves nodes) (sym c.as_slice.ensures) c.in_ok-states.ensures;
    }
