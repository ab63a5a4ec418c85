use Rattle.std.proofs.Common.{◌≡◌, ℕ, Some, List, slice_get, sym, ◌∙◌, ap, subst, arith}
use Rattle.std.proofs.lemmas.Option.{slice_get-get_or}
use Rattle.fws_pf_put_filter.specs.Stating.{IsNext}
use Rattle.fws_pf_put_filter.proofs.Stating.{next_more, states_done}
use Rattle.fws_pf_put_filter.proofs.states.states_of.Goals as goal

pub loop-k-preserved : goal.loop-k-preserved
loop-k-preserved c =
    let leaves = c.args.leaves.now in
    let nodes = c.args.nodes.now in
    let k : ℕ = c.loop-k.k in
    let states = c.loop-k.states in
    let node = c.index-nodes-k.result in
    let there : slice_get nodes k ≡ Some node = slice_get-get_or nodes k node c.loop-k-test.true ∙ ap Some (sym c.index-nodes-k.is) in
    next_more leaves nodes k c.in_ok-state.state states c.put.new.self c.loop-k.own.items c.next_state.new.own.items node
    (λ n f kids cut. c.kids_stand_before.ensures nodes n f kids c.requires.ordered cut) c.requires.named there c.loop-k.invariant
    (subst (λ (l : List ℕ). IsNext leaves l node k c.loop-k.own.items c.next_state.new.own.items c.in_ok-state.state) c.as_slice.ensures c.in_ok-state.ensures) c.in_ok-put.ensures.ok

pub returns : goal.returns
returns c = states_done c.args.leaves.now c.args.nodes.now c.loop-k.k c.loop-k.states c.loop-k.own.items (omega arith) c.loop-k.invariant
