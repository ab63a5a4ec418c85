use Rattle.std.proofs.Common.{ℕ, ◌-◌, ◌++◌, ◌∙◌, ap, arith, append_assoc}
use Rattle.fws_pf_put_filter.proofs.Deciding.{known_of, moves_more}
use Rattle.fws_pf_put_filter.proofs.put.put_moves.Goals as goal

pub loop-k-preserved : goal.loop-k-preserved
loop-k-preserved c =
    let plan = c.args.plan.now in
    let k : ℕ = c.loop-k.k in
    let inv = c.loop-k.invariant in
    let put = c.in_ok-put_node.ensures.rules in
    let within = inv.within in
    let known = known_of c.seen_fields_agree.ensures c.unseen_fields_are_open.ensures c.cut_nodes_part_values.ensures c.leaf_nodes_are_leaves.ensures plan.site.now plan.tree.now.0 plan.tree.now.1 plan.leaves.now plan.nodes.now plan.states.now c.requires in
    record {
      within = omega (arith, within);
      size = c.put_node.ensures.size ∙ inv.size;
      moves = (
        inv.moves.0 ++ put.0,
        put.1 ∙ ap (λ l. l ++ put.0) inv.moves.1 ∙ append_assoc c.args.rules.now inv.moves.0 put.0,
        moves_more plan.site.now plan.tree.now.0 plan.tree.now.1 plan.leaves.now plan.nodes.now plan.states.now known (k - 1) k inv.moves.0 put.0 (omega arith) (omega (arith, within)) inv.moves.2 put.2,
      );
    }
