use Rattle.std.proofs.Common.{◌∷◌, [], ◌++◌, ◌∙◌, ap, append_assoc}
use Rattle.fws_pf.specs.declared.config.PfRule.{PfRule}
use Rattle.fws_pf_put_filter.specs.Rules.{block_all}
use Rattle.fws_pf_put_filter.proofs.Deciding.{known_of}
use Rattle.fws_pf_put_filter.proofs.Passing.{filter_made}
use Rattle.fws_pf_put_filter.proofs.put.put_filter.Goals as goal

pub returns : goal.returns
returns c =
    let plan = c.args.plan.now in
    let old = c.args.rules.now in
    let a = c.in_ok-put_moves.ensures in
    let b = c.in_ok-put_passes.ensures in
    let known = known_of c.seen_fields_agree.ensures c.unseen_fields_are_open.ensures c.cut_nodes_part_values.ensures c.leaf_nodes_are_leaves.ensures plan.site.now plan.tree.now.0 plan.tree.now.1 plan.leaves.now plan.nodes.now plan.states.now c.requires in (
      block_all ∷ (a.0 ++ b.0),
      b.1 ∙ ap (λ l. l ++ b.0) (a.1 ∙ ap (λ l. l ++ a.0) (c.in_ok-put.ensures.ok ∙ ap (λ (r : PfRule). old ++ r ∷ []) c.blocking.ensures))
          ∙ append_assoc (old ++ block_all ∷ []) a.0 b.0 ∙ append_assoc old (block_all ∷ []) (a.0 ++ b.0),
      filter_made plan.site.now plan.tree.now.0 plan.tree.now.1 plan.leaves.now plan.nodes.now plan.states.now known a.0 b.0 a.2 b.2,
    )
