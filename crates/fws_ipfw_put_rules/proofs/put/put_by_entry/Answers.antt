use Rattle.std.proofs.Common.{◌∷◌, [], List, subst}
use Rattle.fws_net.specs.declared.condition.Lit.{Lit}
use Rattle.fws_ipfw_put_rules.specs.declared.turn.Turn.{Turn}
use Rattle.fws_ipfw_put_rules.specs.Blocks.{AreTurnRules}
use Rattle.fws_ipfw_put_rules.specs.Literals.{direction}
use Rattle.fws_ipfw_put_rules.proofs.Ending.{list_made, turns_rooted}
use Rattle.fws_ipfw_put_rules.proofs.put.put_by_entry.Goals as goal

pub returns : goal.returns
returns c =
    let plan = c.args.plan.now in
    let site = plan.site.now in
    let tops = plan.tree.now.0 in
    let t = plan.tree.now.1 in
    let section = plan.section.now in
    let leaves = plan.leaves.now in
    let nodes = plan.nodes.now in
    let put = c.in_ok-put_turns.ensures in
    let rules : AreTurnRules site tops section t leaves nodes (direction section.outward ∷ []) c.in_ok-turns.turns put.0 =
    subst (λ (l : List Lit). AreTurnRules site tops section t leaves nodes l c.in_ok-turns.turns put.0) c.in_ok-cond.ensures
    (subst (λ (l : List Turn). AreTurnRules site tops section t leaves nodes c.in_ok-cond.cond l put.0) c.as_slice.ensures put.2) in (
      put.0,
      put.1,
      list_made c.reached_values_are_told.ensures c.seen_points_are_topped.ensures site tops section t leaves nodes put.0 c.requires.told c.requires.planned rules.is_block
          (turns_rooted site tops section t leaves nodes c.in_ok-turns.turns put.0 c.in_ok-turns.ensures rules),
    )
