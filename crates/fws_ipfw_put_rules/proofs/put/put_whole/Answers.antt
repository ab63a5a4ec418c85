use Rattle.std.proofs.Common.{◌≡◌, ℕ, ◌-◌, ◌∷◌, [], Some, List, length, get_or, slice_get, sym, subst, arith}
use Rattle.std.proofs.lemmas.Option.{slice_get-get_or}
use Rattle.fws_net.specs.declared.condition.Lit.{Lit}
use Rattle.fws_tree.specs.declared.node.Node.TheVariants.{Leaf}
use Rattle.fws_ipfw_put_rules.specs.Blocks.{AreNodeRules, IsGoodCond}
use Rattle.fws_ipfw_put_rules.specs.Literals.{direction}
use Rattle.fws_ipfw_put_rules.proofs.Ending.{list_made, node_rooted}
use Rattle.fws_ipfw_put_rules.proofs.Rooms.{good_direction}
use Rattle.fws_ipfw_put_rules.proofs.put.put_whole.Goals as goal

pub put_node-requires-clause-good : goal.put_node-requires-clause-good
put_node-requires-clause-good c =
    let plan = c.args.plan.now in
    subst (λ (l : List Lit). IsGoodCond plan.site.now plan.section.now.seen plan.nodes.now (length plan.nodes.now - 1) l) (sym c.in_ok-cond.ensures)
    (good_direction plan.site.now plan.section.now.seen plan.nodes.now (length plan.nodes.now - 1) plan.section.now.outward)

pub returns : goal.returns
returns c =
    let plan = c.args.plan.now in
    let site = plan.site.now in
    let tops = plan.tree.now.0 in
    let t = plan.tree.now.1 in
    let section = plan.section.now in
    let leaves = plan.leaves.now in
    let nodes = plan.nodes.now in
    let last : ℕ = length nodes - 1 in
    let put = c.in_ok-put_node.ensures in
    let some = c.requires.planned.shared.some in
    let node = get_or nodes last (Leaf 0) in
    let there : slice_get nodes last ≡ Some node = slice_get-get_or nodes last (Leaf 0) (omega (arith, some)) in
    let rules : AreNodeRules site tops section t leaves nodes last (direction section.outward ∷ []) put.0 =
    subst (λ (l : List Lit). AreNodeRules site tops section t leaves nodes last l put.0) c.in_ok-cond.ensures put.2 in (
      put.0,
      put.1,
      list_made c.reached_values_are_told.ensures c.seen_points_are_topped.ensures site tops section t leaves nodes put.0 c.requires.told c.requires.planned rules.is_block
          (node_rooted c.leaf_nodes_are_leaves.ensures c.cut_nodes_part_values.ensures site tops section t leaves nodes node put.0 c.requires.planned there (c.requires.keeps node there) rules),
    )
