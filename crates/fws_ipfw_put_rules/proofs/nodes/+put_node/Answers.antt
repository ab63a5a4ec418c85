use Rattle.std.proofs.Common.{◌≡◌, ◌<◌, ◌++◌, ◌∷◌, [], Some, List, length, slice_get, sym, ◌∙◌, ap, subst, arith, append_assoc, append-nil}
use Rattle.std.proofs.lemmas.List.{take_all}
use Rattle.std.proofs.lemmas.Option.{get_or_from_slice_get, slice_get-get_or}
use Rattle.std.specs.Prelude.{All}
use Rattle.fws_tree.specs.declared.node.Kid.{Kid}
use Rattle.fws_tree.specs.declared.node.Node.TheVariants.{Leaf, Cut}
use Rattle.fws_ipfw_put_rules.specs.declared.turn.Turn.{Turn}
use Rattle.fws_ipfw_put_rules.specs.Blocks.{AreTurnRules}
use Rattle.fws_ipfw_put_rules.specs.Lists.{rule_of}
use Rattle.fws_ipfw_put_rules.specs.Pieces.{IsProper}
use Rattle.fws_ipfw_put_rules.specs.Turns.{AreCutTurns}
use Rattle.fws_ipfw_put_rules.proofs.Leading.{Laws}
use Rattle.fws_ipfw_put_rules.proofs.Listing.{cut_rules, leaf_rules, no_turns, some_kids, turn_more, with_rule}
use Rattle.fws_ipfw_put_rules.proofs.Rooms.{cut_turns_good, good_turn, IsGoodTurn}
use Rattle.fws_ipfw_put_rules.proofs.Rooting.{proper_kids}
use Rattle.fws_ipfw_put_rules.proofs.nodes.+put_node.Goals as goal

pub cut_turns-requires-clause-some : goal.cut_turns-requires-clause-some
cut_turns-requires-clause-some t c =
    let plan = c.args.plan.now in
    let nodes = plan.nodes.now in
    let kids = c.in-Cut.kids in
    let there : slice_get nodes c.args.at ≡ Some (Cut c.in-Cut.f kids) = slice_get-get_or nodes c.args.at c.index-plan-at.result c.requires.inside ∙ ap Some c.in-Cut.is in
    let node = c.cut_nodes_part_values.ensures plan.tree.now.0 plan.tree.now.1 plan.leaves.now nodes c.args.at c.in-Cut.f kids c.requires.planned.shared there in
    subst (λ (l : List Kid). 0 < length l) (sym c.as_slice.ensures) (some_kids kids node)

pub cut_turns-requires-clause-proper : goal.cut_turns-requires-clause-proper
cut_turns-requires-clause-proper t c = λ field e.
    let plan = c.args.plan.now in
    let nodes = plan.nodes.now in
    let kids = c.in-Cut.kids in
    let there : slice_get nodes c.args.at ≡ Some (Cut c.in-Cut.f kids) = slice_get-get_or nodes c.args.at c.index-plan-at.result c.requires.inside ∙ ap Some c.in-Cut.is in
    let node = c.cut_nodes_part_values.ensures plan.tree.now.0 plan.tree.now.1 plan.leaves.now nodes c.args.at c.in-Cut.f kids c.requires.planned.shared there in
    subst (λ (l : List Kid). All (λ kid. IsProper field kid.set) l) (sym c.as_slice.ensures)
    (proper_kids c.seen_fields_agree.ensures plan.site.now plan.tree.now.0 plan.section.now.seen plan.leaves.now nodes c.args.at c.in-Cut.f kids c.requires.planned.tops_are node field e)

pub loop-turn-init : goal.loop-turn-init
loop-turn-init t c =
    let plan = c.args.plan.now in
    ([], sym (append-nil c.args.rules.now), no_turns plan.site.now plan.tree.now.0 plan.section.now plan.tree.now.1 plan.leaves.now plan.nodes.now c.args.cond.now)

pub put_node-requires : goal.put_node-requires
put_node-requires t c =
    let plan = c.args.plan.now in
    let nodes = plan.nodes.now in
    let kids = c.in-Cut.kids in
    let seen = plan.section.now.seen in
    let items = c.as_slice-turn-items.result.now in
    let there : slice_get nodes c.args.at ≡ Some (Cut c.in-Cut.f kids) = slice_get-get_or nodes c.args.at c.index-plan-at.result c.requires.inside ∙ ap Some c.in-Cut.is in
    let node = c.cut_nodes_part_values.ensures plan.tree.now.0 plan.tree.now.1 plan.leaves.now nodes c.args.at c.in-Cut.f kids c.requires.planned.shared there in
    let made : AreCutTurns seen c.in-Cut.f kids items =
    subst (λ l. AreCutTurns seen c.in-Cut.f kids l) (sym c.as_slice-turn-items.ensures) (subst (λ l. AreCutTurns seen c.in-Cut.f l c.in_ok-turns-in-Cut.turns) c.as_slice.ensures c.in_ok-turns-in-Cut.ensures) in
    let all = cut_turns_good plan.site.now plan.tree.now.0 seen plan.leaves.now nodes c.args.at c.in-Cut.f kids c.args.cond.now items there node c.requires.good made in
    let good : IsGoodTurn plan.site.now seen nodes c.args.at c.args.cond.now c.turn-item.result =
    subst (λ (x : Turn). IsGoodTurn plan.site.now seen nodes c.args.at c.args.cond.now x) (sym c.turn-item.is) (all c.loop-turn.turn-index c.turn-item.result c.loop-turn-test.true) in
    let before = good.before in
    let inside = c.requires.inside in
    let measure = c.decreases in (
      omega (arith, before, measure),
      (c.requires.planned, (omega (arith, before, inside), good_turn plan.site.now seen nodes c.args.at c.args.cond.now c.turn-item.result c.in_ok-next-in-Cut.next good c.in_ok-next-in-Cut.ensures)),
    )

pub loop-turn-preserved : goal.loop-turn-preserved
loop-turn-preserved t c =
    let plan = c.args.plan.now in
    let inv = c.loop-turn.invariant in
    let put = c.in_ok-put_node-in-Cut.ensures in (
      inv.0 ++ put.0,
      put.1 ∙ ap (λ l. l ++ put.0) inv.1 ∙ append_assoc c.args.rules.now inv.0 put.0,
      turn_more plan.site.now plan.tree.now.0 plan.section.now plan.tree.now.1 plan.leaves.now plan.nodes.now c.args.cond.now c.in_ok-next-in-Cut.next c.as_slice-turn-items.result.now
          c.loop-turn.turn-index c.turn-item.result inv.0 put.0 c.loop-turn-test.true c.turn-item.is c.in_ok-next-in-Cut.ensures inv.2 put.2,
    )

pub returns-in_ok-put-in-Leaf : goal.returns-in_ok-put-in-Leaf
returns-in_ok-put-in-Leaf t c =
    let plan = c.args.plan.now in
    let nodes = plan.nodes.now in
    let there : slice_get nodes c.args.at ≡ Some (Leaf c.in-Leaf.n) = slice_get-get_or nodes c.args.at c.index-plan-at.result c.requires.inside ∙ ap Some c.in-Leaf.is in
    let leaf = c.leaf_nodes_are_leaves.ensures plan.tree.now.0 plan.tree.now.1 plan.leaves.now nodes c.args.at c.in-Leaf.n c.requires.planned.shared there in (
      rule_of plan.section.now.number c.args.cond.now leaf.0 ∷ [],
      with_rule _ _ _ plan.section.now.number _ c.args.cond.now _ leaf.0 c.in_ok-put-in-Leaf.ensures.ok c.rule_for.ensures c.in_ok-copy-in-Leaf.ensures (get_or_from_slice_get plan.leaves.now c.in-Leaf.n leaf.0 _ leaf.1),
      leaf_rules plan.site.now plan.tree.now.0 plan.section.now plan.tree.now.1 plan.leaves.now nodes c.args.at c.in-Leaf.n leaf.0 c.args.cond.now c.requires.planned there leaf.2 c.requires.good,
    )

pub returns-after-loop-turn : goal.returns-after-loop-turn
returns-after-loop-turn t c =
    let plan = c.args.plan.now in
    let nodes = plan.nodes.now in
    let kids = c.in-Cut.kids in
    let seen = plan.section.now.seen in
    let items = c.as_slice-turn-items.result.now in
    let inv = c.loop-turn.invariant in
    let there : slice_get nodes c.args.at ≡ Some (Cut c.in-Cut.f kids) = slice_get-get_or nodes c.args.at c.index-plan-at.result c.requires.inside ∙ ap Some c.in-Cut.is in
    let node = c.cut_nodes_part_values.ensures plan.tree.now.0 plan.tree.now.1 plan.leaves.now nodes c.args.at c.in-Cut.f kids c.requires.planned.shared there in
    let made : AreCutTurns seen c.in-Cut.f kids items =
    subst (λ l. AreCutTurns seen c.in-Cut.f kids l) (sym c.as_slice-turn-items.ensures) (subst (λ l. AreCutTurns seen c.in-Cut.f l c.in_ok-turns-in-Cut.turns) c.as_slice.ensures c.in_ok-turns-in-Cut.ensures) in
    let laws : Laws = record {
      agree = c.seen_fields_agree.ensures;
      unseen = c.unseen_fields_are_open.ensures;
      left = c.left_sets_are_open.ensures;
      reach = c.open_kids_are_reached.ensures;
    } in (
      inv.0,
      inv.1,
      cut_rules laws plan.site.now plan.tree.now.0 plan.section.now plan.tree.now.1 plan.leaves.now nodes c.args.at c.in-Cut.f kids c.args.cond.now items inv.0 c.requires.planned.tops_are node made
          (subst (λ l. AreTurnRules plan.site.now plan.tree.now.0 plan.section.now plan.tree.now.1 plan.leaves.now nodes c.args.cond.now l inv.0) (take_all c.loop-turn.turn-index items (omega arith)) inv.2),
    )
