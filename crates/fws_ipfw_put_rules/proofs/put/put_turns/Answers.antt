use Rattle.std.proofs.Common.{◌≡◌, ◌<◌, ◌++◌, [], true, List, length, sym, ◌∙◌, ap, subst, arith, append_assoc, append-nil}
use Rattle.std.proofs.lemmas.List.{take_all}
use Rattle.fws_net.specs.declared.condition.Lit.{Lit}
use Rattle.fws_ipfw_put_rules.specs.declared.turn.Turn.{Turn}
use Rattle.fws_ipfw_put_rules.specs.Blocks.{is_printed_turn, AreTurnRules, IsGoodCond}
use Rattle.fws_ipfw_put_rules.specs.Literals.{with_lit}
use Rattle.fws_ipfw_put_rules.proofs.Listing.{no_turns, turn_more}
use Rattle.fws_ipfw_put_rules.proofs.Rooms.{good_root_turn}
use Rattle.fws_ipfw_put_rules.proofs.put.put_turns.Goals as goal

pub loop-turn-init : goal.loop-turn-init
loop-turn-init c =
    let plan = c.args.plan.now in
    ([], sym (append-nil c.args.rules.now), no_turns plan.site.now plan.tree.now.0 plan.section.now plan.tree.now.1 plan.leaves.now plan.nodes.now c.args.cond.now)

pub put_node-requires-clause-inside : goal.put_node-requires-clause-inside
put_node-requires-clause-inside c =
    subst (λ (x : Turn). x.node < length c.args.plan.now.nodes.now) (sym c.turn-item.is) (c.requires.turns.known c.loop-turn.turn-index c.turn-item.result c.loop-turn-test.true)

pub put_node-requires-clause-good : goal.put_node-requires-clause-good
put_node-requires-clause-good c =
    let plan = c.args.plan.now in
    let turn = c.turn-item.result in
    let printed : is_printed_turn plan.site.now turn ≡ true =
    subst (λ (x : Turn). is_printed_turn plan.site.now x ≡ true) (sym c.turn-item.is) (c.requires.turns.printed c.loop-turn.turn-index turn c.loop-turn-test.true) in
    subst (λ (l : List Lit). IsGoodCond plan.site.now plan.section.now.seen plan.nodes.now turn.node l)
    (sym (c.in_ok-next.ensures ∙ ap (λ (l : List Lit). with_lit turn.lit l) c.requires.direction))
    (good_root_turn plan.site.now plan.section.now.seen plan.nodes.now turn.node plan.section.now.outward turn.lit printed)

pub loop-turn-preserved : goal.loop-turn-preserved
loop-turn-preserved c =
    let plan = c.args.plan.now in
    let inv = c.loop-turn.invariant in
    let put = c.in_ok-put_node.ensures in (
      inv.0 ++ put.0,
      put.1 ∙ ap (λ l. l ++ put.0) inv.1 ∙ append_assoc c.args.rules.now inv.0 put.0,
      turn_more plan.site.now plan.tree.now.0 plan.section.now plan.tree.now.1 plan.leaves.now plan.nodes.now c.args.cond.now c.in_ok-next.next c.args.turns.now
          c.loop-turn.turn-index c.turn-item.result inv.0 put.0 c.loop-turn-test.true c.turn-item.is c.in_ok-next.ensures inv.2 put.2,
    )

pub returns : goal.returns
returns c =
    let plan = c.args.plan.now in
    let turns = c.args.turns.now in
    let inv = c.loop-turn.invariant in (
      inv.0,
      inv.1,
      subst (λ l. AreTurnRules plan.site.now plan.tree.now.0 plan.section.now plan.tree.now.1 plan.leaves.now plan.nodes.now c.args.cond.now l inv.0) (take_all c.loop-turn.turn-index turns (omega arith)) inv.2,
    )
