use Rattle.std.proofs.Common.{◌≡◌, ◌++◌, [], false, Some, List, length, get_or, slice_get, sym, ◌∙◌, ap, subst, arith, append_assoc, append-nil}
use Rattle.std.proofs.lemmas.Option.{slice_get-get_or}
use Rattle.fws_tree.specs.declared.node.Kid.{Kid}
use Rattle.fws_tree.specs.declared.node.Node.TheVariants.{Cut}
use Rattle.fws_tree_seen.specs.Cuts.{IsCutNode}
use Rattle.fws_pf_put_nat.specs.Scenes.{IsRootNode, Scene}
use Rattle.fws_pf_put_nat.specs.Turns.{AreTurnRules, AreTurns, IsGoodTurn}
use Rattle.fws_pf_put_nat.specs.Paths.{no_parts, number_of}
use Rattle.fws_pf_put_nat.specs.declared.turn.Turn.{Turn}
use Rattle.fws_pf_put_nat.proofs.Listing.{cut_rules, drop_whole, good_later, no_turn_rules, turn_rules_more}
use Rattle.fws_pf_put_nat.proofs.nodes.+put_node.Goals as goal
use Rattle.fws_pf_put_nat.specs.Sheets.{scene_of}

abbrev none : Turn
none = record { path = no_parts; node = 0; falls = false }

pub cut_turns-requires-clause-node : goal.cut_turns-requires-clause-node
cut_turns-requires-clause-node t c =
    let sheet = c.args.sheet.now in
    let nodes = sheet.nodes.now in
    let kids = c.in-Cut.kids in
    let there : slice_get nodes c.args.at ≡ Some (Cut c.in-Cut.f kids) = slice_get-get_or nodes c.args.at c.index-sheet-at.result c.requires.inside ∙ ap Some c.in-Cut.is in
    let node = c.cut_nodes_part_values.ensures sheet.tree.now.0 sheet.tree.now.1 sheet.leaves.now nodes c.args.at c.in-Cut.f kids c.requires.planned.shared there in
    subst (λ (l : List Kid). IsCutNode sheet.tree.now.0 sheet.leaves.now nodes c.args.at (number_of c.in-Some.side) l) (sym c.as_slice.ensures)
    (subst (λ f. IsCutNode sheet.tree.now.0 sheet.leaves.now nodes c.args.at f kids) (sym c.in-Some.ensures.0) node)

pub cut_turns-requires-clause-good : goal.cut_turns-requires-clause-good
cut_turns-requires-clause-good t c =
    let sheet = c.args.sheet.now in
    let s : Scene = (scene_of sheet) in
    let nodes = sheet.nodes.now in
    let good = c.requires.good in
    let there : slice_get nodes c.args.at ≡ Some (Cut c.in-Cut.f c.in-Cut.kids) = slice_get-get_or nodes c.args.at c.index-sheet-at.result c.requires.inside ∙ ap Some c.in-Cut.is in
    let low = good.2 c.in-Cut.f c.in-Cut.kids there in
    let same = c.in-Some.ensures.0 in
    good_later s good.0 (number_of c.in-Some.side) c.args.path (omega (arith, low, same)) good.1

pub cut_turns-requires-clause-inward : goal.cut_turns-requires-clause-inward
cut_turns-requires-clause-inward t c = λ out.
    let nodes = c.args.sheet.now.nodes.now in
    let there : slice_get nodes c.args.at ≡ Some (Cut c.in-Cut.f c.in-Cut.kids) = slice_get-get_or nodes c.args.at c.index-sheet-at.result c.requires.inside ∙ ap Some c.in-Cut.is in
    let low = c.requires.inward out c.in-Cut.f c.in-Cut.kids there in
    let same = c.in-Some.ensures.0 in
    omega (arith, low, same)

pub loop-turn-init : goal.loop-turn-init
loop-turn-init t c =
    let sheet = c.args.sheet.now in
    ([], sym (append-nil c.args.rules.now), no_turn_rules (scene_of sheet) c.args.falls c.as_slice-turn-items.result.now)

pub put_node-requires : goal.put_node-requires
put_node-requires t c =
    let sheet = c.args.sheet.now in
    let s : Scene = (scene_of sheet) in
    let items = c.as_slice-turn-items.result.now in
    let made : AreTurns s c.args.at c.args.path c.args.falls items =
    subst (λ (l : List Turn). AreTurns s c.args.at c.args.path c.args.falls l) (sym c.as_slice-turn-items.ensures) c.in_ok-turns-in-Some.ensures in
    let good : IsGoodTurn s c.args.at (get_or items c.loop-turn.turn-index none) = made.good c.loop-turn.turn-index none c.loop-turn-test.true in
    let before = good.before in
    let inside = c.requires.inside in
    let measure = c.decreases in
    (omega (arith, before, measure), (c.requires.planned, (c.requires.few, (omega (arith, before, inside), (good.good, λ out. good.later)))))

pub loop-turn-preserved : goal.loop-turn-preserved
loop-turn-preserved t c =
    let sheet = c.args.sheet.now in
    let inv = c.loop-turn.invariant in
    let put = c.in_ok-put_node-in-Some.ensures in (
      inv.0 ++ put.0,
      put.1 ∙ ap (λ l. l ++ put.0) inv.1 ∙ append_assoc c.args.rules.now inv.0 put.0,
      turn_rules_more (scene_of sheet) c.args.falls c.as_slice-turn-items.result.now c.loop-turn.turn-index none inv.0 put.0 c.loop-turn-test.true inv.2 put.2,
    )

pub returns-after-loop-turn : goal.returns-after-loop-turn
returns-after-loop-turn t c =
    let sheet = c.args.sheet.now in
    let s : Scene = (scene_of sheet) in
    let items = c.as_slice-turn-items.result.now in
    let inv = c.loop-turn.invariant in
    let inside = c.requires.inside in
    let size = c.requires.planned.ends.size in
    let made : AreTurns s c.args.at c.args.path c.args.falls items =
    subst (λ (l : List Turn). AreTurns s c.args.at c.args.path c.args.falls l) (sym c.as_slice-turn-items.ensures) c.in_ok-turns-in-Some.ensures in
    let end : c.loop-turn.turn-index ≡ length items = omega arith in
    let own = c.index-sheet-at-in-Cut.result in
    let open' : IsRootNode s c.args.at → ⊥ = λ root. c.in-Some.ensures.1 (root (get_or s.ends c.args.at own) (slice_get-get_or s.ends c.args.at own (omega (arith, inside, size)))) in (
      inv.0,
      inv.1,
      cut_rules s c.args.at c.args.path c.args.falls items inv.0 made open' (drop_whole items) (subst (λ n. AreTurnRules s c.args.falls items n inv.0) end inv.2),
    )
