use Rattle.std.proofs.Common.{◌≡◌, ◌++◌, Some, List, length, slice_get, sym, ◌∙◌, ap, subst, arith, append_assoc}
use Rattle.std.proofs.lemmas.Option.{same_Some, slice_get-get_or}
use Rattle.std.specs.Prelude.{slice_index_or, false, None}
use Rattle.fws_tree.specs.declared.node.Kid.{Kid}
use Rattle.fws_tree.specs.declared.node.Node.TheVariants.{Cut, Leaf}
use Rattle.fws_tree.specs.Plain.{leaf}
use Rattle.fws_tree_seen.specs.Cuts.{IsCutNode}
use Rattle.fws_ios_put_entries.specs.Paths.{nothing_asked}
use Rattle.fws_ios_put_lists.specs.declared.turn.Turn.{Turn}
use Rattle.fws_ios_put_lists.specs.Blocks.{below, scene, Scene}
use Rattle.fws_ios_put_lists.specs.Turns.{AreTurnEntries, AreTurns}
use Rattle.fws_ios_put_lists.proofs.Listing.{cut_entries, leaf_entries, turn_entries_more}
use Rattle.fws_ios_put_lists.proofs.nodes.+put_node.Goals as goal

abbrev none : Turn
none = record { path = nothing_asked; node = 0; falls = None }

pub cut_turns-requires-clause-node : goal.cut_turns-requires-clause-node
cut_turns-requires-clause-node t c =
    let sheet = c.args.sheet.now in
    let nodes = sheet.nodes.now in
    let kids = c.in-Cut.kids in
    let there : slice_get nodes c.args.at ≡ Some (Cut c.in-Cut.f kids) = slice_get-get_or nodes c.args.at c.index-sheet-at.result c.requires.inside ∙ ap Some c.in-Cut.is in
    let node = c.cut_nodes_part_values.ensures sheet.tree.now.0 sheet.tree.now.1 sheet.leaves.now nodes c.args.at c.in-Cut.f kids c.requires.planned.shared there in
    subst (λ (l : List Kid). IsCutNode sheet.tree.now.0 sheet.leaves.now nodes c.args.at c.in-Cut.f l) (sym c.as_slice.ensures) node

pub loop-turn-preserved : goal.loop-turn-preserved
loop-turn-preserved t c =
    let sheet = c.args.sheet.now in
    let s : Scene = scene sheet.tree.now.0 sheet.tree.now.1 sheet.leaves.now sheet.nodes.now in
    let inv = c.loop-turn.invariant in
    let put = c.in_ok-put_node-in-Cut.ensures in (
      inv.0 ++ put.0,
      put.1 ∙ ap (λ l. l ++ put.0) inv.1 ∙ append_assoc c.args.entries.now inv.0 put.0,
      turn_entries_more s sheet.keep c.args.falls c.as_slice-turn-items.result.now c.loop-turn.turn-index none inv.0 put.0 c.requires.planned c.loop-turn-test.true inv.2 put.2,
    )

pub returns-in_ok-put_leaf-in-Leaf : goal.returns-in_ok-put_leaf-in-Leaf
returns-in_ok-put_leaf-in-Leaf t c =
    let sheet = c.args.sheet.now in
    let nodes = sheet.nodes.now in
    let leaves = sheet.leaves.now in
    let s : Scene = scene sheet.tree.now.0 sheet.tree.now.1 leaves nodes in
    let n = c.in-Leaf.n in
    let there : slice_get nodes c.args.at ≡ Some (Leaf n) = slice_get-get_or nodes c.args.at c.index-sheet-at.result c.requires.inside ∙ ap Some c.in-Leaf.is in
    let l = c.leaf_nodes_are_leaves.ensures sheet.tree.now.0 sheet.tree.now.1 leaves nodes c.args.at n c.requires.planned.shared there in
    let low = c.requires.planned.shared.named c.args.at n there in
    let is : below s c.args.at ≡ leaf (slice_index_or leaves n false) = l.2 ∙ ap leaf (same_Some _ _ (sym l.1 ∙ slice_get-get_or leaves n false low)) in
    let put = c.in_ok-put_leaf-in-Leaf.ensures in
    (put.0, put.1, leaf_entries s sheet.keep c.args.at c.args.path c.args.falls (slice_index_or leaves n false) put.0 is put.2)

pub returns-after-loop-turn : goal.returns-after-loop-turn
returns-after-loop-turn t c =
    let sheet = c.args.sheet.now in
    let s : Scene = scene sheet.tree.now.0 sheet.tree.now.1 sheet.leaves.now sheet.nodes.now in
    let items = c.as_slice-turn-items.result.now in
    let inv = c.loop-turn.invariant in
    let made : AreTurns s c.args.at c.args.path c.args.falls items =
    subst (λ (l : List Turn). AreTurns s c.args.at c.args.path c.args.falls l) (sym c.as_slice-turn-items.ensures) c.in_ok-turns-in-Cut.ensures in
    let end : c.loop-turn.turn-index ≡ length items = omega arith in (
      inv.0,
      inv.1,
      cut_entries s sheet.keep c.args.at c.args.path c.args.falls items inv.0 made (subst (λ n. AreTurnEntries s sheet.keep c.args.falls items n inv.0) end inv.2),
    )
