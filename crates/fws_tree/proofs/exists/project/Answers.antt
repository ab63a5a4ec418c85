use Rattle.std.proofs.Common.{◌≡◌, ℕ, ◌+◌, ◌<◌, ◌≤◌, List, [], ◌∷◌, ◌++◌, length, get_or, slice_get, sym, ◌∙◌, ap, subst, arith, length-append}
use Rattle.fws_tree.specs.Held.{held_at}
use Rattle.fws_tree.specs.Loaded.{kid_number, named_cell}
use Rattle.fws_tree.specs.Nodes.{IsNodeBelow, relabel}
use Rattle.fws_tree.specs.Plain.{leaf, IsReduced}
use Rattle.fws_tree.specs.Projected.{Tells, any_of}
use Rattle.fws_tree.proofs.Cells.{length-extends, held-extends}
use Rattle.fws_tree.proofs.Loading.{within_top}
use Rattle.fws_tree.proofs.Projecting.{projected-next, tells_leaf, tells_cut, tells_free}
use Rattle.fws_tree.proofs.WayDown.{tree_is, below_read}
use Rattle.fws_tree.proofs.exists.project.Goals as goal
use Rattle.fws_tree.proofs.exists.project.Goals.{in-Leaf+in_ok-cell-in-Leaf, in-Cut+then-is_free+in_ok-cell-in-Cut, in-Cut+else-is_free+in_ok-cell-in-Cut-2}

pub loop-node-preserved : goal.loop-node-preserved
loop-node-preserved c =
    let k : ℕ = c.loop-node.node-index in
    let tops : List ℕ = c.args.tops.now in
    let nodes = c.args.tree.now.nodes.now in
    let leaves = c.args.tree.now.leaves.now in
    let inv = c.loop-node.invariant in
    let rest = inv.rest in
    let lk : k < length nodes = c.loop-node-test.true in
    let long : length c.push.new.self.items ≡ k + 1 = ap (λ (xs : List ℕ). length xs) c.in_ok-push.ensures.items ∙ length-append c.loop-node.at.items (c.match-node.cell ∷ []) ∙ ap (λ n. n + 1) inv.many in
    let ordered = c.requires.shared.ordered in
    elim c.match-node.branch [
      | in-Leaf+in_ok-cell-in-Leaf w ↦ (
          let e = w.intern-in-Leaf.ensures.extends in
          let grown = length-extends c.loop-node.store w.intern-in-Leaf.new.self e in
          let is = ap (relabel leaves) (tree_is nodes k _ _ ordered lk c.node-item.is w.in-Leaf.is) in
          rw w.store-is (record {
            ordered = w.intern-in-Leaf.ensures.ordered;
            rest = omega arith;
            nowhere = λ p. held-extends c.loop-node.store w.intern-in-Leaf.new.self c.in_ok-rest.rest p e rest ∙ inv.nowhere p;
            many = long;
            projected = projected-next tops c.args.fields leaves nodes c.loop-node.store w.intern-in-Leaf.new.self c.loop-node.at.items c.push.new.self.items k w.in_ok-cell-in-Leaf.cell e inv.many inv.projected w.in_ok-cell-in-Leaf.ensures.inside
                (λ p within. subst (λ t. Tells tops c.args.fields t p (held_at w.intern-in-Leaf.new.self w.in_ok-cell-in-Leaf.cell p)) (sym is)
                (subst (λ n. Tells tops c.args.fields (relabel leaves (leaf w.in-Leaf.place)) p n) (sym (w.in_ok-cell-in-Leaf.ensures.held p)) (tells_leaf tops c.args.fields (slice_get leaves w.in-Leaf.place) p w.truth.result within w.truth.ensures)))
                (c.in_ok-push.ensures.items ∙ ap (λ z. c.loop-node.at.items ++ z ∷ []) w.cell-is);
          }))
      | in-Cut+then-is_free+in_ok-cell-in-Cut w ↦ (
          let e = w.any_of.ensures.extends in
          let grown = length-extends c.loop-node.store w.any_of.new.store e in
          let is = ap (relabel leaves) (tree_is nodes k _ _ ordered lk c.node-item.is w.in-Cut.is) in
          rw w.store-is (record {
            ordered = w.any_of.ensures.ordered;
            rest = omega arith;
            nowhere = λ p. held-extends c.loop-node.store w.any_of.new.store c.in_ok-rest.rest p e rest ∙ inv.nowhere p;
            many = long;
            projected = projected-next tops c.args.fields leaves nodes c.loop-node.store w.any_of.new.store c.loop-node.at.items c.push.new.self.items k w.in_ok-cell-in-Cut.cell e inv.many inv.projected w.in_ok-cell-in-Cut.ensures.inside
                (λ p within. subst (λ t. Tells tops c.args.fields t p (held_at w.any_of.new.store w.in_ok-cell-in-Cut.cell p)) (sym is)
                (tells_free tops c.args.fields w.in-Cut.field leaves nodes c.loop-node.store w.any_of.new.store c.loop-node.at.items w.in-Cut.kids k w.in_ok-cell-in-Cut.cell c.in_ok-rest.rest p
                (subst (IsNodeBelow k) w.in-Cut.is (below_read nodes k _ ordered lk c.node-item.is)) inv.many inv.projected (sym w.is_free.ensures ∙ w.if-is_free.true) (inv.nowhere p) within (subst (IsReduced tops) is (c.requires.shared.reduced k lk))
                (w.in_ok-cell-in-Cut.ensures.held p ∙ ap (λ xs. any_of (λ n. held_at c.loop-node.store (get_or xs n 0) p) (held_at c.loop-node.store c.in_ok-rest.rest p) w.as_slice.result.now) w.as_slice-then-is_free.ensures.value
                ∙ ap (λ ks. any_of (λ n. held_at c.loop-node.store (get_or c.loop-node.at.items n 0) p) (held_at c.loop-node.store c.in_ok-rest.rest p) ks) w.as_slice.ensures)))
                (c.in_ok-push.ensures.items ∙ ap (λ z. c.loop-node.at.items ++ z ∷ []) w.cell-is);
          }))
      | in-Cut+else-is_free+in_ok-cell-in-Cut-2 w ↦ (
          let e = w.load_cut.ensures.extends in
          let grown = length-extends c.loop-node.store w.load_cut.new.store e in
          let f = w.in-Cut.field in
          let is = ap (relabel leaves) (tree_is nodes k _ _ ordered lk c.node-item.is w.in-Cut.is) in
          rw w.store-is (record {
            ordered = w.load_cut.ensures.ordered;
            rest = omega arith;
            nowhere = λ p. held-extends c.loop-node.store w.load_cut.new.store c.in_ok-rest.rest p e rest ∙ inv.nowhere p;
            many = long;
            projected = projected-next tops c.args.fields leaves nodes c.loop-node.store w.load_cut.new.store c.loop-node.at.items c.push.new.self.items k w.in_ok-cell-in-Cut-2.cell e inv.many inv.projected w.in_ok-cell-in-Cut-2.ensures.inside
                (λ p within. subst (λ t. Tells tops c.args.fields t p (held_at w.load_cut.new.store w.in_ok-cell-in-Cut-2.cell p)) (sym is)
                (tells_cut tops c.args.fields f leaves nodes c.loop-node.store w.load_cut.new.store c.loop-node.at.items w.in-Cut.kids k w.in_ok-cell-in-Cut-2.cell c.in_ok-rest.rest p
                (subst (IsNodeBelow k) w.in-Cut.is (below_read nodes k _ ordered lk c.node-item.is)) inv.many inv.projected (sym w.is_free.ensures ∙ w.if-is_free.false) (inv.nowhere p) within
                (w.in_ok-cell-in-Cut-2.ensures.held p (subst (λ m. get_or p f 0 ≤ m) (sym w.number_at-top.ensures) (within_top tops p f within))
                ∙ ap (λ xs. held_at c.loop-node.store (named_cell xs c.in_ok-rest.rest (kid_number w.as_slice-else-is_free.result.now (get_or p f 0))) p) w.as_slice-else-is_free-2.ensures.value
                ∙ ap (λ ks. held_at c.loop-node.store (named_cell c.loop-node.at.items c.in_ok-rest.rest (kid_number ks (get_or p f 0))) p) w.as_slice-else-is_free.ensures)))
                (c.in_ok-push.ensures.items ∙ ap (λ z. c.loop-node.at.items ++ z ∷ []) w.cell-is);
          }))
    ]
