use Rattle.std.proofs.Common.{◌≡◌, ◌<◌, ◌-◌, ◌&&◌, ℕ, Some, length, slice_get, sym, ap, ◌∙◌, arith}
use Rattle.std.proofs.lemmas.Option.{slice_get-get_or}
use Rattle.std.specs.List.{list_any}
use Rattle.fws_iv.specs.Ivs.{has}
use Rattle.fws_tree.specs.declared.node.Kid.{Kid}
use Rattle.fws_tree.specs.declared.node.Node.TheVariants.{Leaf, Cut}
use Rattle.fws_ios_put.proofs.Leaders.{kid_same, leaf_same, other_same}
use Rattle.fws_ios_put.proofs.leading.has_same.Goals as goal

pub returns-in-Leaf : goal.returns-in-Leaf
returns-in-Leaf c = λ same.
    let t = c.args.tree.now in
    let leaves = c.shared-shared.result.leaves.now in
    let nodes = c.shared-shared.result.nodes.now in
    let shared = c.shared-shared.ensures in
    let inside : length nodes - 1 < length nodes = (let some_nodes = shared.some in omega arith) in
    let there : slice_get nodes (length nodes - 1) ≡ Some (Leaf c.in-Leaf.field-0) = slice_get-get_or nodes (length nodes - 1) c.index-shared-shared.result inside ∙ ap Some c.in-Leaf.is in
    let found = c.leaf_nodes_are_leaves.ensures t.0 t.1 leaves nodes (length nodes - 1) c.in-Leaf.field-0 shared there in
    leaf_same t.1 found.0 c.args.a c.args.b (shared.last ∙ found.2)

pub returns-then-f-ne0 : goal.returns-then-f-ne0
returns-then-f-ne0 c = λ same.
    let t = c.args.tree.now in
    let leaves = c.shared-shared.result.leaves.now in
    let nodes = c.shared-shared.result.nodes.now in
    let shared = c.shared-shared.ensures in
    let inside : length nodes - 1 < length nodes = (let some_nodes = shared.some in omega arith) in
    let there : slice_get nodes (length nodes - 1) ≡ Some (Cut c.in-Cut.f c.in-Cut.kids) = slice_get-get_or nodes (length nodes - 1) c.index-shared-shared.result inside ∙ ap Some c.in-Cut.is in
    let node = c.cut_nodes_part_values.ensures t.0 t.1 leaves nodes (length nodes - 1) c.in-Cut.f c.in-Cut.kids shared there in
    other_same t.0 t.1 leaves nodes c.in-Cut.f c.in-Cut.kids c.args.a c.args.b shared node c.if-f-ne0.true

pub returns-else-f-ne0 : goal.returns-else-f-ne0
returns-else-f-ne0 c = λ same.
    let t = c.args.tree.now in
    let leaves = c.shared-shared.result.leaves.now in
    let nodes = c.shared-shared.result.nodes.now in
    let shared = c.shared-shared.ensures in
    let kids = c.in-Cut.kids in
    let inside : length nodes - 1 < length nodes = (let some_nodes = shared.some in omega arith) in
    let zero_field : c.in-Cut.f ≡ 0 = c.if-f-ne0.false in
    let there : slice_get nodes (length nodes - 1) ≡ Some (Cut 0 kids) =
    slice_get-get_or nodes (length nodes - 1) c.index-shared-shared.result inside ∙ ap Some c.in-Cut.is ∙ ap (λ (f : ℕ). Some (Cut f kids)) zero_field in
    let node = c.cut_nodes_part_values.ensures t.0 t.1 leaves nodes (length nodes - 1) 0 kids shared there in
    kid_same t.0 t.1 leaves nodes kids c.args.a c.args.b shared node
    (ap (list_any (λ (kid : Kid). has kid.set c.args.a && has kid.set c.args.b)) (sym c.as_slice.ensures) ∙ sym c.some_kid_has.ensures ∙ same)
