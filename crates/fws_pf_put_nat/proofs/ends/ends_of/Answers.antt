use Rattle.std.proofs.Common.{◌≡◌, ℕ, ◌<◌, Some, List, length, slice_get, sym, ◌∙◌, ap, subst, arith}
use Rattle.std.proofs.lemmas.Option.{get_or_from_slice_get, slice_get-get_or}
use Rattle.std.specs.Prelude.{All}
use Rattle.fws_net.specs.declared.outcome.Outcome.{Outcome}
use Rattle.fws_tree.specs.declared.node.Kid.{Kid}
use Rattle.fws_tree.specs.declared.node.Node.{Node}
use Rattle.fws_tree.specs.declared.node.Node.TheVariants.{Leaf, Cut}
use Rattle.fws_tree.specs.Plain.{Plain}
use Rattle.fws_tree.specs.Shared.{subtree_of}
use Rattle.fws_tree_seen.specs.Cuts.{kids_of}
use Rattle.fws_pf_put_nat.specs.declared.ends.Ends.{Ends}
use Rattle.fws_pf_put_nat.specs.Ends.{IsAccepted, IsKidAccepted, IsOutcome, Tells}
use Rattle.fws_pf_put_nat.proofs.Joining.{ends_more}
use Rattle.fws_pf_put_nat.proofs.Kids.{kids_ready}
use Rattle.fws_pf_put_nat.proofs.ends.ends_of.Goals.{in-Leaf, in-Cut}
use Rattle.fws_pf_put_nat.proofs.ends.ends_of.Goals as goal

pub kid_ends-own-requires : goal.kid_ends-own-requires
kid_ends-own-requires c =
    let nodes = c.args.nodes.now in
    let n : ℕ = c.loop-node.node-index in
    let kids = c.in-Cut.kids in
    let there : slice_get nodes n ≡ Some (Cut c.in-Cut.field-0 kids) = slice_get-get_or nodes n c.node-item.result c.loop-node-test.true ∙ ap Some (sym c.node-item.is ∙ c.in-Cut.is) in
    let node = c.cut_nodes_part_values.ensures c.requires.0 c.requires.1 c.args.leaves.now nodes n c.in-Cut.field-0 kids c.requires.2 there in
    let size : n ≡ length c.deref.result.now = sym (ap length c.deref.ensures.value ∙ c.loop-node.invariant.0) in
    subst (λ (l : List Kid). All (λ kid. kid.node < length c.deref.result.now) l) (sym c.as_slice.ensures) (kids_ready n (length c.deref.result.now) kids size node.before)

pub loop-node-preserved : goal.loop-node-preserved
loop-node-preserved c =
    let nodes = c.args.nodes.now in
    let leaves = c.args.leaves.now in
    let n : ℕ = c.loop-node.node-index in
    let inv = c.loop-node.invariant in
    let outward = c.args.outward in
    let tree : ℕ → Plain Outcome = λ k. subtree_of leaves nodes k in
    let item = c.node-item.result in
    let at : (x : Node) → item ≡ x → slice_get nodes n ≡ Some x = λ x e. slice_get-get_or nodes n item c.loop-node-test.true ∙ ap Some (sym c.node-item.is ∙ e) in
    let own : Tells outward (IsAccepted (subtree_of leaves nodes n)) c.match-node.own = elim c.match-node.branch [
      | in-Leaf w ↦ (let l = c.leaf_nodes_are_leaves.ensures c.requires.0 c.requires.1 leaves nodes n w.in-Leaf.n c.requires.2 (at (Leaf w.in-Leaf.n) w.in-Leaf.is) in
          let r = w.index-leaves-n.result in
          let same : r ≡ l.0 = w.index-leaves-n.is ∙ get_or_from_slice_get leaves w.in-Leaf.n l.0 r l.1 in
          subst (λ u. Tells outward (IsAccepted u) c.match-node.own) (sym l.2)
          (subst (λ (e : Ends). Tells outward (IsOutcome l.0) e) (sym w.own-is) (subst (λ (o : Outcome). Tells outward (IsOutcome o) w.leaf_ends-own.result) same w.leaf_ends-own.ensures)))
      | in-Cut w ↦ (let kids = w.in-Cut.kids in
          let node = c.cut_nodes_part_values.ensures c.requires.0 c.requires.1 leaves nodes n w.in-Cut.field-0 kids c.requires.2 (at (Cut w.in-Cut.field-0 kids) w.in-Cut.is) in
          let told : Tells outward (IsKidAccepted (kids_of tree w.as_slice.result.now)) w.kid_ends-own.result =
          w.kid_ends-own.ensures outward tree (λ i e h. inv.1 i e (sym (ap (λ (l : List Ends). slice_get l i) w.deref.ensures.value) ∙ h)) in
          subst (λ u. Tells outward (IsAccepted u) c.match-node.own) (sym node.tree)
          (subst (λ (e : Ends). Tells outward (IsKidAccepted (kids_of tree kids)) e) (sym w.own-is) (subst (λ (l : List Kid). Tells outward (IsKidAccepted (kids_of tree l)) w.kid_ends-own.result) w.as_slice.ensures told)))
    ] in
    ends_more outward leaves nodes n c.loop-node.ends.items c.push.new.self.items c.match-node.own inv.0 inv.1 own c.in_ok-push.ensures.items

pub returns : goal.returns
returns c =
    let end : c.loop-node.node-index ≡ length c.args.nodes.now = omega arith in
    record { size = c.loop-node.invariant.0 ∙ end; each = c.loop-node.invariant.1 }
