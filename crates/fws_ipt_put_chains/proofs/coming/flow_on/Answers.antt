use Rattle.std.proofs.Common.{◌≡◌, Some, sym, ◌∙◌, ap, subst, slice_get, arith}
use Rattle.std.proofs.lemmas.Option.{slice_get_read}
use Rattle.std.specs.List.{AllByRecursion}
use Rattle.std.specs.Prelude.{All}
use Rattle.fws_ipt_put_chains.specs.Comings.{narrowed, coming_at, IsCovered}
use Rattle.fws_ipt_put_chains.proofs.Flowing.{flows_cut, flows_leaf}
use Rattle.fws_ipt_put_chains.proofs.coming.flow_on.Goals as goal
use Rattle.fws_tree.specs.declared.node.Node.TheVariants.{Cut}
use Rattle.std.proofs.Common.{◌<◌, length, refl}

pub flow-requires-clause-below : goal.flow-requires-clause-below
flow-requires-clause-below c =
    let nodes = c.args.nodes.now in
    let at : slice_get nodes c.args.at ≡ Some (Cut c.in-Cut.f c.in-Cut.kids) =
    slice_get_read nodes (length nodes) c.args.at c.index-nodes-at.result refl c.requires.inside c.index-nodes-at.is ∙ ap Some c.in-Cut.is in
    subst (λ ks. AllByRecursion (λ kid. kid.node < c.args.at) ks) (sym c.as_slice.ensures) (c.kids_stand_before.ensures nodes c.args.at c.in-Cut.f c.in-Cut.kids c.requires.ordered at)

pub returns-in-Leaf-clause-flows : goal.returns-in-Leaf-clause-flows
returns-in-Leaf-clause-flows c =
    let nodes = c.args.nodes.now in
    flows_leaf nodes c.args.comings.now.items c.args.at c.in-Leaf.field-0
    (slice_get_read nodes (length nodes) c.args.at c.index-nodes-at.result refl c.requires.inside c.index-nodes-at.is ∙ ap Some c.in-Leaf.is)

pub returns-in-Cut-clause-flows : goal.returns-in-Cut-clause-flows
returns-in-Cut-clause-flows c =
    let nodes = c.args.nodes.now in
    let old = c.args.comings.now.items in
    let new = c.flow.new.comings.items in
    flows_cut nodes old new c.args.at c.in-Cut.f c.in-Cut.kids
    (slice_get_read nodes (length nodes) c.args.at c.index-nodes-at.result refl c.requires.inside c.index-nodes-at.is ∙ ap Some c.in-Cut.is)
    (c.flow.ensures.later c.args.at (omega arith))
    (subst (λ ks. All (λ kid. IsCovered (narrowed c.in-Cut.f kid.set (coming_at old c.args.at)) (coming_at new kid.node)) ks) c.as_slice.ensures c.flow.ensures.flows)
