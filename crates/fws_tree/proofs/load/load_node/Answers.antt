use Rattle.std.proofs.Common.{refl, subst}
use Rattle.std.proofs.lemmas.Result.{IfOk-weaker}
use Rattle.fws_tree.specs.Nodes.{IsNodeBelow}
use Rattle.fws_tree.proofs.Loading.{holds_leaf, holds_cut}
use Rattle.fws_tree.proofs.WayDown.{tree_is, below_read}
use Rattle.fws_tree.proofs.load.load_node.Goals as goal

pub returns-in-Leaf-clause-holds : goal.returns-in-Leaf-clause-holds
returns-in-Leaf-clause-holds c = IfOk-weaker c.intern.result _ _ (λ r held.
    holds_leaf c.args.tops.now c.args.nodes.now c.args.values.now c.intern.new.self c.args.k r c.in-Leaf.place c.number_at.result
    (tree_is c.args.nodes.now c.args.k _ _ c.requires.nodes c.requires.inside c.index-nodes-k.is c.in-Leaf.is) c.number_at.ensures held) c.intern.ensures.held

pub returns-in-Cut-clause-holds : goal.returns-in-Cut-clause-holds
returns-in-Cut-clause-holds c = IfOk-weaker c.load_cut.result _ _ (λ r held.
    holds_cut c.args.tops.now c.args.nodes.now c.args.values.now c.args.store.now c.load_cut.new.store c.args.at.now c.args.at.now c.as_slice.result.now c.in-Cut.kids c.args.k r c.in-Cut.field c.number_at-top.result c.args.rest
    (tree_is c.args.nodes.now c.args.k _ _ c.requires.nodes c.requires.inside c.index-nodes-k.is c.in-Cut.is)
    (subst (IsNodeBelow c.args.k) c.in-Cut.is (below_read c.args.nodes.now c.args.k _ c.requires.nodes c.requires.inside c.index-nodes-k.is))
    c.as_slice.ensures refl c.requires.many c.requires.loaded c.number_at-top.ensures held) c.load_cut.ensures.held
