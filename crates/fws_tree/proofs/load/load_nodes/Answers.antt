use Rattle.std.proofs.Common.{ap, sym, ◌∙◌, ℕ, ◌+◌, List, length, arith, length-append, [], ◌∷◌, subst}
use Rattle.fws_tree.specs.Loaded.{AreLoaded}
use Rattle.fws_tree.proofs.Cells.{extends-trans, length-extends}
use Rattle.fws_tree.proofs.Loading.{loaded-next}
use Rattle.fws_tree.proofs.load.load_nodes.Goals as goal

pub load_node-requires-clause-many : goal.load_node-requires-clause-many
load_node-requires-clause-many c = ap (λ (xs : List ℕ). length xs) c.as_slice.ensures.value ∙ c.loop-k.invariant.many

pub load_node-requires-clause-loaded : goal.load_node-requires-clause-loaded
load_node-requires-clause-loaded c = subst (AreLoaded c.args.tops.now c.args.nodes.now c.args.values.now c.loop-k.store) (sym c.as_slice.ensures.value) c.loop-k.invariant.loaded

pub returns-in_err-cell-clause-extends : goal.returns-in_err-cell-clause-extends
returns-in_err-cell-clause-extends c = extends-trans _ _ _ c.loop-k.invariant.extends c.load_node.ensures.extends

pub returns-in_err-push-clause-extends : goal.returns-in_err-push-clause-extends
returns-in_err-push-clause-extends c = extends-trans _ _ _ c.loop-k.invariant.extends c.load_node.ensures.extends

pub loop-k-preserved : goal.loop-k-preserved
loop-k-preserved c =
    let grown = length-extends c.loop-k.store c.load_node.new.store c.load_node.ensures.extends in
    let rest = c.loop-k.invariant.rest in
    record {
      ordered = c.load_node.ensures.ordered;
      extends = extends-trans _ _ _ c.loop-k.invariant.extends c.load_node.ensures.extends;
      rest = omega arith;
      many = ap (λ (xs : List ℕ). length xs) c.in_ok-push.ensures.items ∙ length-append c.loop-k.at.items (c.in_ok-cell.cell ∷ []) ∙ ap (λ n. n + 1) c.loop-k.invariant.many;
      loaded = loaded-next c.args.tops.now c.args.nodes.now c.args.values.now c.loop-k.store c.load_node.new.store c.loop-k.at.items c.push.new.self.items c.loop-k.k c.in_ok-cell.cell
          c.load_node.ensures.extends c.loop-k.invariant.many c.loop-k.invariant.loaded c.in_ok-cell.ensures.inside c.in_ok-cell.ensures.holds c.in_ok-push.ensures.items;
    }
