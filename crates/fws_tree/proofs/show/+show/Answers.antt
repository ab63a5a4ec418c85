use Rattle.std.proofs.Common.{◌<◌, ◌+◌, ℕ, get_or, take, sym, subst, add-one, arith}
use Rattle.std.proofs.lemmas.Option.{slice_get_within}
use Rattle.fws_tree.specs.declared.join.Piece.{Piece}
use Rattle.fws_tree.specs.Shown.{IsShown, IsPieced}
use Rattle.fws_tree.proofs.Growing.{extends-trans}
use Rattle.fws_tree.proofs.Showing.{all_shown-extends, all_shown-note, pieces-next, pieces-joined, leaf_shown, shown_up, under-next, under-joined, added_leaf, AreShownPieces, AreAddedUnder, grown-extends}
use Rattle.fws_tree.proofs.show.+show.Goals as goal

pub returns-in_err-leaf-in-Leaf-clause-extends : goal.returns-in_err-leaf-in-Leaf-clause-extends
returns-in_err-leaf-in-Leaf-clause-extends t c = grown-extends _ _ _ c.intern.ensures.grown

pub returns-in-Leaf-clause-extends : goal.returns-in-Leaf-clause-extends
returns-in-Leaf-clause-extends t c = grown-extends _ _ _ c.intern.ensures.grown

pub returns-in-Leaf-clause-shown : goal.returns-in-Leaf-clause-shown
returns-in-Leaf-clause-shown t c = leaf_shown c.args.store.now c.args.tops.now c.args.places.now c.args.field c.args.at c.in-Leaf.n c.leaf_place.result c.cell.result.now c.intern.new.self c.in_ok-leaf-in-Leaf.leaf
    c.requires.ordered c.cell.ensures c.in-Leaf.is c.leaf_place.ensures (slice_get_within _ _ _ c.in_ok-leaf-in-Leaf.ensures.number) c.in_ok-leaf-in-Leaf.ensures.tree

pub returns-in-Leaf-clause-below : goal.returns-in-Leaf-clause-below
returns-in-Leaf-clause-below t c = added_leaf _ _ _ _ c.intern.ensures.arena.different c.intern.ensures.grown c.in_ok-leaf-in-Leaf.ensures.number

pub returns-in-Leaf-clause-known : goal.returns-in-Leaf-clause-known
returns-in-Leaf-clause-known t c = all_shown-extends c.args.store.now c.args.tops.now c.args.places.now c.args.arena.now c.intern.new.self c.args.memo.now (grown-extends _ _ _ c.intern.ensures.grown) c.requires.known

pub returns-in-Some-clause-shown : goal.returns-in-Some-clause-shown
returns-in-Some-clause-shown t c = shown_up c.args.store.now c.args.tops.now c.args.places.now c.args.field c.in-Cut.own c.args.at c.args.arena.now c.in-Some.r (omega arith) (omega arith)
    (c.requires.known c.in-Cut.own c.args.at c.in-Some.r (sym c.in-Some.ensures))

pub returns-in_err-node-clause-extends : goal.returns-in_err-node-clause-extends
returns-in_err-node-clause-extends t c = extends-trans _ _ _ c.loop-cut.invariant.extends c.show.ensures.extends

pub returns-in_err-push-clause-extends : goal.returns-in_err-push-clause-extends
returns-in_err-push-clause-extends t c = extends-trans _ _ _ c.loop-cut.invariant.extends c.show.ensures.extends

pub loop-cut-preserved : goal.loop-cut-preserved
loop-cut-preserved t c =
    let d : Piece ℕ = record { lo = 0; hi = 0; held = 0 } in
    record {
      arena = c.show.ensures.arena;
      extends = extends-trans _ _ _ c.loop-cut.invariant.extends c.show.ensures.extends;
      added = rw c.in_ok-push.ensures.items (under-next c.args.arena.now c.loop-cut.arena c.show.new.arena c.loop-cut.pieces.items _ c.show.ensures.extends c.loop-cut.invariant.shown.below c.loop-cut.invariant.added c.in_ok-node.ensures.below);
      known = c.in_ok-node.ensures.known;
      shown = rw c.in_ok-push.ensures.items (pieces-next c.args.store.now c.args.tops.now c.args.places.now c.in-Cut.own (c.in-Cut.own + 1) c.args.at (get_or c.args.tops.now c.in-Cut.own 0) c.deref-cut-items.result.now c.loop-cut.cut-index d
          c.loop-cut.arena c.show.new.arena c.loop-cut.pieces.items c.in_ok-node.node
          (subst (λ ps. IsPieced c.args.store.now c.args.at c.in-Cut.own (get_or c.args.tops.now c.in-Cut.own 0) ps) (sym c.deref-cut-items.ensures.value) c.in_ok-cuts.ensures)
          c.loop-cut-test.true (add-one c.in-Cut.own) c.show.ensures.extends c.loop-cut.invariant.shown c.in_ok-node.ensures.shown);
    }

own_shown : (t : ℕ) (c : goal.After-drop-cuts-2 t) → IsShown c.args.store.now c.args.tops.now c.args.places.now c.in-Cut.own c.args.at c.join.new.arena c.in_ok-whole.whole
own_shown t c =
    let lf : c.in-Cut.own < 12 = omega arith in
    pieces-joined c.args.store.now c.args.tops.now c.args.places.now c.in-Cut.own c.args.at c.deref-cut-items.result.now c.loop-cut.cut-index c.loop-cut.arena c.join.new.arena c.as_slice.result.now c.in_ok-whole.whole lf c.requires.tops
    (subst (λ ps. IsPieced c.args.store.now c.args.at c.in-Cut.own (get_or c.args.tops.now c.in-Cut.own 0) ps) (sym c.deref-cut-items.ensures.value) c.in_ok-cuts.ensures)
    c.loop-cut-test.false
    (subst (λ ps. AreShownPieces c.args.store.now c.args.tops.now c.args.places.now c.in-Cut.own c.args.at (take c.loop-cut.cut-index c.deref-cut-items.result.now) c.loop-cut.arena ps) (sym c.as_slice.ensures.value) c.loop-cut.invariant.shown)
    c.in_ok-whole.ensures.number c.in_ok-whole.ensures.reduced c.in_ok-whole.ensures.branches

pub returns-in_err-whole-clause-extends : goal.returns-in_err-whole-clause-extends
returns-in_err-whole-clause-extends t c = extends-trans _ _ _ c.loop-cut.invariant.extends c.join.ensures.extends

pub returns-in_err-note-clause-extends : goal.returns-in_err-note-clause-extends
returns-in_err-note-clause-extends t c = extends-trans _ _ _ c.loop-cut.invariant.extends c.join.ensures.extends

pub returns-clause-extends : goal.returns-clause-extends
returns-clause-extends t c = extends-trans _ _ _ c.loop-cut.invariant.extends c.join.ensures.extends

pub returns-clause-shown : goal.returns-clause-shown
returns-clause-shown t c = shown_up c.args.store.now c.args.tops.now c.args.places.now c.args.field c.in-Cut.own c.args.at c.join.new.arena c.in_ok-whole.whole (omega arith) (omega arith) (own_shown t c)

pub returns-clause-below : goal.returns-clause-below
returns-clause-below t c = under-joined c.args.arena.now c.loop-cut.arena c.join.new.arena c.as_slice.result.now c.in_ok-whole.whole c.join.ensures.extends
    (subst (AreAddedUnder c.args.arena.now c.loop-cut.arena) (sym c.as_slice.ensures.value) c.loop-cut.invariant.added) c.in_ok-whole.ensures.over c.in_ok-whole.ensures.added

pub returns-clause-known : goal.returns-clause-known
returns-clause-known t c =
    all_shown-note c.args.store.now c.args.tops.now c.args.places.now c.join.new.arena c.loop-cut.memo c.note.new.self c.in-Cut.own c.args.at c.in_ok-whole.whole
    (all_shown-extends c.args.store.now c.args.tops.now c.args.places.now c.loop-cut.arena c.join.new.arena c.loop-cut.memo c.join.ensures.extends c.loop-cut.invariant.known) c.in_ok-note.ensures (own_shown t c)
