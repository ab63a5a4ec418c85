use Rattle.std.proofs.Common.{rules, arith, ◌<◌, get_or, length, sym, ◌∙◌, Result, Ok, Err, OnOk}
use Rattle.std.proofs.lemmas.Option.{slice_get-get_or}
use Rattle.std.proofs.lemmas.Result.{IfOk-weaker}
use Rattle.fws_tree.specs.declared.store.Step.{Step}
use Rattle.fws_tree.specs.declared.store.Cell.TheVariants.{Leaf}
use Rattle.fws_tree.proofs.Cells.{extends-trans}
use Rattle.fws_tree.proofs.Copying.{copied-extends, copied-note, steps-next, steps-all, copied_cut}
use Rattle.fws_tree.proofs.copy.+copied.Goals as goal

on-ok : {T E P : Type 0} (r : Result T E) → P → OnOk r P
on-ok (Ok x) p = p
on-ok (Err e) p = tt

pub returns-in-Some-clause-known : goal.returns-in-Some-clause-known
returns-in-Some-clause-known t c = on-ok c.intern.result (copied-extends c.args.store.now c.args.fresh.now c.intern.new.self c.args.memo.now c.intern.ensures.extends c.requires.known)

pub returns-in-Some-clause-held : goal.returns-in-Some-clause-held
returns-in-Some-clause-held t c = IfOk-weaker c.intern.result _ _ (λ r e p. e p ∙ sym (c.in-Some.ensures p)) c.intern.ensures.held

pub unreachable-requires : goal.unreachable-requires
unreachable-requires t c =
    let is = slice_get-get_or c.args.store.now c.args.at (Leaf 0) c.requires.at in
    c.in_default.ensures _ is (sym (c.cut_field.ensures _ is) ∙ c.in_default-cut_field.is)

pub copied-requires : goal.copied-requires
copied-requires t c =
    let d : Step = record { hi = 0; node = 0 } in
    let is = slice_get-get_or c.args.store.now c.args.at (Leaf 0) c.requires.at in
    let s : (get_or c.view-last.result.0.now c.loop-s.s-index d).node < c.args.at = (c.view-last.ensures.strict _ is (sym (c.cut_field.ensures _ is) ∙ c.in-Some-cut_field.is)).0 c.loop-s.s-index d c.loop-s-test.true in
    let l : (get_or c.view-last.result.0.now c.loop-s.s-index d).node < length c.args.store.now = (let top = c.requires.at in omega arith) in
    search rules

pub returns-in_err-node-clause-extends : goal.returns-in_err-node-clause-extends
returns-in_err-node-clause-extends t c = extends-trans _ _ _ c.loop-s.invariant.early c.copied.ensures.extends

pub returns-in_err-add_step-clause-extends : goal.returns-in_err-add_step-clause-extends
returns-in_err-add_step-clause-extends t c = extends-trans _ _ _ c.loop-s.invariant.early c.copied.ensures.extends

pub loop-s-preserved : goal.loop-s-preserved
loop-s-preserved t c = record {
  ordered = c.copied.ensures.ordered;
  early = extends-trans _ _ _ c.loop-s.invariant.early c.copied.ensures.extends;
  steps = steps-next c.args.store.now c.loop-s.fresh c.copied.new.fresh c.view-last.result.0.now c.loop-s.s-index (record { hi = 0; node = 0 }) c.loop-s.copies.items c.add_step.new.steps.items c.in_ok-node.node c.loop-s-test.true
      c.copied.ensures.extends c.loop-s.invariant.steps c.in_ok-node.ensures.held c.in_ok-node.ensures.inside c.in_ok-add_step.ensures.below c.in_ok-add_step.ensures.same;
  known = c.in_ok-node.ensures.known;
}

pub copied-requires-2 : goal.copied-requires-2
copied-requires-2 t c =
    let is = slice_get-get_or c.args.store.now c.args.at (Leaf 0) c.requires.at in
    let s : c.view-last.result.1 < c.args.at = (c.view-last.ensures.strict _ is (sym (c.cut_field.ensures _ is) ∙ c.in-Some-cut_field.is)).1 in
    let l : c.view-last.result.1 < length c.args.store.now = (let top = c.requires.at in omega arith) in
    search rules

pub returns-in_err-last-clause-extends : goal.returns-in_err-last-clause-extends
returns-in_err-last-clause-extends t c = extends-trans _ _ _ c.loop-s.invariant.early c.copied-2.ensures.extends

pub cut-requires-clause-below : goal.cut-requires-clause-below
cut-requires-clause-below t c =
    (steps-all c.args.store.now c.loop-s.fresh c.copied-2.new.fresh c.view-last.result.0.now c.loop-s.s-index c.loop-s.copies.items c.loop-s.invariant.steps c.loop-s-test.false c.copied-2.ensures.extends).below

pub returns-in_err-whole-clause-extends : goal.returns-in_err-whole-clause-extends
returns-in_err-whole-clause-extends t c = extends-trans _ _ _ c.loop-s.invariant.early (extends-trans _ _ _ c.copied-2.ensures.extends c.cut.ensures.extends)

pub returns-in_err-note-clause-extends : goal.returns-in_err-note-clause-extends
returns-in_err-note-clause-extends t c = extends-trans _ _ _ c.loop-s.invariant.early (extends-trans _ _ _ c.copied-2.ensures.extends c.cut.ensures.extends)

pub returns-clause-extends : goal.returns-clause-extends
returns-clause-extends t c = extends-trans _ _ _ c.loop-s.invariant.early (extends-trans _ _ _ c.copied-2.ensures.extends c.cut.ensures.extends)

pub returns-clause-held : goal.returns-clause-held
returns-clause-held t c = λ p. copied_cut c.args.store.now c.copied-2.new.fresh c.cut.new.self c.args.at c.in-Some-cut_field.field c.view-last.result.1 c.in_ok-last.last c.in_ok-whole.whole c.view-last.result.0.now c.loop-s.copies.items p
    (steps-all c.args.store.now c.loop-s.fresh c.copied-2.new.fresh c.view-last.result.0.now c.loop-s.s-index c.loop-s.copies.items c.loop-s.invariant.steps c.loop-s-test.false c.copied-2.ensures.extends)
    c.in_ok-last.ensures.held (c.view-last.ensures.held p) (c.in_ok-whole.ensures.held p)

pub returns-clause-known : goal.returns-clause-known
returns-clause-known t c = copied-note c.args.store.now c.cut.new.self c.copied-2.new.memo c.note.new.self 0 c.args.at c.in_ok-whole.whole
    (copied-extends c.args.store.now c.copied-2.new.fresh c.cut.new.self c.copied-2.new.memo c.cut.ensures.extends c.in_ok-last.ensures.known) c.in_ok-note.ensures c.in_ok-whole.ensures.inside
    (λ p. copied_cut c.args.store.now c.copied-2.new.fresh c.cut.new.self c.args.at c.in-Some-cut_field.field c.view-last.result.1 c.in_ok-last.last c.in_ok-whole.whole c.view-last.result.0.now c.loop-s.copies.items p
    (steps-all c.args.store.now c.loop-s.fresh c.copied-2.new.fresh c.view-last.result.0.now c.loop-s.s-index c.loop-s.copies.items c.loop-s.invariant.steps c.loop-s-test.false c.copied-2.ensures.extends)
    c.in_ok-last.ensures.held (c.view-last.ensures.held p) (c.in_ok-whole.ensures.held p))
