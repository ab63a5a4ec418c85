use Rattle.std.proofs.Common.{rules, ◌≡◌, ◌<◌, ℕ, List, length, get_or, refl, sym, ◌∙◌, ap, arith}
use Rattle.std.proofs.lemmas.Option.{slice_get-get_or}
use Rattle.fws_tree.specs.declared.store.Step.{Step}
use Rattle.fws_tree.specs.declared.store.Cell.TheVariants.{Leaf}
use Rattle.fws_tree.specs.Held.{child_at, held_at}
use Rattle.fws_tree.proofs.Spreading.{grows-then, done-grows, done-more, spread_cut, spread_steps, spread_whole, spread_more, spread_all}
use Rattle.fws_tree.proofs.canvas.Canvas.+add_spread.Goals as goal

pub returns-in_default-clause-spread : goal.returns-in_default-clause-spread
returns-in_default-clause-spread t c = spread_whole c.args.self.now c.args.field c.args.value c.args.at _ c.add_held.new.ranges.items c.requires.field refl c.in_ok-add_held.ensures.held

pub returns-then-cut-field-clause-spread : goal.returns-then-cut-field-clause-spread
returns-then-cut-field-clause-spread t c = spread_whole c.args.self.now c.args.field c.args.value c.args.at _ c.add_held-then-cut-field.new.ranges.items c.requires.field refl c.in_ok-add_held-2.ensures.held

pub returns-then-cut-field-2-clause-spread : goal.returns-then-cut-field-2-clause-spread
returns-then-cut-field-2-clause-spread t c =
    let cells = c.args.self.now.store in
    let ss = c.view-last.result.0.now in
    let held : (p : List ℕ) → held_at cells c.args.at p ≡ held_at cells (child_at ss c.view-last.result.1 (get_or p c.args.field 0)) p =
    λ p. c.view-last.ensures.held p ∙ ap (λ f. held_at cells (child_at ss c.view-last.result.1 (get_or p f 0)) p) c.if-cut-field-2.true in
    spread_steps c.args.self.now c.args.field c.args.value c.args.at c.view-last.result.1 _ ss c.add_steps.new.ranges.items c.requires.field refl held c.in_ok-add_steps.ensures.held

pub returns-then-cut-field-2-clause-done : goal.returns-then-cut-field-2-clause-done
returns-then-cut-field-2-clause-done t c =
    done-more c.args.self.now c.args.field c.args.value c.args.at c.args.done.now c.insert.new.self c.add_steps.new.ranges.items
    (done-grows c.args.self.now c.args.field c.args.value c.args.done.now c.args.ranges.now.items c.add_steps.new.ranges.items c.in_ok-add_steps.ensures.grown c.requires.done)
    c.in_ok-insert.ensures.updates (returns-then-cut-field-2-clause-spread t c)

pub returns-in_default-clause-done : goal.returns-in_default-clause-done
returns-in_default-clause-done t c = done-grows c.args.self.now c.args.field c.args.value c.args.done.now c.args.ranges.now.items c.add_held.new.ranges.items c.in_ok-add_held.ensures.grown c.requires.done

pub returns-then-cut-field-clause-done : goal.returns-then-cut-field-clause-done
returns-then-cut-field-clause-done t c = done-grows c.args.self.now c.args.field c.args.value c.args.done.now c.args.ranges.now.items c.add_held-then-cut-field.new.ranges.items c.in_ok-add_held-2.ensures.grown c.requires.done

pub add_spread-requires : goal.add_spread-requires
add_spread-requires t c =
    let d : Step = record { hi = 0; node = 0 } in
    let is = slice_get-get_or c.args.self.now.store c.args.at (Leaf 0) c.requires.at in
    let s : (get_or c.view-last.result.0.now c.loop-step.step-index d).node < c.args.at = (c.view-last.ensures.strict _ is (sym (c.cut_field.ensures _ is) ∙ c.in-Some.is)).0 c.loop-step.step-index d c.loop-step-test.true in
    let l : (get_or c.view-last.result.0.now c.loop-step.step-index d).node < length c.args.self.now.store = (let top = c.requires.at in omega arith) in
    search rules

pub loop-step-preserved : goal.loop-step-preserved
loop-step-preserved t c = record {
  lacking = c.in_ok-add_spread.ensures.lacking;
  ranges = c.in_ok-add_spread.ensures.ranges;
  grown = grows-then c.args.ranges.now.items c.loop-step.ranges.items c.add_spread.new.ranges.items c.loop-step.invariant.grown c.in_ok-add_spread.ensures.grown;
  done = c.in_ok-add_spread.ensures.done;
  steps = spread_more c.args.self.now c.args.field c.args.value c.loop-step.step-index (record { hi = 0; node = 0 }) c.view-last.result.0.now c.loop-step.ranges.items c.add_spread.new.ranges.items c.loop-step-test.true
      c.in_ok-add_spread.ensures.grown c.loop-step.invariant.steps c.in_ok-add_spread.ensures.spread;
}

pub add_spread-requires-2 : goal.add_spread-requires-2
add_spread-requires-2 t c =
    let is = slice_get-get_or c.args.self.now.store c.args.at (Leaf 0) c.requires.at in
    let s : c.view-last.result.1 < c.args.at = (c.view-last.ensures.strict _ is (sym (c.cut_field.ensures _ is) ∙ c.in-Some.is)).1 in
    let l : c.view-last.result.1 < length c.args.self.now.store = (let top = c.requires.at in omega arith) in
    search rules

pub returns-clause-spread : goal.returns-clause-spread
returns-clause-spread t c =
    spread_cut c.args.self.now c.args.field c.args.value c.args.at c.in-Some.cut c.view-last.result.1 c.view-last.result.0.now c.add_spread-2.new.ranges.items c.view-last.ensures.held
    (spread_all c.args.self.now c.args.field c.args.value c.loop-step.step-index c.view-last.result.0.now c.loop-step.ranges.items c.add_spread-2.new.ranges.items c.loop-step-test.false c.in_ok-add_spread-2.ensures.grown c.loop-step.invariant.steps)
    c.in_ok-add_spread-2.ensures.spread

pub returns-clause-grown : goal.returns-clause-grown
returns-clause-grown t c = grows-then c.args.ranges.now.items c.loop-step.ranges.items c.add_spread-2.new.ranges.items c.loop-step.invariant.grown c.in_ok-add_spread-2.ensures.grown

pub returns-clause-done : goal.returns-clause-done
returns-clause-done t c =
    done-more c.args.self.now c.args.field c.args.value c.args.at c.add_spread-2.new.done c.insert-2.new.self c.add_spread-2.new.ranges.items c.in_ok-add_spread-2.ensures.done c.in_ok-insert-2.ensures.updates
    (returns-clause-spread t c)
