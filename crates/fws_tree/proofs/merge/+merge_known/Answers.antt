use Rattle.std.proofs.Common.{arith, rules, ℕ, ◌+◌, ◌<◌, ◌≤◌, List, get_or, length, slice_get, sym, subst}
use Rattle.fws_tree.specs.declared.narrow.Part.{Part}
use Rattle.fws_tree.specs.declared.store.Step.{Step}
use Rattle.fws_tree.specs.Merged.{IsMerged}
use Rattle.fws_tree.specs.Parts.{own_steps, all_steps}
use Rattle.fws_tree.proofs.Asking.{own_same}
use Rattle.fws_tree.proofs.Cells.{extends-refl, extends-trans, length-extends}
use Rattle.fws_tree.proofs.Merging.{merged-none, kept-none, part_at, merged-part, kept-part, merged-rest, kept-rest, merged_cut, kept_cut, merged_earlier, no_cut, whole_merged}
use Rattle.fws_tree.proofs.Known.{known-extends, known-note, skip-extends, stay-extends}
use Rattle.fws_tree.proofs.merge.+merge_known.Given.{Over}
use Rattle.fws_tree.proofs.merge.+merge_known.Goals as goal

pub unreachable-requires : goal.unreachable-requires
unreachable-requires g t c =
    let longer = length-extends _ _ c.merged_early.ensures.extends in
    let la = c.requires.a in
    let lb = c.requires.b in
    no_cut c.merged_early.new.store c.args.a c.args.b _ _ c.in_ok-r.field-0 _ c.in_ok-r.ensures.found c.in_default.is (omega arith) (omega arith)
    c.cut_field.ensures c.cut_field-2.ensures c.in_default-lesser.ensures.0 c.in_default-lesser.ensures.1

pub loop-part-init : goal.loop-part-init
loop-part-init g t c =
    let more = g.met.M.Merging.kept c.args.by.now c.merged_early.new.by c.merged_early.ensures.later in
    record {
      sound = c.in_ok-r.ensures.sound;
      later = c.merged_early.ensures.later;
      skips = skip-extends (g.M.Merging.gives c.args.by.now) (g.M.Merging.gives c.merged_early.new.by) c.args.store.now c.merged_early.new.store c.args.skips.masks.now c.args.skips.wanted more c.merged_early.ensures.extends c.requires.skips;
      stays = stay-extends (g.M.Merging.gives c.args.by.now) (g.M.Merging.gives c.merged_early.new.by) c.args.store.now c.merged_early.new.store c.args.skips.stay more c.merged_early.ensures.extends c.requires.stays;
      ordered = c.merged_early.ensures.ordered;
      early = c.merged_early.ensures.extends;
      extends = extends-refl c.merged_early.new.store;
      built = rw c.in_ok-steps.ensures.items (merged-none (g.M.Merging.gives c.merged_early.new.by) c.merged_early.new.store);
      kept = λ e. kept-none (g.M.Merging.gives c.merged_early.new.by) c.merged_early.new.store;
      known = c.in_ok-r.ensures.known;
    }

pub add_run-requires-clause-inside : goal.add_run-requires-clause-inside
add_run-requires-clause-inside g t c =
    let d : Part = record { from = 0; to = 0; hi = 0; left = 0; right = 0 } in
    let longer = length-extends _ _ c.merged_early.ensures.extends in
    let la = c.requires.a in
    let inside : c.args.a < length c.merged_early.new.store = omega arith in
    let part = part_at c.merged_early.new.store c.args.skips.masks.now c.args.skips.wanted c.args.skips.stay c.args.a c.args.b c.in-Some-lesser.field (own_steps c.in-Some-lesser.field (slice_get c.merged_early.new.store c.args.a))
    c.deref-part-items.result.now c.in_ok-met.met.parts.items c.loop-part.part-index c.in_ok-met.met.from c.in_ok-met.met.to c.in_ok-met.met.left c.in_ok-met.met.right d c.in_ok-met.ensures c.deref-part-items.ensures.value c.loop-part-test.true in
    subst (λ (xs : List Step). (get_or c.deref-part-items.result.now c.loop-part.part-index d).to ≤ length xs) (sym (own_same c.merged_early.new.store c.loop-part.store c.args.a c.in-Some-lesser.field c.loop-part.invariant.extends inside)) part.order.1

pub add_run-requires-2-clause-inside : goal.add_run-requires-2-clause-inside
add_run-requires-2-clause-inside g t c =
    let longer = length-extends _ _ c.merged_early.ensures.extends in
    let la = c.requires.a in
    let inside : c.args.a < length c.merged_early.new.store = omega arith in
    subst (λ (xs : List Step). c.in_ok-met.met.to ≤ length xs) (sym (own_same c.merged_early.new.store c.loop-part.store c.args.a c.in-Some-lesser.field c.loop-part.invariant.extends inside)) c.in_ok-met.ensures.order.1

pub merge_known-requires : goal.merge_known-requires
merge_known-requires g t c =
    let d : Part = record { from = 0; to = 0; hi = 0; left = 0; right = 0 } in
    let part = part_at c.merged_early.new.store c.args.skips.masks.now c.args.skips.wanted c.args.skips.stay c.args.a c.args.b c.in-Some-lesser.field (own_steps c.in-Some-lesser.field (slice_get c.merged_early.new.store c.args.a))
    c.deref-part-items.result.now c.in_ok-met.met.parts.items c.loop-part.part-index c.in_ok-met.met.from c.in_ok-met.met.to c.in_ok-met.met.left c.in_ok-met.met.right d c.in_ok-met.ensures c.deref-part-items.ensures.value c.loop-part-test.true in
    let longer = length-extends c.merged_early.new.store c.loop-part.store c.loop-part.invariant.extends in
    let left : (get_or c.deref-part-items.result.now c.loop-part.part-index d).left < length c.loop-part.store = (let l = part.below.0 in omega arith) in
    let right : (get_or c.deref-part-items.result.now c.loop-part.part-index d).right < length c.loop-part.store = (let l = part.below.1 in omega arith) in
    let less : (get_or c.deref-part-items.result.now c.loop-part.part-index d).left + (get_or c.deref-part-items.result.now c.loop-part.part-index d).right < c.args.a + c.args.b = part.below.2 in
    search rules

pub merge_known-requires-2 : goal.merge_known-requires-2
merge_known-requires-2 g t c =
    let longer = length-extends c.merged_early.new.store c.loop-part.store c.loop-part.invariant.extends in
    let left : c.in_ok-met.met.left < length c.loop-part.store = (let l = c.in_ok-met.ensures.last.0 in omega arith) in
    let right : c.in_ok-met.met.right < length c.loop-part.store = (let l = c.in_ok-met.ensures.last.1 in omega arith) in
    let less : c.in_ok-met.met.left + c.in_ok-met.met.right < c.args.a + c.args.b = c.in_ok-met.ensures.last.2 in
    search rules

pub returns-in_err-node-clause-later : goal.returns-in_err-node-clause-later
returns-in_err-node-clause-later g t c = g.met.M.Merging.then c.args.by.now c.loop-part.by c.merge_known.new.by c.loop-part.invariant.later c.merge_known.ensures.later

pub returns-in_err-node-clause-extends : goal.returns-in_err-node-clause-extends
returns-in_err-node-clause-extends g t c = extends-trans c.args.store.now c.loop-part.store c.merge_known.new.store c.loop-part.invariant.early c.merge_known.ensures.extends

pub returns-in_err-add_step-clause-later : goal.returns-in_err-add_step-clause-later
returns-in_err-add_step-clause-later g t c = g.met.M.Merging.then c.args.by.now c.loop-part.by c.merge_known.new.by c.loop-part.invariant.later c.merge_known.ensures.later

pub returns-in_err-add_step-clause-extends : goal.returns-in_err-add_step-clause-extends
returns-in_err-add_step-clause-extends g t c = extends-trans c.args.store.now c.loop-part.store c.merge_known.new.store c.loop-part.invariant.early c.merge_known.ensures.extends

pub loop-part-preserved : goal.loop-part-preserved
loop-part-preserved g t c =
    let d : Part = record { from = 0; to = 0; hi = 0; left = 0; right = 0 } in
    let r : ℕ → ℕ → ℕ → Type 0 = g.M.Merging.gives c.loop-part.by in
    let s : ℕ → ℕ → ℕ → Type 0 = g.M.Merging.gives c.merge_known.new.by in
    let xs : List Step = own_steps c.in-Some-lesser.field (slice_get c.merged_early.new.store c.args.a) in
    let start = length-extends _ _ c.merged_early.ensures.extends in
    let la = c.requires.a in
    let inside : c.args.a < length c.merged_early.new.store = omega arith in
    let own = own_same c.merged_early.new.store c.loop-part.store c.args.a c.in-Some-lesser.field c.loop-part.invariant.extends inside in
    let part = part_at c.merged_early.new.store c.args.skips.masks.now c.args.skips.wanted c.args.skips.stay c.args.a c.args.b c.in-Some-lesser.field xs
    c.deref-part-items.result.now c.in_ok-met.met.parts.items c.loop-part.part-index c.in_ok-met.met.from c.in_ok-met.met.to c.in_ok-met.met.left c.in_ok-met.met.right d c.in_ok-met.ensures c.deref-part-items.ensures.value c.loop-part-test.true in
    let more = g.met.M.Merging.kept c.loop-part.by c.merge_known.new.by c.merge_known.ensures.later in
    record {
      sound = c.in_ok-node.ensures.sound;
      later = g.met.M.Merging.then c.args.by.now c.loop-part.by c.merge_known.new.by c.loop-part.invariant.later c.merge_known.ensures.later;
      skips = skip-extends r s c.loop-part.store c.merge_known.new.store c.args.skips.masks.now c.args.skips.wanted more c.merge_known.ensures.extends c.loop-part.invariant.skips;
      stays = stay-extends r s c.loop-part.store c.merge_known.new.store c.args.skips.stay more c.merge_known.ensures.extends c.loop-part.invariant.stays;
      ordered = c.merge_known.ensures.ordered;
      early = extends-trans c.args.store.now c.loop-part.store c.merge_known.new.store c.loop-part.invariant.early c.merge_known.ensures.extends;
      extends = extends-trans c.merged_early.new.store c.loop-part.store c.merge_known.new.store c.loop-part.invariant.extends c.merge_known.ensures.extends;
      built = merged-part r s c.merged_early.new.store c.loop-part.store c.merge_known.new.store c.args.skips.masks.now c.args.skips.wanted c.args.skips.stay c.args.a c.args.b xs
          (own_steps c.in-Some-lesser.field (slice_get c.loop-part.store c.args.a)) c.deref-part-items.result.now c.loop-part.part-index d
          c.loop-part.steps.items c.add_run.new.steps.items c.add_step.new.steps.items c.in_ok-node.node more c.loop-part-test.true c.loop-part.invariant.extends c.merge_known.ensures.extends own
          c.loop-part.invariant.skips c.loop-part.invariant.stays c.in_ok-met.ensures.nodes part c.loop-part.invariant.built c.in_ok-add_run.ensures.below c.in_ok-add_run.ensures.same
          c.in_ok-node.ensures.merged c.in_ok-node.ensures.inside c.in_ok-add_step.ensures.below c.in_ok-add_step.ensures.same;
      kept = λ e.
          let h = c.stays-same.ensures e in
          kept-part r s c.merged_early.new.store c.loop-part.store c.merge_known.new.store c.args.skips.masks.now c.args.skips.wanted c.args.skips.stay c.args.a c.args.b xs c.deref-part-items.result.now c.loop-part.part-index d
          c.in_ok-node.node more c.loop-part-test.true c.loop-part.invariant.extends c.merge_known.ensures.extends c.loop-part.invariant.skips c.loop-part.invariant.stays c.in_ok-met.ensures.nodes part
          (c.loop-part.invariant.kept h.0) c.in_ok-node.ensures.merged h.1;
      known = c.in_ok-node.ensures.known;
    }

pub returns-in_err-last-clause-later : goal.returns-in_err-last-clause-later
returns-in_err-last-clause-later g t c = g.met.M.Merging.then c.args.by.now c.loop-part.by c.merge_known-2.new.by c.loop-part.invariant.later c.merge_known-2.ensures.later

pub returns-in_err-last-clause-extends : goal.returns-in_err-last-clause-extends
returns-in_err-last-clause-extends g t c = extends-trans c.args.store.now c.loop-part.store c.merge_known-2.new.store c.loop-part.invariant.early c.merge_known-2.ensures.extends

pub cut_or_same-requires-clause-below : goal.cut_or_same-requires-clause-below
cut_or_same-requires-clause-below g t c =
    let start = length-extends _ _ c.merged_early.ensures.extends in
    let la = c.requires.a in
    let inside : c.args.a < length c.merged_early.new.store = omega arith in
    let own = own_same c.merged_early.new.store c.loop-part.store c.args.a c.in-Some-lesser.field c.loop-part.invariant.extends inside in
    let more = g.met.M.Merging.kept c.loop-part.by c.merge_known-2.new.by c.merge_known-2.ensures.later in
    (merged-rest (g.M.Merging.gives c.loop-part.by) (g.M.Merging.gives c.merge_known-2.new.by) c.merged_early.new.store c.loop-part.store c.merge_known-2.new.store c.args.skips.masks.now c.args.skips.wanted c.args.skips.stay
    c.args.a c.args.b c.in-Some-lesser.field (own_steps c.in-Some-lesser.field (slice_get c.merged_early.new.store c.args.a)) (own_steps c.in-Some-lesser.field (slice_get c.loop-part.store c.args.a)) c.deref-part-items.result.now c.in_ok-met.met.parts.items c.loop-part.part-index
    c.in_ok-met.met.from c.in_ok-met.met.to c.in_ok-met.met.left c.in_ok-met.met.right c.loop-part.steps.items c.add_run-2.new.steps.items more c.loop-part.invariant.extends c.merge_known-2.ensures.extends own
    c.loop-part.invariant.skips c.loop-part.invariant.stays c.in_ok-met.ensures c.loop-part.invariant.built c.loop-part-test.false c.deref-part-items.ensures.value c.in_ok-add_run-2.ensures.below c.in_ok-add_run-2.ensures.same).below

pub cut_or_same-requires-clause-a : goal.cut_or_same-requires-clause-a
cut_or_same-requires-clause-a g t c =
    let longer = length-extends _ _ (extends-trans c.args.store.now c.loop-part.store c.merge_known-2.new.store c.loop-part.invariant.early c.merge_known-2.ensures.extends) in
    let la = c.requires.a in
    omega arith

pub returns-in_err-whole-clause-later : goal.returns-in_err-whole-clause-later
returns-in_err-whole-clause-later g t c = g.met.M.Merging.then c.args.by.now c.loop-part.by c.merge_known-2.new.by c.loop-part.invariant.later c.merge_known-2.ensures.later

pub returns-in_err-whole-clause-extends : goal.returns-in_err-whole-clause-extends
returns-in_err-whole-clause-extends g t c = extends-trans c.args.store.now c.loop-part.store c.cut_or_same.new.store c.loop-part.invariant.early (extends-trans c.loop-part.store c.merge_known-2.new.store c.cut_or_same.new.store c.merge_known-2.ensures.extends c.cut_or_same.ensures.extends)

pub returns-in_err-note-clause-later : goal.returns-in_err-note-clause-later
returns-in_err-note-clause-later g t c = g.met.M.Merging.then c.args.by.now c.loop-part.by c.merge_known-2.new.by c.loop-part.invariant.later c.merge_known-2.ensures.later

pub returns-in_err-note-clause-extends : goal.returns-in_err-note-clause-extends
returns-in_err-note-clause-extends g t c = extends-trans c.args.store.now c.loop-part.store c.cut_or_same.new.store c.loop-part.invariant.early (extends-trans c.loop-part.store c.merge_known-2.new.store c.cut_or_same.new.store c.merge_known-2.ensures.extends c.cut_or_same.ensures.extends)

pub returns-clause-sound : goal.returns-clause-sound
returns-clause-sound g t c = c.in_ok-last.ensures.sound

pub returns-clause-later : goal.returns-clause-later
returns-clause-later g t c = g.met.M.Merging.then c.args.by.now c.loop-part.by c.merge_known-2.new.by c.loop-part.invariant.later c.merge_known-2.ensures.later

pub returns-clause-extends : goal.returns-clause-extends
returns-clause-extends g t c = extends-trans c.args.store.now c.loop-part.store c.cut_or_same.new.store c.loop-part.invariant.early (extends-trans c.loop-part.store c.merge_known-2.new.store c.cut_or_same.new.store c.merge_known-2.ensures.extends c.cut_or_same.ensures.extends)

is_merged : (g : Over) (t : ℕ) (c : goal.After-drop-met-2 g t) → IsMerged (g.M.Merging.gives c.merge_known-2.new.by) c.args.store.now c.cut_or_same.new.store c.args.a c.args.b c.in_ok-whole.whole
is_merged g t c =
    let start = length-extends _ _ c.merged_early.ensures.extends in
    let la = c.requires.a in
    let inside : c.args.a < length c.merged_early.new.store = omega arith in
    let own = own_same c.merged_early.new.store c.loop-part.store c.args.a c.in-Some-lesser.field c.loop-part.invariant.extends inside in
    let s : ℕ → ℕ → ℕ → Type 0 = g.M.Merging.gives c.merge_known-2.new.by in
    let xs : List Step = own_steps c.in-Some-lesser.field (slice_get c.merged_early.new.store c.args.a) in
    let bs = all_steps xs c.in_ok-met.met.parts.items c.in_ok-met.met.from c.in_ok-met.met.to c.in_ok-met.met.right in
    let more = g.met.M.Merging.kept c.loop-part.by c.merge_known-2.new.by c.merge_known-2.ensures.later in
    let ends : IsMerged s c.merged_early.new.store c.merge_known-2.new.store c.in_ok-met.met.left c.in_ok-met.met.right c.in_ok-last.last =
    merged_earlier s c.merged_early.new.store c.loop-part.store c.merge_known-2.new.store c.in_ok-met.met.left c.in_ok-met.met.right c.in_ok-last.last c.loop-part.invariant.extends
    c.in_ok-met.ensures.last.0 c.in_ok-met.ensures.last.1 c.in_ok-last.ensures.merged in
    whole_merged s c.args.store.now c.merge_known-2.new.store c.cut_or_same.new.store c.args.a c.args.b c.in_ok-whole.whole c.in-Some-lesser.field c.in_ok-last.last c.add_run-2.new.steps.items
    c.stays-same-2.result c.in_ok-whole.ensures.held
    (λ e.
    let h = c.stays-same-2.ensures e in
    kept_cut s c.args.store.now c.merged_early.new.store c.merge_known-2.new.store c.args.a c.args.b c.in-Some-lesser.field c.in_ok-met.met.left c.in_ok-met.met.right c.in_ok-last.last bs
    c.merged_early.ensures.extends (extends-trans c.merged_early.new.store c.loop-part.store c.merge_known-2.new.store c.loop-part.invariant.extends c.merge_known-2.ensures.extends) c.requires.a c.requires.b
    c.in_ok-met.ensures.held_left c.in_ok-met.ensures.held_right c.in_ok-met.ensures.last.0
    (kept-rest (g.M.Merging.gives c.loop-part.by) s c.merged_early.new.store c.loop-part.store c.args.skips.masks.now c.args.skips.wanted c.args.skips.stay c.args.a c.args.b c.in-Some-lesser.field xs
    c.deref-part-items.result.now c.in_ok-met.met.parts.items c.loop-part.part-index c.in_ok-met.met.from c.in_ok-met.met.to c.in_ok-met.met.left c.in_ok-met.met.right more c.loop-part.invariant.extends
    c.loop-part.invariant.skips c.loop-part.invariant.stays c.in_ok-met.ensures (c.loop-part.invariant.kept h.0) c.loop-part-test.false c.deref-part-items.ensures.value)
    ends h.1)
    (λ held. merged_cut s c.args.store.now c.merged_early.new.store c.merge_known-2.new.store c.cut_or_same.new.store c.args.a c.args.b c.in-Some-lesser.field c.in_ok-met.met.left c.in_ok-met.met.right c.in_ok-last.last
    c.in_ok-whole.whole bs c.add_run-2.new.steps.items c.merged_early.ensures.extends c.requires.a c.requires.b c.in_ok-met.ensures.held_left c.in_ok-met.ensures.held_right
    (merged-rest (g.M.Merging.gives c.loop-part.by) s c.merged_early.new.store c.loop-part.store c.merge_known-2.new.store c.args.skips.masks.now c.args.skips.wanted c.args.skips.stay
    c.args.a c.args.b c.in-Some-lesser.field xs (own_steps c.in-Some-lesser.field (slice_get c.loop-part.store c.args.a)) c.deref-part-items.result.now c.in_ok-met.met.parts.items c.loop-part.part-index
    c.in_ok-met.met.from c.in_ok-met.met.to c.in_ok-met.met.left c.in_ok-met.met.right c.loop-part.steps.items c.add_run-2.new.steps.items more c.loop-part.invariant.extends c.merge_known-2.ensures.extends own
    c.loop-part.invariant.skips c.loop-part.invariant.stays c.in_ok-met.ensures c.loop-part.invariant.built c.loop-part-test.false c.deref-part-items.ensures.value c.in_ok-add_run-2.ensures.below c.in_ok-add_run-2.ensures.same)
    ends held)

pub returns-clause-merged : goal.returns-clause-merged
returns-clause-merged g t c = is_merged g t c

pub returns-clause-known : goal.returns-clause-known
returns-clause-known g t c =
    known-note (g.M.Merging.gives c.merge_known-2.new.by) c.args.store.now c.cut_or_same.new.store c.merge_known-2.new.memo c.note.new.self c.args.a c.args.b c.in_ok-whole.whole
    (known-extends (g.M.Merging.gives c.merge_known-2.new.by) (g.M.Merging.gives c.merge_known-2.new.by) c.merge_known-2.new.store c.cut_or_same.new.store c.merge_known-2.new.memo (λ x y z h. h) c.cut_or_same.ensures.extends c.in_ok-last.ensures.known)
    c.in_ok-note.ensures
    (extends-trans c.args.store.now c.loop-part.store c.cut_or_same.new.store c.loop-part.invariant.early (extends-trans c.loop-part.store c.merge_known-2.new.store c.cut_or_same.new.store c.merge_known-2.ensures.extends c.cut_or_same.ensures.extends))
    c.requires.a c.requires.b c.in_ok-whole.ensures.inside (is_merged g t c)
