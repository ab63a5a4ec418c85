use Rattle.std.proofs.Common.{◌<◌, ℕ, List, length, refl, sym, ◌∙◌, subst, arith}
use Rattle.fws_box.specs.Sides.{IsWithin}
use Rattle.fws_tree.specs.Held.{held_at}
use Rattle.fws_tree.specs.Painted.{value_at}
use Rattle.fws_tree.specs.Bits.{AreMasks}
use Rattle.fws_tree.specs.Building.{Extends}
use Rattle.fws_tree.specs.Recoloured.{IsRecoloured}
use Rattle.fws_tree.proofs.Cells.{extends-refl, extends-trans, length-extends, held-extends}
use Rattle.fws_tree.proofs.Covering.{masks-store}
use Rattle.fws_tree.proofs.Merging.{given-same}
use Rattle.fws_tree.proofs.Recolouring.{still_held}
use Rattle.fws_tree.proofs.canvas.Canvas.recolour.Goals as goal

pub invariant_of-self-in-Break-branch-3 : goal.invariant_of-self-in-Break-branch-3
invariant_of-self-in-Break-branch-3 g c =
    let longer = length-extends c.collect_grown.new.self.store c.marked_cell.new.store c.marked_cell.ensures.extends in
    let root = c.collect_grown.new.self.inside in
    record {
      twelve = c.collect_grown.new.self.twelve;
      ordered = c.marked_cell.ensures.ordered;
      inside = (let l : c.collect_grown.new.self.root < length c.marked_cell.new.store = omega arith in l);
      masked = masks-store c.collect_grown.new.self.values c.collect_grown.new.self.store c.marked_cell.new.store c.catch_up.new.masks.items c.marked_cell.ensures.extends c.catch_up.ensures;
    }

pub returns-in_err-marked-clause-unchanged : goal.returns-in_err-marked-clause-unchanged
returns-in_err-marked-clause-unchanged g c = still_held _ c.collect_grown.new.self.store c.marked_cell.new.store c.collect_grown.new.self.root (value_at c.args.self.now) c.marked_cell.ensures.extends c.collect_grown.new.self.inside
    c.collect_grown.ensures.value

pub recoloured-requires-clause-masks : goal.recoloured-requires-clause-masks
recoloured-requires-clause-masks g c = subst (λ (ms : List ℕ). AreMasks c.collect_grown.new.self.values c.marked_cell.new.store ms) (sym c.as_slice.ensures.value)
    (masks-store c.collect_grown.new.self.values c.collect_grown.new.self.store c.marked_cell.new.store c.catch_up.new.masks.items c.marked_cell.ensures.extends c.catch_up.ensures)

pub invariant_of-self-in-Break-branch-4 : goal.invariant_of-self-in-Break-branch-4
invariant_of-self-in-Break-branch-4 g c =
    let e = extends-trans c.collect_grown.new.self.store c.marked_cell.new.store c.recoloured.new.store c.marked_cell.ensures.extends c.recoloured.ensures.extends in
    let longer = length-extends c.collect_grown.new.self.store c.recoloured.new.store e in
    let root = c.collect_grown.new.self.inside in
    record {
      twelve = c.collect_grown.new.self.twelve;
      ordered = c.recoloured.ensures.ordered;
      inside = (let l : c.collect_grown.new.self.root < length c.recoloured.new.store = omega arith in l);
      masked = subst (λ (ms : List ℕ). AreMasks c.recoloured.new.values c.recoloured.new.store ms) c.as_slice.ensures.value c.recoloured.ensures.masks;
    }

pub returns-in_err-root-clause-unchanged : goal.returns-in_err-root-clause-unchanged
returns-in_err-root-clause-unchanged g c = still_held _ c.collect_grown.new.self.store c.recoloured.new.store c.collect_grown.new.self.root (value_at c.args.self.now)
    (extends-trans c.collect_grown.new.self.store c.marked_cell.new.store c.recoloured.new.store c.marked_cell.ensures.extends c.recoloured.ensures.extends) c.collect_grown.new.self.inside c.collect_grown.ensures.value

pub invariant_of-self-2 : goal.invariant_of-self-2
invariant_of-self-2 g c = record {
  twelve = c.collect_grown.new.self.twelve;
  ordered = c.recoloured.ensures.ordered;
  inside = c.in_ok-root.ensures.inside;
  masked = subst (λ (ms : List ℕ). AreMasks c.recoloured.new.values c.recoloured.new.store ms) c.as_slice.ensures.value c.recoloured.ensures.masks;
}

pub returns-in_err-collect_grown-clause-values : goal.returns-in_err-collect_grown-clause-values
returns-in_err-collect_grown-clause-values g c = subst (λ (vs : List ℕ). Extends vs c.collect_grown.new.self.values) c.collect_grown.ensures.values (extends-refl c.collect_grown.new.self.values)

pub returns-in_err-catch_up-clause-values : goal.returns-in_err-catch_up-clause-values
returns-in_err-catch_up-clause-values g c = subst (λ (vs : List ℕ). Extends vs c.collect_grown.new.self.values) c.collect_grown.ensures.values (extends-refl c.collect_grown.new.self.values)

pub returns-in_err-marked-clause-values : goal.returns-in_err-marked-clause-values
returns-in_err-marked-clause-values g c = subst (λ (vs : List ℕ). Extends vs c.collect_grown.new.self.values) c.collect_grown.ensures.values (extends-refl c.collect_grown.new.self.values)

pub returns-in_err-root-clause-values : goal.returns-in_err-root-clause-values
returns-in_err-root-clause-values g c = subst (λ (vs : List ℕ). Extends vs c.recoloured.new.values) c.collect_grown.ensures.values c.recoloured.ensures.values

pub returns-clause-values : goal.returns-clause-values
returns-clause-values g c = subst (λ (vs : List ℕ). Extends vs c.recoloured.new.values) c.collect_grown.ensures.values c.recoloured.ensures.values

pub returns-clause-recoloured : goal.returns-clause-recoloured
returns-clause-recoloured g c = λ p w.
    let moves : ℕ → ℕ → ℕ → Type 0 = g.M.Moves.moves c.recoloured.new.by in
    let old : ℕ = held_at c.marked_cell.new.store c.collect_grown.new.self.root p in
    let label : ℕ = held_at c.marked_cell.new.store c.in_ok-marked.marked p in
    let new : ℕ = held_at c.recoloured.new.store c.in_ok-root.root p in
    let within : IsWithin c.collect_grown.new.self.tops p = subst (λ (ts : List ℕ). IsWithin ts p) (sym c.collect_grown.ensures.tops) w in
    given-same (IsRecoloured moves c.args.self.now.values c.args.wanted) old label new (value_at c.args.self.now p) _ new
    (held-extends c.collect_grown.new.self.store c.marked_cell.new.store c.collect_grown.new.self.root p c.marked_cell.ensures.extends c.collect_grown.new.self.inside ∙ c.collect_grown.ensures.value p)
    (c.in_ok-marked.ensures.held p within) refl (subst (λ (vs : List ℕ). IsRecoloured moves vs c.args.wanted old label new) c.collect_grown.ensures.values (c.in_ok-root.ensures.recoloured p))
