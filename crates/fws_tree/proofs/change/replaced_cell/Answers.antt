use Rattle.std.proofs.Common.{◌∙◌, ap, cond}
use Rattle.std.proofs.lemmas.Result.{IfOk-weaker}
use Rattle.fws_box.specs.Sides.{sides_have}
use Rattle.fws_tree.specs.Held.{held_at}
use Rattle.fws_tree.proofs.Cells.{held-extends}
use Rattle.fws_tree.proofs.Replacing.{replaced_value}
use Rattle.fws_tree.specs.Changed.{changed_value}
use Rattle.fws_tree.proofs.change.replaced_cell.Goals as goal

pub returns-clause-held : goal.returns-clause-held
returns-clause-held c = IfOk-weaker c.merge.result _ _ (λ r e p w.
    replaced_value c.args.by c.merge.new.by (sides_have c.args.sides.now p) (held_at c.halves.new.store c.args.root p) (held_at c.halves.new.store c.in_ok-within.within p) (held_at c.merge.new.store r p) c.merge.ensures.later
    (c.in_ok-within.ensures.held p w ∙ ap (λ s. cond (sides_have s p) c.of_sets.result.label 0) c.of_sets.ensures.sides ∙ ap (λ l. cond (sides_have c.args.sides.now p) l 0) c.of_sets.ensures.label) (e p)
    ∙ ap (changed_value c.args.by.marked (sides_have c.args.sides.now p) c.args.by.value) (held-extends c.args.store.now c.halves.new.store c.args.root p c.halves.ensures.extends c.requires.root)) c.merge.ensures.merged
