use Rattle.std.proofs.Common.{refl, sym, ◌∙◌, subst}
use Rattle.std.proofs.lemmas.Result.{IfOk-weaker}
use Rattle.fws_tree.specs.Building.{AreDifferent}
use Rattle.fws_tree.specs.Held.{held_at}
use Rattle.fws_tree.proofs.MadeLeaves.{placed_leaf}
use Rattle.fws_tree.proofs.canvas.Canvas.tree.Goals as goal

pub finish-requires-clause-different : goal.finish-requires-clause-different
finish-requires-clause-different g c = subst AreDifferent (sym c.as_slice-leaves.ensures) c.in_ok-made.ensures.different

pub finish-requires-clause-places : goal.finish-requires-clause-places
finish-requires-clause-places g c = λ p w. (placed_leaf c.args.leaves.now c.in_ok-made.made.leaves c.in_ok-made.made.leaves c.as_slice-leaves.result.now c.in_ok-made.made.places.items c.as_slice-places.result.now (held_at c.args.self.now.store c.args.self.now.root p)
    (c.requires p w) c.in_ok-made.ensures.places refl c.as_slice-leaves.ensures c.as_slice-places.ensures.value).1

pub returns-clause-value : goal.returns-clause-value
returns-clause-value g c = IfOk-weaker c.finish.result _ _ (λ t is p w. is p w ∙ (placed_leaf c.args.leaves.now c.in_ok-made.made.leaves c.in_ok-made.made.leaves c.as_slice-leaves.result.now c.in_ok-made.made.places.items c.as_slice-places.result.now (held_at c.args.self.now.store c.args.self.now.root p)
    (c.requires p w) c.in_ok-made.ensures.places refl c.as_slice-leaves.ensures c.as_slice-places.ensures.value).0) c.finish.ensures.value
