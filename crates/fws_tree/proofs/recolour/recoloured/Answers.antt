use Rattle.std.proofs.Common.{ℕ, refl}
use Rattle.std.proofs.lemmas.Result.{IfOk-weaker}
use Rattle.fws_tree.specs.Held.{held_at}
use Rattle.fws_tree.specs.Recoloured.{IsRecoloured}
use Rattle.fws_tree.proofs.Cells.{held-extends}
use Rattle.fws_tree.proofs.Covering.{masks-store}
use Rattle.fws_tree.proofs.Merging.{given-same}
use Rattle.fws_tree.proofs.recolour.recoloured.Goals as goal

pub returns-in_err-stay-clause-masks : goal.returns-in_err-stay-clause-masks
returns-in_err-stay-clause-masks g c = masks-store c.args.values.now c.args.store.now c.intern.new.self c.args.skips.masks.now c.intern.ensures.extends c.requires.masks

pub recoloured_but-requires-clause-masks : goal.recoloured_but-requires-clause-masks
recoloured_but-requires-clause-masks g c = masks-store c.args.values.now c.args.store.now c.intern.new.self c.args.skips.masks.now c.intern.ensures.extends c.requires.masks

pub returns-clause-recoloured : goal.returns-clause-recoloured
returns-clause-recoloured g c =
    let moves : ℕ → ℕ → ℕ → Type 0 = g.M.Moves.moves c.recoloured_but.new.by in
    IfOk-weaker c.recoloured_but.result _ _ (λ r e p. given-same (IsRecoloured moves c.args.values.now c.args.skips.wanted)
    (held_at c.intern.new.self c.args.root p) (held_at c.intern.new.self c.args.marked p) (held_at c.recoloured_but.new.store r p) (held_at c.args.store.now c.args.root p) (held_at c.args.store.now c.args.marked p) (held_at c.recoloured_but.new.store r p)
    (held-extends c.args.store.now c.intern.new.self c.args.root p c.intern.ensures.extends c.requires.root) (held-extends c.args.store.now c.intern.new.self c.args.marked p c.intern.ensures.extends c.requires.marked) refl (e p))
    c.recoloured_but.ensures.recoloured
