use Rattle.std.proofs.Common.{slice_get, ◌∙◌, ap}
use Rattle.std.proofs.lemmas.Result.{IfOk-weaker}
use Rattle.fws_tree.specs.Held.{held_at}
use Rattle.fws_tree.proofs.Cells.{held-extends}
use Rattle.fws_tree.proofs.pairing.paired_trees.Goals as goal

pub returns-clause-held : goal.returns-clause-held
returns-clause-held g c = IfOk-weaker c.paired.result _ _ (λ r is p w.
    let x = c.in_ok-a.ensures.held p w in (
      held_at c.load_places-2.new.store c.in_ok-a.a p,
      held_at c.load_places-2.new.store c.in_ok-b.b p,
      is p,
      (
        x.0,
        x.1,
        ap (slice_get c.args.one.now.leaves.now) (held-extends c.load_places.new.store c.load_places-2.new.store c.in_ok-a.a p c.load_places-2.ensures.extends c.in_ok-a.ensures.inside) ∙ x.2,
      ),
      c.in_ok-b.ensures.held p w,
    )) c.paired.ensures.held
