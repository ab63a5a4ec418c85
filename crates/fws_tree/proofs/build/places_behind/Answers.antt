use Rattle.std.proofs.Common.{[], ◌∷◌, ◌++◌, ◌∙◌, ap, sym, zero-add}
use Rattle.std.specs.List.{range_with_len}
use Rattle.fws_tree.proofs.Counted.{range_more}
use Rattle.fws_tree.proofs.build.places_behind.Goals as goal

pub loop-n-preserved : goal.loop-n-preserved
loop-n-preserved c = c.in_ok-push-in-Ok.ensures.items ∙ ap (λ ps. ps ++ c.in-Ok.place ∷ []) c.loop-n.invariant
    ∙ ap (λ z. c.args.first ∷ range_with_len 0 c.loop-n.n ++ z ∷ []) (c.in-Ok.ensures.1 ∙ sym (zero-add c.loop-n.n)) ∙ sym (ap (λ ps. c.args.first ∷ ps) (range_more 0 c.loop-n.n))
