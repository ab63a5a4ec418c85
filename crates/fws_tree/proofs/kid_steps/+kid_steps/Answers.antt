use Rattle.std.proofs.Common.{◌/◌, length, ◌∙◌, ap}
use Rattle.std.proofs.lemmas.Result.{IfOk-weaker}
use Rattle.fws_tree.specs.Held.{child_at, over_leaf}
use Rattle.fws_tree.specs.Loaded.{kid_number}
use Rattle.fws_tree.proofs.Loading.{number_halves}
use Rattle.fws_tree.proofs.kid_steps.+kid_steps.Goals as goal

pub returns : goal.returns
returns t c = IfOk-weaker c.join_cuts.result _ _ (λ r is x le. is x
    ∙ ap (λ m. over_leaf m (child_at c.in_ok-b.b.steps.items c.in_ok-b.b.last x)) (c.in_ok-a.ensures x le) ∙ ap (λ m. over_leaf (kid_number c.split_at.result.0.now x) m) (c.in_ok-b.ensures x le)
    ∙ number_halves c.args.kids.now c.split_at.result.0.now c.split_at.result.1.now (length c.args.kids.now / 2) x c.split_at.ensures.front c.split_at.ensures.back) c.join_cuts.ensures
