use Rattle.std.proofs.Common.{◌≡◌, List, ◌∙◌, ap}
use Rattle.std.proofs.lemmas.Result.{IfOk-weaker}
use Rattle.fws_net.specs.declared.condition.Lit.{Lit}
use Rattle.fws_pf_put_filter.specs.declared.tested.Tested.TheVariants.{Field}
use Rattle.fws_pf_put_filter.specs.Conds.{conds_for, AreConds}
use Rattle.fws_pf_put_filter.proofs.Conding.{field_conds}
use Rattle.fws_pf_put_filter.proofs.conds.by_field.Goals as goal

pub returns : goal.returns
returns c =
    let field = c.args.field in
    let lits = c.in_ok-lits.lits in
    let P : List (List Lit) → Type 0 = λ conds. conds ≡ conds_for field c.as_slice.result.now in
    let Q : List (List Lit) → Type 0 = λ conds. AreConds (Field field) c.args.set.now conds in
    IfOk-weaker _ P Q (λ conds is. field_conds field c.args.set.now lits conds c.in_ok-lits.ensures (is ∙ ap (λ (l : List Lit). conds_for field l) c.as_slice.ensures)) c.conds_of.ensures
