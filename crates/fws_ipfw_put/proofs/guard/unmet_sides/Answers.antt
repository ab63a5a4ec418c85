use Rattle.std.proofs.Common.{ℕ, List, [], ◌∷◌, ◌∙◌, ap, get_or}
use Rattle.fws_iv.specs.declared.iv.Iv.{Iv}
use Rattle.fws_box.specs.Sides.{whole_sides}
use Rattle.fws_ipfw_put.proofs.Unmet.{unmet_have}
use Rattle.fws_ipfw_put.proofs.guard.unmet_sides.Goals as goal

pub returns : goal.returns
returns c =
    let from_one : List ℕ → List Iv = λ tops. record { lo = 1; hi = get_or tops 0 0 } ∷ [] in
    unmet_have c.args.site.now c.in_ok-sides.sides c.in_ok-sides-2.field-0 c.in_ok-sides-3.field-0
    (c.in_ok-sides.ensures ∙ ap whole_sides c.tops-tops.ensures) (c.in_ok-sides-2.ensures ∙ ap from_one c.tops-tops.ensures) c.in_ok-sides-3.ensures
