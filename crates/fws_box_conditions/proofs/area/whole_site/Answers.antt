use Rattle.std.proofs.Common.{ap, ◌∙◌}
use Rattle.std.proofs.lemmas.Result.{IfOk-weaker}
use Rattle.fws_box.specs.declared.pbox.PBox.{PBox}
use Rattle.fws_box.specs.Boxes.{sides_of}
use Rattle.fws_box.specs.Sides.{whole_sides}
use Rattle.fws_box_conditions.specs.Areas.{IsOfSite}
use Rattle.fws_box_conditions.proofs.Areas.{all_of_site}
use Rattle.fws_box_conditions.proofs.area.whole_site.Goals as goal

pub returns-clause-within : goal.returns-clause-within
returns-clause-within c =
    let site = c.args.site.now in
    let Q : PBox → Type 0 = λ b. IsOfSite site (sides_of b) in
    IfOk-weaker _ _ Q (λ b e. all_of_site site (sides_of b) (e ∙ ap whole_sides c.tops.ensures)) c.full.ensures
