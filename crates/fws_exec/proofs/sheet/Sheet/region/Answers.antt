use Rattle.std.proofs.Common.{◌≡◌, true, length, sym, ◌∙◌, ap, subst}
use Rattle.fws_box.specs.Boxes.{sides_of}
use Rattle.fws_box.specs.Sides.{sides_have, IsWithin}
use Rattle.fws_net.specs.Points.{tops_of}
use Rattle.fws_exec.specs.Sheets.{tops_in}
use Rattle.fws_exec.proofs.Dividing.{in_whole, within_length}
use Rattle.fws_exec.proofs.sheet.Sheet.region.Goals as goal

pub returns-clause-within : goal.returns-clause-within
returns-clause-within c p twelve h = c.requires.ground.within p twelve (c.in_ok-area.ensures.within p twelve (c.in_ok-part.ensures.within p twelve h))

pub returns-clause-covers : goal.returns-clause-covers
returns-clause-covers c p w here =
    let twelve : length p ≡ 12 = within_length (tops_of c.args.ground.now.site.now) p w in
    let inside : IsWithin (tops_in c.args.self.now) p = subst (λ ts. IsWithin ts p) (sym c.requires.tops) w in
    let whole : sides_have (sides_of c.args.ground.now.area) p ≡ true = ap (λ s. sides_have s p) c.requires.ground.whole ∙ in_whole (tops_of c.args.ground.now.site.now) p w in
    c.in_ok-part.ensures.covers p twelve (subst (λ ts. IsWithin ts p) (sym c.narrowed.ensures.tops) inside) (c.narrowed.ensures.same p ∙ here)
    (c.in_ok-area.ensures.covers p twelve inside here whole)
