use Rattle.std.proofs.Common.{sym, ◌∙◌, ap, subst}
use Rattle.fws_box.specs.Sides.{sides_have, IsWithin}
use Rattle.fws_net.specs.Points.{tops_of}
use Rattle.fws_exec.specs.Hulls.{HasAt}
use Rattle.fws_exec.specs.Sheets.{among, tops_in, class_at}
use Rattle.fws_exec.proofs.Dividing.{in_whole}
use Rattle.fws_exec.proofs.sheet.Sheet.bounded.Goals as goal

pub returns-clause-covers : goal.returns-clause-covers
returns-clause-covers c p w a =
    let inside : IsWithin (tops_in c.args.self.now) p = subst (λ ts. IsWithin ts p) (sym c.requires.tops) w in
    c.in_ok-area.ensures.covers p
    (c.hull_of-hull.ensures (class_at c.args.self.now p) p (ap (λ ns. among ns (class_at c.args.self.now p)) c.as_slice-2.ensures.value ∙ a) (subst (λ hs. HasAt hs (class_at c.args.self.now p) p) (sym c.as_slice.ensures.value) (c.requires.sheet.hulled p inside)))
    (ap (λ s. sides_have s p) c.requires.ground.whole ∙ in_whole (tops_of c.args.ground.now.site.now) p w)
