use Rattle.std.proofs.Common.{sym, ◌∙◌, subst}
use Rattle.std.proofs.lemmas.Option.{same_Some}
use Rattle.fws_exec.specs.declared.spot.Class.{Class}
use Rattle.fws_exec.specs.Divided.{seen_at}
use Rattle.fws_exec.specs.Hulls.{HasAt}
use Rattle.fws_exec.specs.Looks.{Shows}
use Rattle.fws_exec.proofs.sheet.Sheet.look.Goals as goal

pub returns : goal.returns
returns c d p got w here =
    subst (λ (k : Class). Shows c.look.result (seen_at c.args.errand.now.ground.site.now c.args.errand.now.ground.state c.args.errand.now.part k.progress p))
    (same_Some c.in_ok-class.class.now d (sym c.in_ok-class.ensures.0 ∙ got))
    (c.look.ensures p (c.hull_at-hull.ensures p (subst (λ hs. HasAt hs c.args.number p) (sym c.as_slice.ensures.value) (subst (λ n. HasAt c.args.self.now.hulls.items n p) here (c.requires.sheet.hulled p w)))))
