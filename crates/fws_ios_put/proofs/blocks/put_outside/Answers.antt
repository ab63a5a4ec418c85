use Rattle.std.proofs.Common.{false, not, refl}
use Rattle.fws_ios_put.specs.Choices.{truth}
use Rattle.fws_ios_put.proofs.Parts.{marked_as}
use Rattle.fws_ios_put.proofs.blocks.put_outside.Goals as goal

pub returns : goal.returns
returns c =
    let put = c.in_ok-put_marked.ensures in (
      put.0,
      put.1,
      marked_as c.args.site.now false (truth c.args.outside.now.1) (truth c.in_ok-excused.excused.1) (truth c.args.outside.now.1) (λ x. not (truth c.args.plain.now.1 x)) put.0 (λ x w. refl)
          c.in_ok-excused.ensures.value put.2,
    )
