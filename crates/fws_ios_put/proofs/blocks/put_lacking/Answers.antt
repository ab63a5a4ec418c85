use Rattle.std.proofs.Common.{false, not, refl}
use Rattle.fws_ios_put.specs.Choices.{truth}
use Rattle.fws_ios_put.proofs.Parts.{marked_as}
use Rattle.fws_ios_put.proofs.blocks.put_lacking.Goals as goal

pub returns : goal.returns
returns c =
    let put = c.in_ok-put_outside.ensures in (
      put.0,
      put.1,
      marked_as c.args.site.now false (truth c.in_ok-outside.outside.1) (λ x. not (truth c.args.plain.now.1 x)) (λ x. not (truth c.args.acked.now.1 x)) (λ x. not (truth c.args.plain.now.1 x)) put.0
          c.in_ok-outside.ensures.value (λ x w. refl) put.2,
    )
