use Rattle.std.proofs.Common.{Some, not, ap, ◌∙◌}
use Rattle.std.proofs.lemmas.Bool.{false≢true}
use Rattle.fws_ios_put.specs.Choices.{truth}
use Rattle.fws_ios_put.proofs.MadeTrees.{values_told}
use Rattle.fws_ios_put.proofs.Parts.{denied_block}
use Rattle.fws_ios_put.proofs.blocks.put_denied.Goals as goal

pub put_cover-requires-clause-needed_listed : goal.put_cover-requires-clause-needed_listed
put_cover-requires-clause-needed_listed c = values_told c.args.site.now c.in_ok-none.none c.in_ok-none.ensures.askable

pub put_cover-requires-clause-part : goal.put_cover-requires-clause-part
put_cover-requires-clause-part c = λ x w h. h

pub put_cover-requires-clause-tcp : goal.put_cover-requires-clause-tcp
put_cover-requires-clause-tcp c = λ marked. absurd (false≢true marked)

pub returns : goal.returns
returns c =
    let put = c.in_ok-put_cover.ensures in (
      put.0,
      put.1,
      denied_block c.args.site.now (λ x. not (truth c.args.tree.now.1 x)) c.in_ok-none.none.1 put.0 put.2
          (λ y v. c.in_ok-none.ensures.askable.valued y v ∙ ap Some (c.in_ok-none.ensures.value y v)),
    )
