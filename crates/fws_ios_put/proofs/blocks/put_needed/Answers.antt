use Rattle.std.proofs.Common.{not, Some, ap, ◌∙◌}
use Rattle.fws_ios_put.specs.Choices.{is_tcp, truth}
use Rattle.fws_ios_put.proofs.MadeTrees.{values_told}
use Rattle.fws_ios_put.proofs.Parts.{marked_block, needed_within, twice_denied}
use Rattle.fws_ios_put.proofs.blocks.put_needed.Goals as goal

pub put_cover-requires-clause-needed_listed : goal.put_cover-requires-clause-needed_listed
put_cover-requires-clause-needed_listed c = values_told c.args.site.now c.args.needed.now c.requires.needed

pub put_cover-requires-clause-part : goal.put_cover-requires-clause-part
put_cover-requires-clause-part c = λ x w h.
    (needed_within c.args.site.now (truth c.args.within.now.1) (λ y. not (truth c.args.needed.now.1 y)) c.args.needed.now.1 c.in_ok-around.around.1
    (λ y v. c.requires.needed.valued y v ∙ ap Some (twice_denied (truth c.args.needed.now.1 y) (is_tcp y) (truth c.args.within.now.1 y) (c.requires.part y v)))
    (λ y v. c.in_ok-around.ensures.askable.valued y v ∙ ap Some (c.in_ok-around.ensures.value y v)) x w h).0

pub put_cover-requires-clause-tcp : goal.put_cover-requires-clause-tcp
put_cover-requires-clause-tcp c = λ marked x w h.
    (needed_within c.args.site.now (truth c.args.within.now.1) (λ y. not (truth c.args.needed.now.1 y)) c.args.needed.now.1 c.in_ok-around.around.1
    (λ y v. c.requires.needed.valued y v ∙ ap Some (twice_denied (truth c.args.needed.now.1 y) (is_tcp y) (truth c.args.within.now.1 y) (c.requires.part y v)))
    (λ y v. c.in_ok-around.ensures.askable.valued y v ∙ ap Some (c.in_ok-around.ensures.value y v)) x w h).1

pub returns : goal.returns
returns c =
    let put = c.in_ok-put_cover.ensures in (
      put.0,
      put.1,
      marked_block c.args.site.now c.args.permit (truth c.args.within.now.1) (λ x. not (truth c.args.needed.now.1 x)) c.args.needed.now.1 c.in_ok-around.around.1 put.0 put.2
          (λ y v. c.requires.needed.valued y v ∙ ap Some (twice_denied (truth c.args.needed.now.1 y) (is_tcp y) (truth c.args.within.now.1 y) (c.requires.part y v)))
          (λ y v. c.in_ok-around.ensures.askable.valued y v ∙ ap Some (c.in_ok-around.ensures.value y v)),
    )
