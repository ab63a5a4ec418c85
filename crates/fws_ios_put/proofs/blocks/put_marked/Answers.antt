use Rattle.std.proofs.Common.{sym, ◌∙◌}
use Rattle.fws_ios_put.specs.Choices.{is_tcp, truth}
use Rattle.fws_ios_put.proofs.Parts.{marked_needed, needed_inside}
use Rattle.fws_ios_put.proofs.blocks.put_marked.Goals as goal

pub put_needed-requires-clause-part : goal.put_needed-requires-clause-part
put_needed-requires-clause-part c = λ x w h.
    needed_inside (is_tcp x) (truth c.args.within.now.1 x) (truth c.args.excused.now.1 x) (sym (c.in_ok-needed.ensures.value x w) ∙ h)

pub returns : goal.returns
returns c =
    let put = c.in_ok-put_needed.ensures in (
      put.0,
      put.1,
      marked_needed c.args.site.now c.args.permit (truth c.args.within.now.1) (truth c.args.excused.now.1) (truth c.in_ok-needed.needed.1) put.0 c.in_ok-needed.ensures.value put.2,
    )
