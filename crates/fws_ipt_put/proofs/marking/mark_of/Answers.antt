use Rattle.std.proofs.Common.{ap, ◌∙◌}
use Rattle.std.specs.List.{list_any}
use Rattle.std.specs.Prelude.{nat_lt}
use Rattle.fws_iv.specs.declared.iv.Iv.{Iv}
use Rattle.fws_ipt_put.proofs.MarksTold.{mark_tells}
use Rattle.fws_ipt_put.proofs.marking.mark_of.Goals as goal

pub returns-clause-tells : goal.returns-clause-tells
returns-clause-tells c rows covers =
    mark_tells rows c.args.rewrite c.args.uses.now c.has.result c.has-2.result c.has_other.result c.has-3.result c.in_ok-network_blocks.field-0 c.in_ok-network_blocks-2.field-0
    covers c.has.ensures c.has-2.ensures (c.has_other.ensures ∙ ap (list_any (λ (part : Iv). nat_lt 0 part.hi)) c.parts.ensures.value) c.has-3.ensures
    c.in_ok-network_blocks.ensures.blocks c.in_ok-network_blocks-2.ensures.blocks c.in_ok-network_blocks.ensures.sound c.in_ok-network_blocks-2.ensures.sound
    c.in_ok-network_blocks.ensures.members c.in_ok-network_blocks-2.ensures.members c.network_blocks.ensures.fits c.network_blocks-2.ensures.fits
