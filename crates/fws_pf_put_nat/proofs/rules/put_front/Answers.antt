use Rattle.fws_pf_put_nat.specs.declared.side.Side.TheVariants.{Entry, Proto, Src}
use Rattle.fws_pf_put_nat.proofs.Conditions.{if_some}
use Rattle.fws_pf_put_nat.proofs.rules.put_front.Goals as goal

pub put_part-requires : goal.put_part-requires
put_part-requires c = if_some c.args.path.entry (λ part e. c.requires Entry part e)

pub put_part-requires-2 : goal.put_part-requires-2
put_part-requires-2 c = if_some c.args.path.proto (λ part e. c.requires Proto part e)

pub put_part-requires-3 : goal.put_part-requires-3
put_part-requires-3 c = if_some c.args.path.src (λ part e. c.requires Src part e)
