use Rattle.fws_pf_put_nat.specs.declared.side.Side.TheVariants.{Sport, Dst, Dport}
use Rattle.fws_pf_put_nat.proofs.Conditions.{if_some}
use Rattle.fws_pf_put_nat.proofs.rules.put_back.Goals as goal

pub put_part-requires : goal.put_part-requires
put_part-requires c = if_some c.args.path.sport (λ part e. c.requires Sport part e)

pub put_part-requires-2 : goal.put_part-requires-2
put_part-requires-2 c = if_some c.args.path.dst (λ part e. c.requires Dst part e)

pub put_part-requires-3 : goal.put_part-requires-3
put_part-requires-3 c = if_some c.args.path.dport (λ part e. c.requires Dport part e)
