use Rattle.fws_tree_seen.specs.declared.field.PacketField.TheVariants.{Proto}
use Rattle.fws_ipt_put_chains.specs.Conds.{AreValuesBelow}
use Rattle.fws_ipt_put_chains.proofs.pieces.protocols.Given as goal

abbrev pub invariant-loop-v : goal.invariant-loop-v
invariant-loop-v l = AreValuesBelow Proto l.set l.v l.conds
