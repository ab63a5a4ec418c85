use Rattle.fws_ipfw_put_rules.specs.Pieces.{AreProtocolsBelow}
use Rattle.fws_ipfw_put_rules.proofs.pieces.protocols.Given as goal

abbrev pub invariant-loop-v : goal.invariant-loop-v
invariant-loop-v l = AreProtocolsBelow l.set l.v l.lits
