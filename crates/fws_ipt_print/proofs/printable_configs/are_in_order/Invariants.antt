use Rattle.std.proofs.Common.{◌≡◌, drop}
use Rattle.fws_ipt_print.specs.Printable.{are_in_order}
use Rattle.fws_ipt_print.proofs.printable_configs.are_in_order.Given as goal

abbrev pub invariant-loop-chain : goal.invariant-loop-chain
invariant-loop-chain l = are_in_order l.least (drop l.chain-index l.chains) ≡ are_in_order 0 l.chains
