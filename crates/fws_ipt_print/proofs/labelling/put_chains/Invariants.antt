use Rattle.std.proofs.Common.{◌≡◌, ◌++◌, drop}
use Rattle.std.specs.List.{flat_map}
use Rattle.fws_ipt_print.specs.Labels.{chain_labels}
use Rattle.fws_ipt_print.proofs.labelling.put_chains.Given as goal

abbrev pub invariant-loop-chain : goal.invariant-loop-chain
invariant-loop-chain l = l.labels.items ++ flat_map chain_labels (drop l.chain-index l.chains) ≡ l.fn.labels.items ++ flat_map chain_labels l.chains
