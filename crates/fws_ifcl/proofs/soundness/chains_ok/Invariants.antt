use Rattle.std.proofs.Common.{◌≡◌, length, drop}
use Rattle.std.specs.List.{list_all}
use Rattle.fws_ifcl.specs.Soundness.{chain_ok}
use Rattle.fws_ifcl.proofs.soundness.chains_ok.Given as goal

abbrev pub invariant-loop-chain : goal.invariant-loop-chain
invariant-loop-chain l = list_all (chain_ok (length l.chains)) (drop l.chain-index l.chains) ≡ list_all (chain_ok (length l.chains)) l.chains
