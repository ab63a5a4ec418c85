use Rattle.std.proofs.Common.{◌≡◌, ◌++◌, map, drop}
use Rattle.fws_ipt_ifcl.specs.Diagram.{own_chains, chain_for}
use Rattle.fws_ipt_ifcl.proofs.chains.chains_for.Given as goal

abbrev pub invariant-loop-chain : goal.invariant-loop-chain
invariant-loop-chain l = l.made ++ map (chain_for l.test l.site) (drop l.chain-index l.chains) ≡ own_chains ++ map (chain_for l.test l.site) l.chains
