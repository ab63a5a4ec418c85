use Rattle.std.proofs.Common.{◌≡◌, ◌++◌, drop}
use Rattle.fws_ifcl_rules.specs.UsedPlaces.{chain_spots}
use Rattle.fws_ipt_ifcl.specs.Placed.{chains_told, spots_of}
use Rattle.fws_ipt_ifcl.proofs.spots.spots_of.Given as goal

abbrev pub invariant-loop-chain : goal.invariant-loop-chain
invariant-loop-chain l = l.spots.items ++ chain_spots l.at (chains_told l.site l.number (drop l.chain-index l.c.chains)) ≡ spots_of l.site l.c
