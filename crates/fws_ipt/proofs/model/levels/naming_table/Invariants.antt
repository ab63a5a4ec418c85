use Rattle.std.proofs.Common.{◌≡◌, map, take}
use Rattle.fws_ipt.specs.Refusals.{names_any}
use Rattle.fws_ipt.proofs.model.levels.naming_table.Given as goal

abbrev pub invariant-loop-chain : goal.invariant-loop-chain
invariant-loop-chain l = l.level.items ≡ map names_any (take l.chain-index l.chains)
