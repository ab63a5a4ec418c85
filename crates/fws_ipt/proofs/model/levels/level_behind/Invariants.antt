use Rattle.std.proofs.Common.{◌≡◌, map, take}
use Rattle.fws_ipt.specs.Levels.{flag_behind}
use Rattle.fws_ipt.proofs.model.levels.level_behind.Given as goal

abbrev pub invariant-loop-chain : goal.invariant-loop-chain
invariant-loop-chain l = l.level.items ≡ map (flag_behind l.to l.before) (take l.chain-index l.chains)
