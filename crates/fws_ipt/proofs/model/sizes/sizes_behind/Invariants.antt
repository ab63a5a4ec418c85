use Rattle.std.proofs.Common.{◌≡◌, map, take}
use Rattle.fws_ipt.specs.Levels.{size_behind}
use Rattle.fws_ipt.proofs.model.sizes.sizes_behind.Given as goal

abbrev pub invariant-loop-chain : goal.invariant-loop-chain
invariant-loop-chain l = l.level.items ≡ map (size_behind l.faces l.before) (take l.chain-index l.chains)
