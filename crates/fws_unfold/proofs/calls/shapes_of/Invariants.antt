use Rattle.std.proofs.Common.{◌≡◌, map, take}
use Rattle.fws_unfold.specs.Calls.{shape_of}
use Rattle.fws_unfold.proofs.calls.shapes_of.Given as goal

abbrev pub invariant-loop-chain : goal.invariant-loop-chain
invariant-loop-chain l = l.shapes.items ≡ map shape_of (take l.chain-index l.chains)
