use Rattle.std.proofs.Common.{◌≡◌, take}
use Rattle.fws_unfold.specs.Blocks.{parts_of}
use Rattle.fws_unfold.proofs.blocks.parts_of.Given as goal

abbrev pub invariant-loop-stage : goal.invariant-loop-stage
invariant-loop-stage l = l.parts ≡ parts_of l.spans (take l.stage-index l.stages)
