use Rattle.std.proofs.Common.{◌≡◌, map, take}
use Rattle.fws_exec.specs.Stages.{class_outcome}
use Rattle.fws_exec.proofs.sheet.Sheet.outcomes.Given as goal

abbrev pub invariant-loop-class : goal.invariant-loop-class
invariant-loop-class l = l.all.items ≡ map (class_outcome l.state) (take l.class-index l.class-items)
