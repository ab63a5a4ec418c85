use Rattle.std.proofs.Common.{◌≡◌, false, map, take}
use Rattle.fws_unfold.specs.declared.calls.Shape.{Shape}
use Rattle.fws_unfold.proofs.reaching.no_flags.Given as goal

abbrev pub invariant-loop-shape : goal.invariant-loop-shape
invariant-loop-shape l = l.flags.items ≡ map (λ (shape : Shape). false) (take l._shape-index l.shapes)
