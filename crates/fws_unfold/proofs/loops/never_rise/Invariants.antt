use Rattle.std.proofs.Common.{◌≡◌, drop}
use Rattle.fws_unfold.specs.Numbers.{never_rise}
use Rattle.fws_unfold.proofs.loops.never_rise.Given as goal

abbrev pub invariant-loop-c : goal.invariant-loop-c
invariant-loop-c l = never_rise l.numbers l.c (drop l.c l.shapes) ≡ never_rise l.numbers 0 l.shapes
