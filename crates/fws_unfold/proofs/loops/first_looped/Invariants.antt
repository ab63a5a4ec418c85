use Rattle.std.proofs.Common.{◌≡◌, drop}
use Rattle.fws_ifcl.specs.Refusals.{first_chain, is_looped}
use Rattle.fws_unfold.proofs.loops.first_looped.Given as goal

abbrev pub invariant-loop-c : goal.invariant-loop-c
invariant-loop-c l = first_chain (is_looped l.calls.chains.now) l.c (drop l.c l.calls.chains.now) ≡ first_chain (is_looped l.calls.chains.now) 0 l.calls.chains.now
