use Rattle.std.proofs.Common.{◌≡◌, drop}
use Rattle.fws_ipt.specs.Refusals.{first_chain, is_looped}
use Rattle.fws_ipt.proofs.model.refusing.loop_of.Given as goal

abbrev pub invariant-loop-n : goal.invariant-loop-n
invariant-loop-n l = first_chain (is_looped l.chains) l.n (drop l.n l.chains) ≡ first_chain (is_looped l.chains) 0 l.chains
