use Rattle.std.proofs.Common.{◌≡◌, ◌+◌, drop}
use Rattle.fws_flat.specs.Soundness.{code_ok}
use Rattle.fws_flat.proofs.soundness.code_ok.Given as goal

abbrev pub invariant-loop-k : goal.invariant-loop-k
invariant-loop-k l = code_ok l.past (l.first + l.k) (drop l.k l.code) ≡ code_ok l.past l.first l.code
