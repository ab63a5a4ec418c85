use Rattle.std.proofs.Common.{◌≡◌, ◌+◌, drop}
use Rattle.fws_exec.specs.Closed.{drops}
use Rattle.fws_exec.proofs.closed.drops.Given as goal

abbrev pub invariant-loop-k : goal.invariant-loop-k
invariant-loop-k l = drops l.established (l.first + l.k) (drop l.k l.code) l.accepts l.furthest ≡ drops l.established l.first l.code l.end 0
