use Rattle.std.proofs.Common.{◌≡◌, drop}
use Rattle.fws_net.specs.Routes.{joined, longest}
use Rattle.fws_net.proofs.routes.best_of_lines.Given as goal

abbrev pub invariant-loop-line : goal.invariant-loop-line
invariant-loop-line l = joined l.best (longest (drop l.line-index l.lines) l.a) ≡ joined l.initial.best (longest l.lines l.a)
