use Rattle.std.proofs.Common.{◌≡◌, ◌++◌}
use Rattle.fws_ios_put_lists.specs.Turns.{turns_to}
use Rattle.fws_ios_put_lists.proofs.turns.put_paths.Given as goal

abbrev pub invariant-loop-path : goal.invariant-loop-path
invariant-loop-path l = l.turns ≡ l.initial.turns ++ turns_to l.node l.falls l.yielded
