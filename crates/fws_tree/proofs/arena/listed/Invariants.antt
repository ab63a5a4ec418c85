use Rattle.std.proofs.Common.{◌≡◌, ◌++◌}
use Rattle.fws_tree.proofs.arena.listed.Given as goal

abbrev pub invariant-loop-value : goal.invariant-loop-value
invariant-loop-value g l = l.items ++ l.value-iterator ≡ l.fn.kept.keys
