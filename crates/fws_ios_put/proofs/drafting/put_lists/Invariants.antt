use Rattle.std.proofs.Common.{◌≡◌, ◌++◌}
use Rattle.fws_ios_put.proofs.drafting.put_lists.Given as goal

abbrev pub invariant-loop-list : goal.invariant-loop-list
invariant-loop-list l = l.lists ≡ l.initial.lists ++ l.yielded
