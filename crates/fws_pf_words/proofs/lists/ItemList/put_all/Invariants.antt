use Rattle.std.proofs.Common.{◌≡◌, ◌++◌}
use Rattle.fws_pf_words.proofs.lists.ItemList.put_all.Given as goal

abbrev pub invariant-loop-item : goal.invariant-loop-item
invariant-loop-item l = l.self ≡ l.fn.self ++ l.yielded
