use Rattle.std.proofs.Common.{◌≡◌, ◌++◌, take}
use Rattle.fws_pf_words.proofs.lists.put_copies.Given as goal

abbrev pub invariant-loop-item : goal.invariant-loop-item
invariant-loop-item l = l.all ≡ l.fn.all ++ take l.item-index l.items
