use Rattle.std.proofs.Common.{◌≡◌, ◌++◌}
use Rattle.fws_pf_words.proofs.defined.put_words.Given as goal

abbrev pub invariant-loop-w : goal.invariant-loop-w
invariant-loop-w l = l.all ≡ l.fn.all ++ l.yielded
