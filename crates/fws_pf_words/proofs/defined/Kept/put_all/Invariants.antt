use Rattle.std.proofs.Common.{◌≡◌, drop}
use Rattle.fws_pf_words.specs.Kept.{with_more}
use Rattle.fws_pf_words.proofs.defined.Kept.put_all.Given as goal

abbrev pub invariant-loop-w : goal.invariant-loop-w
invariant-loop-w l = with_more l.self (drop l.w-index l.words) ≡ with_more l.fn.self l.words
