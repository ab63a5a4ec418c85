use Rattle.std.proofs.Common.{◌≡◌, [], drop}
use Rattle.fws_pf.specs.Macros.{with_words}
use Rattle.fws_pf_words.proofs.defined.words_added.Given as goal

abbrev pub invariant-loop-w : goal.invariant-loop-w
invariant-loop-w l = with_words l.all (drop l.w-index l.words) ≡ with_words [] l.words
