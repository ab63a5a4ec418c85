use Rattle.std.proofs.Common.{◌≡◌, drop}
use Rattle.fws_pf_words.specs.Kept.{kept_words}
use Rattle.fws_pf_words.proofs.defined.keep_words.Given as goal

abbrev pub invariant-loop-w : goal.invariant-loop-w
invariant-loop-w l = kept_words l.kept (drop l.w-index l.words) ≡ kept_words l.fn.kept l.words
