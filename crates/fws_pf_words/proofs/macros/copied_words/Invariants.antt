use Rattle.std.proofs.Common.{◌≡◌, take}
use Rattle.fws_pf_words.proofs.macros.copied_words.Given as goal

abbrev pub invariant-loop-w : goal.invariant-loop-w
invariant-loop-w l = l.copies ≡ take l.w-index l.words
