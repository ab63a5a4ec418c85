use Rattle.std.proofs.Common.{◌≡◌, List, drop}
use Rattle.fws_num.specs.declared.word.Word.{Word}
use Rattle.fws_pf.specs.FileText.{with_front}
use Rattle.fws_pf_words.specs.Defining.{words_seen}
use Rattle.fws_pf_words.proofs.defining.take_front.Given as goal

abbrev pub invariant-loop-w : goal.invariant-loop-w
invariant-loop-w l = (rest : List Word) → words_seen l.d (with_front (drop l.w-index l.words) rest) ≡ words_seen l.fn.d (with_front l.words rest)
