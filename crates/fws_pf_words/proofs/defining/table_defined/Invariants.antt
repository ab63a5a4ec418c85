use Rattle.std.proofs.Common.{◌≡◌, drop}
use Rattle.fws_pf.specs.FileText.{readable}
use Rattle.fws_pf_words.specs.Defining.{undefined, words_seen}
use Rattle.fws_pf_words.proofs.defining.table_defined.Given as goal

abbrev pub invariant-loop-w : goal.invariant-loop-w
invariant-loop-w l = words_seen l.d (readable l.macros (drop l.w-index l.words)) ≡ words_seen undefined (readable l.macros l.words)
