use Rattle.std.proofs.Common.{◌≡◌, drop}
use Rattle.fws_num.specs.Words.{words_ahead}
use Rattle.fws_num.proofs.word.Reader.feed_all.Given as goal

abbrev pub invariant-loop-c : goal.invariant-loop-c
invariant-loop-c l = words_ahead l.self (drop l.c-index l.line) ≡ words_ahead l.fn.self l.line
