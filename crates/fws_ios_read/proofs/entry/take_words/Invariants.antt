use Rattle.std.proofs.Common.{◌≡◌, drop}
use Rattle.fws_net.specs.Causes.{words_read}
use Rattle.fws_ios.specs.EntryText.{entry_step}
use Rattle.fws_ios_read.proofs.entry.take_words.Given as goal

abbrev pub invariant-loop-word : goal.invariant-loop-word
invariant-loop-word l = words_read entry_step l.d (drop l.word-index l.words) ≡ words_read entry_step l.fn.d l.words
