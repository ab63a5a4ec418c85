use Rattle.std.proofs.Common.{◌≡◌, drop}
use Rattle.std.specs.List.{list_all}
use Rattle.fws_num.specs.Words.{is_sound}
use Rattle.fws_num.proofs.word.are_sound.Given as goal

abbrev pub invariant-loop-word : goal.invariant-loop-word
invariant-loop-word l = list_all is_sound (drop l.word-index l.words) ≡ list_all is_sound l.words
