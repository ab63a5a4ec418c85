use Rattle.std.proofs.Common.{◌≡◌, Some, take}
use Rattle.fws_pf_words.specs.Fronts.{within}
use Rattle.fws_pf_words.proofs.long_value.LongValue.words_within.Given as goal

abbrev pub invariant-loop-n : goal.invariant-loop-n
invariant-loop-n l = within l.setting (take l.n l.words) l.fn.self ≡ Some l.self
