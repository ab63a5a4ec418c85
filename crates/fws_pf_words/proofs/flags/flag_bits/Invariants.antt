use Rattle.std.proofs.Common.{◌≡◌, drop}
use Rattle.fws_pf.specs.RuleText.{with_flags}
use Rattle.fws_pf_words.proofs.flags.flag_bits.Given as goal

abbrev pub invariant-loop-letter : goal.invariant-loop-letter
invariant-loop-letter l = with_flags l.bits (drop l.letter-index l.text) ≡ with_flags 0 l.text
