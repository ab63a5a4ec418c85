use Rattle.std.proofs.Common.{◌≡◌, drop}
use Rattle.fws_top.specs.Asks.{are_known}
use Rattle.fws_top.proofs.ask.are_known.Given as goal

abbrev pub invariant-loop-word : goal.invariant-loop-word
invariant-loop-word l = are_known l.site (drop l.word-index l.words) ≡ are_known l.site l.words
