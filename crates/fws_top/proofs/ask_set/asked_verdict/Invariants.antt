use Rattle.std.proofs.Common.{◌≡◌, drop}
use Rattle.fws_top.specs.Asks.{asked_verdict}
use Rattle.fws_top.proofs.ask_set.asked_verdict.Given as goal

abbrev pub invariant-loop-word : goal.invariant-loop-word
invariant-loop-word l = asked_verdict (drop l.word-index l.words) ≡ asked_verdict l.words
