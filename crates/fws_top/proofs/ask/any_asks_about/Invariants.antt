use Rattle.std.proofs.Common.{◌≡◌, drop}
use Rattle.std.specs.List.{list_any}
use Rattle.fws_top.specs.Asks.{asks_about}
use Rattle.fws_top.proofs.ask.any_asks_about.Given as goal

abbrev pub invariant-loop-word : goal.invariant-loop-word
invariant-loop-word l = list_any (asks_about l.subject) (drop l.word-index l.words) ≡ list_any (asks_about l.subject) l.words
