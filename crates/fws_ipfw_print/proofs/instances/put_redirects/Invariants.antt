use Rattle.std.proofs.Common.{◌≡◌, ◌++◌, drop}
use Rattle.std.specs.List.{flat_map}
use Rattle.fws_print.specs.Words.{behind_blanks}
use Rattle.fws_ipfw_print.specs.PrintedText.{redirect_words}
use Rattle.fws_ipfw_print.proofs.instances.put_redirects.Given as goal

abbrev pub invariant-loop-r : goal.invariant-loop-r
invariant-loop-r l = l.out ++ behind_blanks (flat_map redirect_words (drop l.r-index l.redirects)) ≡ l.initial.out ++ behind_blanks (flat_map redirect_words l.redirects)
