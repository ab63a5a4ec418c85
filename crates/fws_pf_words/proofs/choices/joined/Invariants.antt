use Rattle.std.proofs.Common.{◌≡◌, ◌++◌, take}
use Rattle.fws_pf_words.proofs.choices.joined.Given as goal

abbrev pub invariant-loop-lit : goal.invariant-loop-lit
invariant-loop-lit l = l.cond ≡ l.front ++ take l.lit-index l.rest
