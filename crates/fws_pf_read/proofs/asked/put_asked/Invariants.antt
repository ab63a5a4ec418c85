use Rattle.std.proofs.Common.{◌≡◌, ◌++◌, List, map, drop}
use Rattle.fws_pf.specs.declared.rule_draft.Choice.{Choice}
use Rattle.fws_pf_words.specs.Drawings.{drawn}
use Rattle.fws_pf_read.specs.Asked.{asked_choice}
use Rattle.fws_pf_read.proofs.asked.put_asked.Given as goal

abbrev pub invariant-loop-option : goal.invariant-loop-option
invariant-loop-option l = (rest : List Choice) → drawn l.all (map asked_choice (drop l.option-index l.asked) ++ rest) ≡ drawn l.fn.all (map asked_choice l.asked ++ rest)
