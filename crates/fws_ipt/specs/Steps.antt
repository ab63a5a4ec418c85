-- How a walk goes on behind a rule, for the slow model.
use Rattle.std.specs.Prelude.{ℕ}
use Rattle.fws_ipt.specs.declared.passage.Passage.{Passage}
use Rattle.fws_ipt.specs.declared.passage.ChainEnd.{ChainEnd}
use Rattle.fws_ipt.specs.declared.model.acting.Step.{Step}
use Rattle.fws_ipt.specs.declared.model.acting.Step.TheVariants.{Leave, Onwards, Call, Switch}
use Rattle.fws_ipt.specs.Walk.{back}

-- how a chain is left behind a rule: enter walks another chain, next the rules behind this one
abbrev pub stepped : (ℕ → Passage → ChainEnd) → (Passage → ChainEnd) → Step → ChainEnd
stepped enter next (Leave end) = end
stepped enter next (Onwards m) = next m
stepped enter next (Call c m) = back next (enter c m)
stepped enter next (Switch c m) = enter c m
