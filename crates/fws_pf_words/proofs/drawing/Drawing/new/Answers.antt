use Rattle.std.proofs.Common.{List, ◌++◌, ◌∙◌, ap}
use Rattle.fws_pf.specs.declared.rule_draft.Choice.{Choice}
use Rattle.fws_pf.specs.Drawn.{conditions}
use Rattle.fws_pf_words.proofs.Crossing.{from_none}
use Rattle.fws_pf_words.proofs.drawing.Drawing.new.Goals as goal

pub returns : goal.returns
returns c = λ rest. from_none _ c.new.result c.new.ensures ∙ ap (λ (cs : List Choice). conditions (cs ++ rest)) c.new-2.ensures
