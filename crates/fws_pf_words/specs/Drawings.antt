-- Choices that are put one after another, of which the first ones stand as one condition.
use Rattle.std.specs.Prelude.{List, [], ◌∷◌, ◌++◌}
use Rattle.fws_net.specs.declared.condition.Lit.{Lit}
use Rattle.fws_pf.specs.declared.rule_draft.Choice.{Choice}
use Rattle.fws_pf.specs.Drawn.{conditions, crossed}
use Rattle.fws_pf_words.specs.declared.drawing.Drawing.{Drawing}

-- the conditions that they make with the rest behind them
abbrev pub drawn : Drawing → List Choice → List (List Lit)
drawn d rest = crossed (d.front ∷ []) (conditions (d.more ++ rest))
