-- Rules of diagrams.
use Rattle.std.specs.Prelude.{ℕ, ◌+◌, List, [], ◌∷◌, ◌++◌, length}
use Rattle.fws_net.specs.declared.condition.Lit.{Lit}
use Rattle.fws_ifcl.specs.declared.diagram.Act.{Act}
use Rattle.fws_ifcl.specs.declared.diagram.Act.TheVariants.{Skip}
use Rattle.fws_ifcl.specs.declared.diagram.Rule.{Rule}

abbrev pub ruled : List Lit → Act → Rule
ruled cond act = record { cond = cond; act = act }

-- a rule that acts everywhere
abbrev pub always : Act → Rule
always act = ruled [] act

-- rules of which the first has the place at, ahead of so many inner ones: where the condition holds the walk comes to those,
-- else it goes on behind them
abbrev pub guard : ℕ → List Lit → ℕ → List Rule
guard at cond inner = ruled cond (Skip (at + 2)) ∷ always (Skip (at + (2 + inner))) ∷ []

-- the inner rules, met where the condition holds
abbrev pub guarded : ℕ → List Lit → List Rule → List Rule
guarded at cond inner = guard at cond (length inner) ++ inner
