-- How a walk goes on behind a rule, once it is back from a chain that the rule enters.
use Rattle.std.specs.Prelude.{ℕ, List, []}
use Rattle.fws_net.specs.declared.transit.Transit.{Transit}
use Rattle.fws_ifcl.specs.declared.diagram.Place.{Place}
use Rattle.fws_ifcl.specs.declared.step.ChainEnd.{ChainEnd}
use Rattle.fws_ifcl.specs.declared.step.Turn.{Turn}
use Rattle.fws_ifcl.specs.declared.step.Turn.TheVariants.{Leave, Onwards}

-- how the chain is left, where go walks the rules behind this one from a place on
abbrev pub turned : (ℕ → Transit → ChainEnd) → Turn → ChainEnd
turned go (Leave end) = end
turned go (Onwards to t) = go to t

-- what is used of the rules behind this one, by what go gives from a place on
abbrev pub used_turned : (ℕ → Transit → List Place) → Turn → List Place
used_turned go (Leave end) = []
used_turned go (Onwards to t) = go to t
