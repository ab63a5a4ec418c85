-- What of the chains of a diagram the refusals hang on: how many rules they have, and which chains these name.
use Rattle.std.specs.Prelude.{◌≡◌, length, map}
use Rattle.fws_ifcl.specs.declared.diagram.Chain.{Chain}
use Rattle.fws_ifcl.specs.Refusals.{all_named}
use Rattle.fws_unfold.specs.declared.calls.Shape.{Shape}
use Rattle.fws_unfold.specs.declared.calls.Calls.{Calls}

-- the number of a chain's rules, and the chains that they name
abbrev pub shape_of : Chain → Shape
shape_of chain = record { rules = length chain.rules; names = all_named chain.rules }

-- the shapes are those of the chains
abbrev pub AreCalls : Calls → Type 0
AreCalls calls = calls.shapes.now ≡ map shape_of calls.chains.now
