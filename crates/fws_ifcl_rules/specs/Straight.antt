-- Diagrams without calls.
use Rattle.std.specs.Prelude.{◌≡◌, Bool, true, None}
use Rattle.std.specs.List.{list_all}
use Rattle.fws_ifcl.specs.declared.diagram.Ifcl.{Ifcl}
use Rattle.fws_ifcl.specs.Refusals.{refusal_of}
use Rattle.fws_ifcl.specs.Soundness.{chain_ok}

-- no rule calls a chain or goes to one, and skips go forward: all are right where there is no chain to name
abbrev pub is_straight : Ifcl → Bool
is_straight d = list_all (chain_ok 0) d.chains

-- such a diagram can be unfolded
abbrev pub StraightDiagramsUnfold : Type 0
StraightDiagramsUnfold = (d : Ifcl) → is_straight d ≡ true → refusal_of d ≡ None
