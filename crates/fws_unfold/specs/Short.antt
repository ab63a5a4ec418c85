-- Diagrams whose paths are short.
use Rattle.std.specs.Prelude.{◌≡◌, ℕ, true, false}
use Rattle.fws_ifcl.specs.declared.diagram.Ifcl.{Ifcl}
use Rattle.fws_ifcl.specs.Refusals.{is_staged, begins_path}

-- no path of more than so many chains begins at a chain of a stage
abbrev pub IsShort : Ifcl → ℕ → Type 0
IsShort f n = (c : ℕ) → is_staged f c ≡ true → begins_path f.chains n c ≡ false
