use Rattle.std.proofs.Common.{◌≡◌, ℕ, List, drop}
use Rattle.std.specs.List.{position_from}
use Rattle.std.specs.Map.{lookup}
use Rattle.std.specs.Str.{bytes_eq}
use Rattle.fws_ios.specs.declared.config.IosList.{IosList}
use Rattle.fws_ios_ifcl.proofs.names.places_of.Given as goal

abbrev pub invariant-loop-place : goal.invariant-loop-place
invariant-loop-place l =
    (name : List ℕ) → lookup (bytes_eq name) l.places.entries ≡ position_from (λ (list : IosList). bytes_eq list.name name) l.place (drop l.place l.lists)
