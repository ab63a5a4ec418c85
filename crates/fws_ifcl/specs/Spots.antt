-- Which rules of a configuration stand at places of its diagram.
use Rattle.std.specs.Prelude.{ℕ, Bool, ◌&&◌, nat_lt, List, length, map}
use Rattle.std.specs.List.{filter, flat_map, list_all}
use Rattle.fws_ifcl.specs.declared.diagram.Ifcl.{Ifcl}
use Rattle.fws_ifcl.specs.declared.diagram.Place.{Place}
use Rattle.fws_ifcl.specs.declared.diagram.Spot.{Spot}
use Rattle.fws_ifcl.specs.Uses.{is_place}
use Rattle.fws_ifcl.specs.Walk.{rules_at}

-- the numbers of the rules that stand at a place
abbrev pub numbers_at : List Spot → Place → List ℕ
numbers_at spots at = map (λ spot. spot.rule) (filter (λ spot. is_place spot.at at) spots)

-- the numbers of the rules that stand at these places, in their order
abbrev pub told : List Spot → List Place → List ℕ
told spots places = flat_map (numbers_at spots) places

-- the place is one of the diagram
abbrev pub is_place_of : Ifcl → Place → Bool
is_place_of f at = nat_lt at.chain (length f.chains) && nat_lt at.rule (length (rules_at f.chains at.chain))

-- each spot stands at a place of the diagram, and has one of so many numbers
abbrev pub are_spots_of : Ifcl → ℕ → List Spot → Bool
are_spots_of f rules spots = list_all (λ spot. nat_lt spot.rule rules && is_place_of f spot.at) spots
