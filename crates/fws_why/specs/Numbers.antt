-- The numbers of rules at places, looked up.
use Rattle.std.specs.Prelude.{◌≡◌, ℕ, Bool, ◌&&◌, nat_eq, slice_get, unwrap_or, Option, None, List, []}
use Rattle.std.specs.HashMap.{get}
use Rattle.std.specs.Option.{option_map_or}
use Rattle.fws_ifcl.specs.declared.diagram.Place.{Place}
use Rattle.fws_ifcl.specs.declared.diagram.Spot.{Spot}
use Rattle.fws_ifcl.specs.Spots.{numbers_at}
use Rattle.fws_why.specs.declared.numbers.Key.{Key}
use Rattle.fws_why.specs.declared.numbers.Numbers.{Numbers}

abbrev pub key_of : Place → Key
key_of place = record { chain = place.chain; rule = place.rule }

abbrev pub key_eq : Key → Key → Bool
key_eq a b = nat_eq a.chain b.chain && nat_eq a.rule b.rule

-- the numbers of the rules at a place that is looked up
abbrev pub numbers_in : Numbers → Place → List ℕ
numbers_in numbers place = unwrap_or (get key_eq numbers.at (key_of place)) []

-- they are those that the spots give the place
abbrev pub AreNumbersOf : Numbers → List Spot → Type 0
AreNumbersOf numbers spots = (place : Place) → numbers_in numbers place ≡ numbers_at spots place

-- the place for which instruction n stands, if it does
abbrev pub place_at : List (Option Place) → ℕ → Option Place
place_at from n = unwrap_or (slice_get from n) None

-- the numbers of the rules at that place
abbrev pub found_at : Numbers → List (Option Place) → ℕ → List ℕ
found_at numbers from n = option_map_or (numbers_in numbers) (place_at from n) []
