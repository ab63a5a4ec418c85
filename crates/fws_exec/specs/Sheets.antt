-- Sheets: classes by number, and the class of each point.
use Rattle.std.specs.Prelude.{◌≡◌, ◌≢◌, ℕ, nat_eq, Bool, true, false, Some, List, slice_get, option_map, if◌then◌else◌}
use Rattle.std.specs.List.{list_any}
use Rattle.std.specs.Option.{option_map_or}
use Rattle.fws_box.specs.Sides.{IsWithin}
use Rattle.fws_tree.specs.Painted.{tops_of, value_at}
use Rattle.fws_net.specs.declared.outcome.Outcome.{Outcome}
use Rattle.fws_net.specs.declared.transit.Transit.{Transit}
use Rattle.fws_exec.specs.declared.progress.Progress.{Progress}
use Rattle.fws_exec.specs.declared.spot.Spot.{Spot}
use Rattle.fws_exec.specs.declared.spot.Stage.{Stage}
use Rattle.fws_exec.specs.declared.spot.Class.{Class}
use Rattle.fws_exec.specs.declared.sheet.Sheet.{Sheet}
use Rattle.fws_exec.specs.Classes.{is_unused, future}
use Rattle.fws_exec.specs.Hulls.{HasAt}

-- the greatest values of the fields
abbrev pub tops_in : Sheet → List ℕ
tops_in s = tops_of s.canvas

-- the number of the class of a point
abbrev pub class_at : Sheet → List ℕ → ℕ
class_at s p = value_at s.canvas p

-- there is a class with the number, and its spot passes the test
abbrev pub stands : (Spot → Bool) → List Class → ℕ → Bool
stands test classes n = option_map_or (λ c. test c.spot) (slice_get classes n) false

-- the class with a number is this one, and it isn't unused
abbrev pub IsUsed : List Class → ℕ → Class → Type 0
IsUsed classes n c = (slice_get classes n ≡ Some c) × (is_unused c.spot ≡ false)

-- each point has a class that is used, and lies in its hull
pub record IsSheet (s : Sheet) : Type 0 where
  pub used : (p : List ℕ) → IsWithin (tops_in s) p → (c : Class) × IsUsed s.roll.classes.items (class_at s p) c
  pub hulled : (p : List ℕ) → IsWithin (tops_in s) p → HasAt s.hulls.items (class_at s p) p

-- no point has the class with this number
abbrev pub IsFree : Sheet → ℕ → Type 0
IsFree s n = (p : List ℕ) → IsWithin (tops_in s) p → class_at s p ≢ n

-- one class is put in the place of another, or added; all others stay
abbrev pub IsPut : ℕ → Class → List Class → List Class → Type 0
IsPut n c old new = (slice_get new n ≡ Some c) × ((m : ℕ) → m ≢ n → slice_get new m ≡ slice_get old m)

-- each class that is used stays
abbrev pub Grows : List Class → List Class → Type 0
Grows old new = (n : ℕ) (c : Class) → IsUsed old n c → IsUsed new n c

-- no class comes to a spot that passes the test
abbrev pub NoneComes : (Spot → Bool) → List Class → List Class → Type 0
NoneComes test old new = (n : ℕ) → stands test old n ≡ false → stands test new n ≡ false

-- what becomes of each packet stays, whatever becomes of packets at instructions and before stages
abbrev pub KeepsFutures : Sheet → Sheet → Type 0
KeepsFutures old new = (at : ℕ → Transit → Outcome) (next : Stage → Transit → Outcome) (p : List ℕ) → IsWithin (tops_in old) p
    → future at next new.roll.classes.items (class_at new p) p ≡ future at next old.roll.classes.items (class_at old p) p

-- Numbers of classes

-- a number is one of these
abbrev pub among : List ℕ → ℕ → Bool
among numbers n = list_any (nat_eq n) numbers

-- the class with a number stands at the spot
abbrev pub StandsAt : Spot → List Class → ℕ → Type 0
StandsAt spot classes n = (g : Progress) × (slice_get classes n ≡ Some (record { spot = spot; progress = g }))

-- the classes whose numbers pass the test stand at the spot
abbrev pub AllAt : Spot → List Class → (ℕ → Bool) → Type 0
AllAt spot classes test = (n : ℕ) → test n ≡ true → StandsAt spot classes n

-- the classes whose numbers pass the test go to the spot, and all others stay
abbrev pub AreSent : Spot → (ℕ → Bool) → List Class → List Class → Type 0
AreSent spot test old new = (n : ℕ) → slice_get new n ≡ (if test n then option_map {T = Class} (λ c. record c { spot = spot }) (slice_get old n) else slice_get old n)
