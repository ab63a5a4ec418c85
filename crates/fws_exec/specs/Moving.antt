-- How the packets of called classes become those of others, and how classes are added then.
use Rattle.std.specs.Prelude.{◌≡◌, ℕ, ◌≤◌, Bool, false, MatchBool, List, length}
use Rattle.fws_exec.specs.declared.going.Going.{Going}
use Rattle.fws_exec.specs.declared.spot.Class.{Class}
use Rattle.fws_exec.specs.declared.spot.Spot.{Spot}
use Rattle.fws_exec.specs.Goings.{lands, IsGone}
use Rattle.fws_exec.specs.Sheets.{IsUsed, Grows, NoneComes}

-- packets of class x, to which rules did what they did to that class, go to class z at a label; both are used
abbrev pub GoesTo : Going → List Class → ℕ → ℕ → ℕ → Type 0
GoesTo going classes x label z = (c : Class) × IsUsed classes x c × IsGone going label c.progress classes z

-- class x becomes z at a label: one whose number passes the test goes, and each other one stays
abbrev pub IsMoved : Going → (ℕ → Bool) → List Class → ℕ → ℕ → ℕ → Type 0
IsMoved going called classes x label z = MatchBool (called x) (GoesTo going classes x label z) (z ≡ x)

-- classes are added at the spot alone, and those that are used stay
pub record AddsAt (spot : Spot) (old new : List Class) : Type 0 where
  pub grows : Grows old new
  pub count : length old ≤ length new
  pub comes : (test : Spot → Bool) → test spot ≡ false → NoneComes test old new

-- classes are added where packets land alone, and those that are used stay
pub record IsGrown (going : Going) (old new : List Class) : Type 0 where
  pub grows : Grows old new
  pub count : length old ≤ length new
  pub comes : (test : Spot → Bool) → ((label : ℕ) → test (lands going label) ≡ false) → NoneComes test old new
