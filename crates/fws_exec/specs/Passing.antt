-- How classes pass instructions of the part that is executed.
use Rattle.std.specs.Prelude.{◌≡◌, ℕ, ◌+◌, ◌≤◌, ◌⊎◌, Bool, true, false, ◌&&◌, not, List, length}
use Rattle.std.specs.List.{list_any}
use Rattle.std.specs.Option.{is_none}
use Rattle.fws_box.specs.Sides.{IsWithin}
use Rattle.fws_net.specs.declared.outcome.Outcome.{Outcome}
use Rattle.fws_net.specs.declared.transit.Transit.{Transit}
use Rattle.fws_exec.specs.declared.errand.Errand.{Errand}
use Rattle.fws_exec.specs.declared.groups.Group.{Group}
use Rattle.fws_exec.specs.declared.progress.Progress.{Progress}
use Rattle.fws_exec.specs.declared.sheet.Sheet.{Sheet}
use Rattle.fws_exec.specs.declared.spot.Class.{Class}
use Rattle.fws_exec.specs.declared.spot.Stage.{Stage}
use Rattle.fws_exec.specs.Classes.{meant, transit_of, is_before}
use Rattle.fws_exec.specs.Courses.{caught, course, aim_at, Aim, IsOpen, Tells}
use Rattle.fws_exec.specs.Sheets.{among, tops_in, class_at, IsUsed, Grows, NoneComes}

-- the packet of a point of class x, to which rules did this, passed the instructions from a place on before another: it stays in
-- its class, and at the first place it goes on as at the other; or it went to class z, where becomes of it what does at the first
abbrev pub HasPassed : Errand → Aim → List ℕ → ℕ → ℕ → Progress → List Class → ℕ → ℕ → Type 0
HasPassed e a p place at g classes x z =
    ((z ≡ x) × (course e a p place (transit_of g p) ≡ course e a p at (transit_of g p)))
    ⊎ ((d : Class) × IsUsed classes z d × (is_before (place + 1) d.spot ≡ false) × (meant (course e a p) a.next d.spot (transit_of d.progress p) ≡ course e a p place (transit_of g p)))

-- the packet of some point of the classes whose numbers pass the test uses the instruction with this number, from a place on
abbrev pub MeetsFrom : Errand → (ℕ → Bool) → ℕ → Sheet → ℕ → Type 0
MeetsFrom e test place s k = (p : List ℕ) × (c : Class) × IsWithin (tops_in s) p × IsUsed s.roll.classes.items (class_at s p) c × (test (class_at s p) ≡ true)
    × ((next : Stage → Transit → Outcome) → course e (aim_at k next) p place (transit_of c.progress p) ≡ caught)

-- so it is for each point of the classes whose numbers pass the test, and all others stay in their classes
pub record Passed (e : Errand) (test : ℕ → Bool) (place at : ℕ) (old new : Sheet) : Type 0 where
  pub kept : (a : Aim) (p : List ℕ) (c : Class) → IsOpen new.reached.items a → IsWithin (tops_in old) p → IsUsed old.roll.classes.items (class_at old p) c
      → ((test (class_at old p) ≡ true) × HasPassed e a p place at c.progress new.roll.classes.items (class_at old p) (class_at new p))
      ⊎ ((test (class_at old p) ≡ false) × (class_at new p ≡ class_at old p))
  pub tells : Tells old.reached.items new.reached.items (MeetsFrom e test place old)

-- classes that are used stay, and none comes to an instruction before a place or at it
pub record IsOnward (place : ℕ) (old new : List Class) : Type 0 where
  pub grows : Grows old new
  pub count : length old ≤ length new
  pub comes : (q : ℕ) → q ≤ place + 1 → NoneComes (is_before q) old new

-- in a crowd, a group over which rules wrote an end passes a run by itself
abbrev pub is_apart : Bool → Group → Bool
is_apart crowded group = crowded && not (is_none group.view.wrote.src && is_none group.view.wrote.dst)

-- a group that passes the run with the others has the number
abbrev pub is_together : Bool → List Group → ℕ → Bool
is_together crowded groups n = list_any (λ g. not (is_apart crowded g) && among g.numbers.items n) groups

-- a group that passes it by itself has the number
abbrev pub is_parted : Bool → List Group → ℕ → Bool
is_parted crowded groups n = list_any (λ g. is_apart crowded g && among g.numbers.items n) groups
