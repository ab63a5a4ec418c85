-- What becomes of the points of classes that are divided.
use Rattle.std.specs.Prelude.{◌≡◌, ◌≢◌, ℕ, ◌+◌, ◌-◌, ◌⊎◌, Bool, true, false, ◌&&◌, not, nat_eq, Some, option_map, List, slice_get, if◌then◌else◌}
use Rattle.fws_box.specs.Sides.{IsWithin}
use Rattle.fws_flat.specs.declared.code.Part.{Part}
use Rattle.fws_flat.specs.Walk.{sees}
use Rattle.fws_net.specs.declared.condition.Lit.{Lit}
use Rattle.fws_net.specs.declared.packet.State.{State}
use Rattle.fws_net.specs.declared.site.Site.{Site}
use Rattle.fws_net.specs.declared.view.View.{View}
use Rattle.fws_net.specs.Conditions.{holds}
use Rattle.fws_exec.specs.declared.going.Going.{Going}
use Rattle.fws_exec.specs.declared.going.Going.TheVariants.{To, Behind, Leaving}
use Rattle.fws_exec.specs.declared.progress.Progress.{Progress}
use Rattle.fws_exec.specs.declared.sheet.Sheet.{Sheet}
use Rattle.fws_exec.specs.declared.spot.Class.{Class}
use Rattle.fws_exec.specs.Classes.{kind_of, transit_of}
use Rattle.fws_exec.specs.Courses.{Tells}
use Rattle.fws_exec.specs.Goings.{IsGone}
use Rattle.fws_exec.specs.Sheets.{tops_in, class_at, IsUsed}

-- each point of the classes whose numbers pass the test goes where its label sends it, if that isn't 0; the label may depend
-- on what rules did. All other points stay in their classes
abbrev pub AreMoved : Going → (ℕ → Bool) → (Progress → List ℕ → ℕ) → Sheet → Sheet → Type 0
AreMoved going test label old new = (p : List ℕ) (c : Class) → IsWithin (tops_in old) p → IsUsed old.roll.classes.items (class_at old p) c
    → ((test (class_at old p) ≡ true) × (label c.progress p ≢ 0) × IsGone going (label c.progress p) c.progress new.roll.classes.items (class_at new p))
    ⊎ ((test (class_at old p) ≡ true → label c.progress p ≡ 0) × (class_at new p ≡ class_at old p))

-- what an instruction of the part sees of the packet of a point to which rules did this
abbrev pub seen_at : Site → State → Part → Progress → List ℕ → View
seen_at site state part g p = sees site (kind_of state p) part (transit_of g p)

-- label 1 where the condition holds
abbrev pub held : Site → State → Part → List Lit → Progress → List ℕ → ℕ
held site state part cond g p = if holds cond (seen_at site state part g p) then 1 else 0

-- the truth values whose places pass the test are true from now on, and all others stay
abbrev pub AreSet : (ℕ → Bool) → List Bool → List Bool → Type 0
AreSet test old new = (k : ℕ) → slice_get new k ≡ (if test k then option_map {T = Bool} (λ b. true) (slice_get old k) else slice_get old k)

-- a label says that the instruction with this number is used: that at a place
abbrev pub says_at : ℕ → ℕ → ℕ → Bool
says_at place label k = not (nat_eq label 0) && nat_eq k place

-- that of a run from a place on, of which label 1 means the first one
abbrev pub says_from : ℕ → ℕ → ℕ → Bool
says_from place label k = not (nat_eq label 0) && nat_eq k (place + (label - 1))

-- that behind which packets go
abbrev pub says_of : Going → ℕ → ℕ → Bool
says_of (To spot) label k = false
says_of (Behind state stage place act) label k = says_at place label k
says_of (Leaving stage place) label k = false

-- the label of some point of the classes whose numbers pass the test says that the instruction with this number is used
abbrev pub IsSaid : (ℕ → ℕ → Bool) → (ℕ → Bool) → (Progress → List ℕ → ℕ) → Sheet → ℕ → Type 0
IsSaid says test label s k = (p : List ℕ) × (c : Class) × IsWithin (tops_in s) p × IsUsed s.roll.classes.items (class_at s p) c × (test (class_at s p) ≡ true) × (says (label c.progress p) k ≡ true)

-- of the instructions of which labels say that points of the classes whose numbers pass the test use them, each is reached if it
-- is asked for, and no other is reached newly
pub record AreNoted (says : ℕ → ℕ → Bool) (test : ℕ → Bool) (label : Progress → List ℕ → ℕ) (old new : Sheet) : Type 0 where
  pub noted : (k : ℕ) → IsSaid says test label old k → slice_get new.reached.items k ≢ Some false
  pub tells : Tells old.reached.items new.reached.items (IsSaid says test label old)
