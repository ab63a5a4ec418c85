-- What becomes of a packet in a part that is executed, and which instructions it uses there.
use Rattle.std.specs.Prelude.{◌≡◌, ℕ, suc, ◌+◌, ◌-◌, ◌⊎◌, Bool, true, false, nat_eq, nat_lt, take, drop, Option, Some, None, List, [], ◌∷◌, length, slice_get, if◌then◌else◌}
use Rattle.fws_box.specs.Sides.{IsWithin}
use Rattle.fws_net.specs.declared.packet.Packet.{Packet}
use Rattle.fws_net.specs.declared.connection.Kind.{Kind}
use Rattle.fws_net.specs.declared.outcome.Outcome.{Outcome}
use Rattle.fws_net.specs.declared.outcome.Outcome.TheVariants as outcomes
use Rattle.fws_net.specs.declared.site.Site.{Site}
use Rattle.fws_net.specs.declared.transit.Transit.{Transit}
use Rattle.fws_net.specs.Conditions.{holds}
use Rattle.fws_net.specs.Points.{packet_of, tops_of}
use Rattle.fws_net.specs.Transits.{decided, nothing_written}
use Rattle.fws_flat.specs.declared.code.Ins.{Ins}
use Rattle.fws_flat.specs.declared.code.Part.{Part}
use Rattle.fws_flat.specs.declared.step.Step.{Step}
use Rattle.fws_flat.specs.declared.step.Step.TheVariants.{Leave, Onwards}
use Rattle.fws_flat.specs.Walk.{sees, step_of}
use Rattle.fws_exec.specs.declared.errand.Errand.{Errand}
use Rattle.fws_exec.specs.declared.sheet.Sheet.{Sheet}
use Rattle.fws_exec.specs.declared.spot.Stage.{Stage}
use Rattle.fws_exec.specs.Classes.{kind_of, future, meant_behind}
use Rattle.fws_exec.specs.Sheets.{class_at}

-- What is asked of packets

-- what becomes of packets before a stage, and which instructions are sought: the way of a packet ends at the first of these that
-- it uses
pub record Aim : Type 0 where
  pub next : Stage → Transit → Outcome
  pub sought : ℕ → Bool

-- what becomes of a packet that uses an instruction that is sought
abbrev pub caught : Outcome
caught = outcomes.Accept nothing_written

-- the instruction with this number is sought
abbrev pub aim_at : ℕ → (Stage → Transit → Outcome) → Aim
aim_at n next = record { next = next; sought = nat_eq n }

-- In a part

-- what becomes of a packet that left a part: it is dropped, or goes on
abbrev pub left : (Transit → Outcome) → Option Transit → Outcome
left next None = outcomes.Drop
left next (Some t) = next t

-- what becomes of a packet behind an instruction, by what becomes of it behind the part, and from a place on
abbrev pub fate_behind : (Transit → Outcome) → (ℕ → Transit → Outcome) → Step → Outcome
fate_behind next go (Leave end) = left next end
fate_behind next go (Onwards to t) = go to t

-- what becomes of a packet in instructions, of which the first has the place at, by what becomes of it behind the part; those
-- before the place to are passed over
abbrev pub fate : Site → Packet → Kind → Part → (ℕ → Bool) → (Transit → Outcome) → ℕ → List Ins → ℕ → Transit → Outcome
fate site p k part sought next at [] to t = left next (decided t)
fate site p k part sought next at (i ∷ is) to t =
    if nat_lt at to then fate site p k part sought next (suc at) is to t
    else if holds i.cond (sees site k part t) then (if sought at then caught else fate_behind next (fate site p k part sought next (suc at) is) (step_of p k i.act t))
    else fate site p k part sought next (suc at) is 0 t

-- the instructions of a part from a place on
abbrev pub code_from : List Ins → Part → ℕ → List Ins
code_from code part place = take (part.past - place) (drop place code)

-- what becomes of the packet of a point at an instruction of the part that is executed
abbrev pub course : Errand → Aim → List ℕ → ℕ → Transit → Outcome
course e a p place t =
    fate e.ground.site.now (packet_of p) (kind_of e.ground.state p) e.part a.sought (a.next e.stage) place (code_from e.code.now e.part place) 0 t

-- what becomes of the packet of a point that uses an instruction, by what becomes of it behind
abbrev pub course_used : Errand → Aim → List ℕ → ℕ → Ins → Transit → Outcome
course_used e a p place ins t =
    if a.sought place then caught else meant_behind (course e a p) a.next e.stage place (step_of (packet_of p) (kind_of e.ground.state p) ins.act t)

-- what becomes of the packet of a point at an instruction, by what becomes of it behind
abbrev pub Obeys : Errand → Aim → List ℕ → ℕ → Ins → Type 0
Obeys e a p place ins = (t : Transit) → course e a p place t ≡
    (if holds ins.cond (sees e.ground.site.now (kind_of e.ground.state p) e.part t)
    then course_used e a p place ins t
    else course e a p (place + 1) t)

-- so it is at all of these instructions, of which the first has the place
abbrev pub AllObey : Errand → Aim → List ℕ → ℕ → List Ins → Type 0
AllObey e a p place [] = Unit {0}
AllObey e a p place (ins ∷ code) = Obeys e a p place ins × AllObey e a p (place + 1) code

-- What is told of uses

-- no instruction that is sought was reached so far, and of each is asked
abbrev pub IsOpen : List Bool → Aim → Type 0
IsOpen reached a = (k : ℕ) → a.sought k ≡ true → slice_get reached k ≡ Some false

-- what was reached stays so, and what is reached newly meets this
pub record Tells (old new : List Bool) (meets : ℕ → Type 0) : Type 0 where
  pub count : length new ≡ length old
  pub opens : (k : ℕ) → slice_get new k ≡ Some false → slice_get old k ≡ Some false
  pub found : (k : ℕ) → slice_get new k ≡ Some true → (slice_get old k ≡ Some true) ⊎ ((slice_get old k ≡ Some false) × meets k)

-- the packet of some point uses the instruction with this number, whatever becomes of it before a stage
abbrev pub Meets : Errand → Sheet → ℕ → Type 0
Meets e s k = (p : List ℕ) × IsWithin (tops_of e.ground.site.now) p
    × ((next : Stage → Transit → Outcome) → future (course e (aim_at k next) p) next s.roll.classes.items (class_at s p) p ≡ caught)

-- what becomes of each packet stays, where nothing is sought that was reached
pub record Keeps (e : Errand) (old new : Sheet) : Type 0 where
  pub kept : (a : Aim) (p : List ℕ) → IsOpen new.reached.items a → IsWithin (tops_of e.ground.site.now) p
      → future (course e a p) a.next new.roll.classes.items (class_at new p) p ≡ future (course e a p) a.next old.roll.classes.items (class_at old p) p
  pub tells : Tells old.reached.items new.reached.items (Meets e old)
