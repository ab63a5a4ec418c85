-- What becomes of packets between the parts.
use Rattle.std.specs.Prelude.{◌≡◌, ℕ, Bool, true, false, nat_eq, Some, List, [], ◌∷◌, if◌then◌else◌}
use Rattle.fws_box.specs.Sides.{IsWithin}
use Rattle.fws_net.specs.declared.outcome.Outcome.{Outcome}
use Rattle.fws_net.specs.declared.outcome.Outcome.TheVariants as outcomes
use Rattle.fws_net.specs.declared.outcome.Rewrite.{Rewrite}
use Rattle.fws_net.specs.declared.connection.Kind.{Kind}
use Rattle.fws_net.specs.declared.packet.Packet.{Packet}
use Rattle.fws_net.specs.declared.packet.State.{State}
use Rattle.fws_net.specs.declared.packet.State.TheVariants as states
use Rattle.fws_net.specs.declared.site.Site.{Site}
use Rattle.fws_net.specs.declared.transit.Transit.{Transit}
use Rattle.fws_net.specs.Points.{packet_of, tops_of}
use Rattle.fws_net.specs.Routes.{is_local}
use Rattle.fws_net.specs.Transits.{entered, with_verdict, outcome_of, nothing_written}
use Rattle.fws_flat.specs.declared.code.Ins.{Ins}
use Rattle.fws_flat.specs.declared.code.Part.{Part}
use Rattle.fws_flat.specs.Walk.{part_code}
use Rattle.fws_exec.specs.declared.progress.Progress.{Progress}
use Rattle.fws_exec.specs.declared.sheet.Sheet.{Sheet}
use Rattle.fws_exec.specs.declared.spot.Class.{Class}
use Rattle.fws_exec.specs.declared.spot.Spot.{Spot}
use Rattle.fws_exec.specs.declared.spot.Spot.TheVariants.{Dropped, At, Before}
use Rattle.fws_exec.specs.declared.spot.Stage.{Stage}
use Rattle.fws_exec.specs.declared.spot.Stage.TheVariants.{Arrive, Deliver, Forward, Send}
use Rattle.fws_exec.specs.declared.turn.Turn.{Turn}
use Rattle.fws_exec.specs.declared.turn.Turn.TheVariants.{Enter, Leave}
use Rattle.fws_exec.specs.Classes.{kind_of, transit_of, untouched, future, same_stage, is_at_stage}
use Rattle.fws_exec.specs.Courses.{aim_at, caught, fate, Aim, IsOpen, Tells}
use Rattle.fws_exec.specs.Sheets.{class_at}

-- a class that leaves a part by its end: the verdict so far decides, and of what rules did to packets that are dropped nothing is kept
abbrev pub class_behind : Stage → Class → Spot → Class
class_behind stage c (At place) = if c.progress.verdict then record c { spot = Before stage } else record { spot = Dropped; progress = untouched }
class_behind stage c _ = c

-- a class that enters a part of a stage with the verdict with which it begins, or leaves it
abbrev pub turned : Turn → Class → Class
turned (Enter part stage) c = if is_at_stage stage c.spot then record { spot = At part.first; progress = record c.progress { verdict = part.end } } else c
turned (Leave stage) c = class_behind stage c c.spot

-- the only class is that of all packets, at this spot, to which no rule did anything
abbrev pub IsWhole : Spot → List Class → Type 0
IsWhole spot classes = (g : Progress) × (classes ≡ record { spot = spot; progress = g } ∷ []) × ((p : List ℕ) → transit_of g p ≡ entered (packet_of p))

-- between parts no packet stands at an instruction
abbrev pub nowhere : ℕ → Transit → Outcome
nowhere place t = outcomes.Drop

-- the packet of some point uses the instruction with this number, by a rule of what becomes of packets before a stage
abbrev pub MeetsBefore : Site → Sheet → (Aim → List ℕ → Stage → Transit → Outcome) → ℕ → Type 0
MeetsBefore site s before k = (p : List ℕ) × IsWithin (tops_of site) p
    × ((next : Stage → Transit → Outcome) → future nowhere (before (aim_at k next) p) s.roll.classes.items (class_at s p) p ≡ caught)

-- what becomes of each packet in the first sheet by the first rule is what becomes of it in the second sheet by the second, where
-- nothing is sought that was reached
pub record Becomes (site : Site) (old new : Sheet) (before : Aim → List ℕ → Stage → Transit → Outcome) : Type 0 where
  pub kept : (a : Aim) (p : List ℕ) → IsOpen new.reached.items a → IsWithin (tops_of site) p
      → future nowhere a.next new.roll.classes.items (class_at new p) p ≡ future nowhere (before a p) old.roll.classes.items (class_at old p) p
  pub tells : Tells old.reached.items new.reached.items (MeetsBefore site old before)

-- what becomes of a packet before a part, by what becomes of it behind
abbrev pub part_fate : List Ins → Site → Packet → Kind → (ℕ → Bool) → Part → (Transit → Outcome) → Transit → Outcome
part_fate code site p k sought part next t = fate site p k part sought next part.first (part_code code part) 0 (with_verdict part.end t)

-- what becomes of a packet before parts, by what becomes of it behind
abbrev pub parts_fate : List Ins → Site → Packet → Kind → (ℕ → Bool) → List Part → (Transit → Outcome) → Transit → Outcome
parts_fate code site p k sought [] next t = next t
parts_fate code site p k sought (part ∷ parts) next t = part_fate code site p k sought part (parts_fate code site p k sought parts next) t

-- what becomes of a packet before a part of a stage, by what becomes of it behind
abbrev pub through_part : List Ins → Site → State → Stage → Part → Aim → List ℕ → Stage → Transit → Outcome
through_part code site state stage part a p other t =
    if same_stage stage other then part_fate code site (packet_of p) (kind_of state p) a.sought part (a.next other) t else a.next other t

-- what becomes of a packet before the parts of a stage
abbrev pub through_parts : List Ins → Site → State → Stage → List Part → Aim → List ℕ → Stage → Transit → Outcome
through_parts code site state stage parts a p other t =
    if same_stage stage other then parts_fate code site (packet_of p) (kind_of state p) a.sought parts (a.next other) t else a.next other t

-- what becomes of a packet before routing: it is delivered or forwarded, if the site forwards
abbrev pub through_routing : Site → Aim → List ℕ → Stage → Transit → Outcome
through_routing site a p Arrive t = if is_local site t.packet.dst then a.next Deliver t else if site.forwarding then a.next Forward t else outcomes.Drop
through_routing site a p other t = a.next other t

-- what becomes of a packet that stands before arrival until it comes in: the host's own is sent, any other arrives
abbrev pub coming_in : (Stage → Transit → Outcome) → List ℕ → Stage → Transit → Outcome
coming_in next p Arrive t = if nat_eq (packet_of p).entry 0 then next Send t else next Arrive t
coming_in next p other t = next other t

-- where a packet goes on that isn't delivered
abbrev pub onward_spot : Bool → Spot
onward_spot true = Before Forward
onward_spot false = Dropped

-- what becomes of a packet that has passed all stages
abbrev pub passed : State → List ℕ → Stage → Transit → Outcome
passed state p stage t = outcome_of (kind_of state p) (Some t)

-- the outcome of packets of a class that have passed all stages: new ones are accepted with what was written, established
-- ones without a rewriting
abbrev pub spot_outcome : State → Rewrite → Spot → Outcome
spot_outcome states.Fresh w (Before stage) = outcomes.Accept w
spot_outcome states.Est w (Before stage) = outcomes.Accept nothing_written
spot_outcome state w _ = outcomes.Drop

abbrev pub class_outcome : State → Class → Outcome
class_outcome state c = spot_outcome state c.progress.wrote c.spot
