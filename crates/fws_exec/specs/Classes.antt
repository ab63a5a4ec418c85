-- Classes of packets: what they have in common, and what becomes of a packet of a class.
use Rattle.std.specs.Prelude.{ℕ, ◌+◌, Bool, true, false, nat_eq, nat_lt, Option, Some, None, List, [], slice_index, slice_get, if◌then◌else◌}
use Rattle.std.specs.Option.{option_map_or}
use Rattle.fws_net.specs.declared.packet.State.{State}
use Rattle.fws_net.specs.declared.packet.State.TheVariants as states
use Rattle.fws_net.specs.declared.connection.Rec.{Rec}
use Rattle.fws_net.specs.declared.connection.Kind.{Kind}
use Rattle.fws_net.specs.declared.connection.Kind.TheVariants as kinds
use Rattle.fws_net.specs.declared.outcome.End.{End}
use Rattle.fws_net.specs.declared.outcome.Outcome.{Outcome}
use Rattle.fws_net.specs.declared.outcome.Outcome.TheVariants as outcomes
use Rattle.fws_net.specs.declared.transit.Transit.{Transit}
use Rattle.fws_net.specs.Transits.{nothing_written}
use Rattle.fws_flat.specs.declared.step.Step.{Step}
use Rattle.fws_flat.specs.declared.step.Step.TheVariants.{Leave, Onwards}
use Rattle.fws_box_conditions.specs.declared.scene.Standing.{Standing}
use Rattle.fws_box_conditions.specs.declared.scene.Standing.TheVariants.{Entered, Written, Tracked}
use Rattle.fws_box_conditions.specs.declared.scene.Scene.{Scene}
use Rattle.fws_box_conditions.specs.Scenes.{standing_packet}
use Rattle.fws_exec.specs.declared.progress.Progress.{Progress}
use Rattle.fws_exec.specs.declared.spot.Stage.{Stage}
use Rattle.fws_exec.specs.declared.spot.Stage.TheVariants.{Arrive, Deliver, Forward, Send}
use Rattle.fws_exec.specs.declared.spot.Spot.{Spot}
use Rattle.fws_exec.specs.declared.spot.Spot.TheVariants.{Unused, Dropped, At, Before}
use Rattle.fws_exec.specs.declared.spot.Class.{Class}

-- Points

-- the packet of a point as its connection sends it
abbrev pub rec_of : List ℕ → Rec
rec_of p = record { rdst = slice_index p 8; rdport = slice_index p 9; rsrc = slice_index p 10; rsport = slice_index p 11 }

-- the kind of a point's packet: a new one, or one of the connection that the point tells of
abbrev pub kind_of : State → List ℕ → Kind
kind_of states.Fresh p = kinds.New
kind_of states.Est p = kinds.Est (rec_of p)

-- The state of a class

-- how an address and its port stand: as the connection sends them, with an end over them, or as they entered
abbrev pub standing_by : Bool → Option End → Standing
standing_by true end = Tracked
standing_by false None = Entered
standing_by false (Some e) = Written e

-- what stands for a class where no interface is shown
abbrev pub bare_scene : Progress → Scene
bare_scene g = record {
  src = standing_by g.src_tracked g.wrote.src;
  dst = standing_by g.dst_tracked g.wrote.dst;
  shows_recv = false;
  shows_xmit = false;
  outward = false;
  est = false;
  tags = g.tags;
}

-- the packet of a point on its way, if it is of a class that came so far
abbrev pub transit_of : Progress → List ℕ → Transit
transit_of g p = record { packet = standing_packet (bare_scene g) p; tags = g.tags; verdict = g.verdict; wrote = g.wrote }

-- packets to which no rule did anything
abbrev pub untouched : Progress
untouched = record { wrote = nothing_written; src_tracked = false; dst_tracked = false; tags = []; verdict = true }

-- What becomes of a class

-- what becomes of a packet at a spot, by what becomes of it at an instruction and before a stage
abbrev pub meant : (ℕ → Transit → Outcome) → (Stage → Transit → Outcome) → Spot → Transit → Outcome
meant at next Unused t = outcomes.Drop
meant at next Dropped t = outcomes.Drop
meant at next (At place) t = at place t
meant at next (Before stage) t = next stage t

-- what becomes of a packet behind the instruction at a place of a stage
abbrev pub meant_behind : (ℕ → Transit → Outcome) → (Stage → Transit → Outcome) → Stage → ℕ → Step → Outcome
meant_behind at next stage place (Leave None) = outcomes.Drop
meant_behind at next stage place (Leave (Some t)) = next stage t
meant_behind at next stage place (Onwards to t) = at (if nat_eq to 0 then place + 1 else to) t

-- what becomes of the packet of a point in the class with a number
abbrev pub future : (ℕ → Transit → Outcome) → (Stage → Transit → Outcome) → List Class → ℕ → List ℕ → Outcome
future at next classes n p = option_map_or (λ c. meant at next c.spot (transit_of c.progress p)) (slice_get classes n) outcomes.Drop

-- a spot at an instruction before a place
abbrev pub is_before : ℕ → Spot → Bool
is_before place (At n) = nat_lt n place
is_before place _ = false

-- Tests of spots

abbrev pub same_stage : Stage → Stage → Bool
same_stage Arrive Arrive = true
same_stage Deliver Deliver = true
same_stage Forward Forward = true
same_stage Send Send = true
same_stage _ _ = false

-- a spot before a stage
abbrev pub is_at_stage : Stage → Spot → Bool
is_at_stage stage (Before other) = same_stage stage other
is_at_stage stage _ = false

-- the spot of a class that no packet has
abbrev pub is_unused : Spot → Bool
is_unused Unused = true
is_unused _ = false

-- a spot at an instruction
abbrev pub is_inside : Spot → Bool
is_inside (At place) = true
is_inside _ = false

-- the spot of packets that are dropped
abbrev pub is_dropped : Spot → Bool
is_dropped Dropped = true
is_dropped _ = false

-- a spot at the instruction with a place
abbrev pub is_at : ℕ → Spot → Bool
is_at place (At n) = nat_eq place n
is_at place _ = false

abbrev pub same_spot : Spot → Spot → Bool
same_spot Unused other = is_unused other
same_spot Dropped other = is_dropped other
same_spot (At place) other = is_at place other
same_spot (Before stage) other = is_at_stage stage other
