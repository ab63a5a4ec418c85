-- Where packets go, and what becomes of them there.
use Rattle.std.specs.Prelude.{◌≡◌, ℕ, ◌+◌, ◌-◌, nat_eq, nat_le, List, if◌then◌else◌}
use Rattle.fws_flat.specs.declared.code.FlatAct.{FlatAct}
use Rattle.fws_flat.specs.declared.code.FlatAct.TheVariants.{Accept, Drop, Jump}
use Rattle.fws_flat.specs.Walk.{step_of}
use Rattle.fws_net.specs.declared.outcome.Outcome.{Outcome}
use Rattle.fws_net.specs.declared.transit.Transit.{Transit}
use Rattle.fws_net.specs.Points.{packet_of}
use Rattle.fws_exec.specs.declared.going.Going.{Going}
use Rattle.fws_exec.specs.declared.going.Going.TheVariants.{To, Behind, Leaving}
use Rattle.fws_exec.specs.declared.progress.Progress.{Progress}
use Rattle.fws_exec.specs.declared.spot.Class.{Class}
use Rattle.fws_exec.specs.declared.spot.Spot.{Spot}
use Rattle.fws_exec.specs.declared.spot.Spot.TheVariants.{Dropped, At, Before}
use Rattle.fws_exec.specs.declared.spot.Stage.{Stage}
use Rattle.fws_exec.specs.Classes.{kind_of, meant, meant_behind, transit_of}
use Rattle.fws_exec.specs.Sheets.{IsUsed}

-- where packets stand behind the instruction at a place of a stage, by its act
abbrev pub act_spot : Stage → ℕ → FlatAct → Spot
act_spot stage place Accept = Before stage
act_spot stage place Drop = Dropped
act_spot stage place (Jump to) = At to
act_spot stage place _ = At (place + 1)

-- the label of an act in a run that begins at a place: how far a jump goes, and 2
abbrev pub label_of : ℕ → FlatAct → ℕ
label_of place Accept = 1
label_of place (Jump to) = (to - place) + 2
label_of place _ = 2

-- the spot to which a label sends packets in a run that begins at a place
abbrev pub spot_of : Stage → ℕ → ℕ → Spot
spot_of stage place label = if nat_eq label 1 then Before stage else if nat_le label 2 then Dropped else At (place + (label - 2))

-- where packets stand that go at a label
abbrev pub lands : Going → ℕ → Spot
lands (To spot) label = spot
lands (Behind state stage place act) label = act_spot stage place act
lands (Leaving stage place) label = spot_of stage place label

-- what becomes of the packet of a point that goes at a label, by what becomes of it at an instruction and before a stage
abbrev pub meant_gone : (ℕ → Transit → Outcome) → (Stage → Transit → Outcome) → Going → ℕ → List ℕ → Transit → Outcome
meant_gone at next (To spot) label p t = meant at next spot t
meant_gone at next (Behind state stage place act) label p t = meant_behind at next stage place (step_of (packet_of p) (kind_of state p) act t)
meant_gone at next (Leaving stage place) label p t = meant at next (spot_of stage place label) t

-- packets to which rules did this go to this class at a label
abbrev pub Goes : Going → ℕ → Progress → Class → Type 0
Goes going label g c = (c.spot ≡ lands going label)
    × ((at : ℕ → Transit → Outcome) (next : Stage → Transit → Outcome) (p : List ℕ) → meant at next c.spot (transit_of c.progress p) ≡ meant_gone at next going label p (transit_of g p))

-- packets to which rules did this are of class z, to which they go at a label
abbrev pub IsGone : Going → ℕ → Progress → List Class → ℕ → Type 0
IsGone going label g classes z = (d : Class) × IsUsed classes z d × Goes going label g d
