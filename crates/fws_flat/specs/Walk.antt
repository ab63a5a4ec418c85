-- What a packet meets in flat code, place by place.
use Rattle.std.specs.Prelude.{ℕ, suc, ◌-◌, nat_lt, take, drop, Option, Some, None, option_and_then, List, [], ◌∷◌, if◌then◌else◌}
use Rattle.fws_net.specs.declared.packet.Packet.{Packet}
use Rattle.fws_net.specs.declared.outcome.Outcome.{Outcome}
use Rattle.fws_net.specs.declared.connection.Kind.{Kind}
use Rattle.fws_net.specs.declared.site.Site.{Site}
use Rattle.fws_net.specs.declared.transit.Transit.{Transit}
use Rattle.fws_net.specs.declared.view.View.{View}
use Rattle.fws_net.specs.Conditions.{holds}
use Rattle.fws_net.specs.Connections.{is_est}
use Rattle.fws_net.specs.Transits.{seen, with_verdict, with_src, with_dst, with_tracked_src, with_tracked_dst, with_tag, with_only_tag, without_tag, decided, way_by, outcome_of}
use Rattle.fws_flat.specs.declared.code.FlatAct.{FlatAct}
use Rattle.fws_flat.specs.declared.code.FlatAct.TheVariants.{Accept, Drop, Hold, Jump, Src, Dst, RecSrc, RecDst, AddTag, OnlyTag, DelTag}
use Rattle.fws_flat.specs.declared.code.Ins.{Ins}
use Rattle.fws_flat.specs.declared.code.Part.{Part}
use Rattle.fws_flat.specs.declared.code.Flat.{Flat}
use Rattle.fws_flat.specs.declared.step.Step.{Step}
use Rattle.fws_flat.specs.declared.step.Step.TheVariants.{Leave, Onwards}

-- Instructions

-- what an instruction of the part sees of a packet of class k
abbrev pub sees : Site → Kind → Part → Transit → View
sees site k part t = seen site part.shows_recv part.shows_xmit part.outward (is_est k) t

-- what an instruction does with a packet of class k that entered as p. A jump goes on at a later place; the other acts
-- change the transit and go on at the next instruction
abbrev pub step_of : Packet → Kind → FlatAct → Transit → Step
step_of p k Accept t = Leave (Some t)
step_of p k Drop t = Leave None
step_of p k (Hold accepts) t = Onwards 0 (with_verdict accepts t)
step_of p k (Jump to) t = Onwards to t
step_of p k (Src e) t = Onwards 0 (with_src p e t)
step_of p k (Dst e) t = Onwards 0 (with_dst p e t)
step_of p k RecSrc t = Onwards 0 (with_tracked_src k t)
step_of p k RecDst t = Onwards 0 (with_tracked_dst k t)
step_of p k (AddTag n) t = Onwards 0 (with_tag n t)
step_of p k (OnlyTag n) t = Onwards 0 (with_only_tag n t)
step_of p k (DelTag n) t = Onwards 0 (without_tag n t)

-- how the part is left behind an instruction: go walks the instructions behind it from a place on, of which 0 is the next
abbrev pub stepped : (ℕ → Transit → Option Transit) → Step → Option Transit
stepped go (Leave end) = end
stepped go (Onwards to t) = go to t

-- the instructions in their order, of which the first has the place at; those before the place to are passed over. At the
-- end the verdict so far decides
abbrev pub code_walk : Site → Packet → Kind → Part → ℕ → List Ins → ℕ → Transit → Option Transit
code_walk site p k part at [] to t = decided t
code_walk site p k part at (i ∷ is) to t =
    if nat_lt at to then code_walk site p k part (suc at) is to t
    else if holds i.cond (sees site k part t) then stepped (code_walk site p k part (suc at) is) (step_of p k i.act t)
    else code_walk site p k part (suc at) is 0 t

-- Parts

-- the instructions of a part
abbrev pub part_code : List Ins → Part → List Ins
part_code code part = take (part.past - part.first) (drop part.first code)

-- a part: it begins with a verdict of its own; none where the packet is dropped
abbrev pub part_walk : List Ins → Site → Packet → Kind → Part → Transit → Option Transit
part_walk code site p k part t = code_walk site p k part part.first (part_code code part) 0 (with_verdict part.end t)

-- parts in their order, until one drops the packet
abbrev pub parts_walk : List Ins → Site → Packet → Kind → List Part → Transit → Option Transit
parts_walk code site p k [] t = Some t
parts_walk code site p k (part ∷ parts) t = option_and_then (parts_walk code site p k parts) (part_walk code site p k part t)

-- the whole way of a packet of class k
abbrev pub way_of : Flat → Site → Packet → Kind → Option Transit
way_of f site p k = way_by (parts_walk f.code site p k f.arrive) (parts_walk f.code site p k f.deliver)
    (parts_walk f.code site p k f.forward) (parts_walk f.code site p k f.send) site p

-- what becomes of a packet of class k
abbrev pub means : Flat → Site → Packet → Kind → Outcome
means f site p k = outcome_of k (way_of f site p k)
