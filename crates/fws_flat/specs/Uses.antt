-- Which instructions a packet's walk uses: those that it comes to and whose conditions hold, in their order.
use Rattle.std.specs.Prelude.{ℕ, suc, Bool, nat_eq, nat_lt, List, [], ◌∷◌, ◌++◌, if◌then◌else◌}
use Rattle.std.specs.List.{list_any}
use Rattle.std.specs.Option.{option_map_or}
use Rattle.fws_net.specs.declared.packet.Packet.{Packet}
use Rattle.fws_net.specs.declared.connection.Kind.{Kind}
use Rattle.fws_net.specs.declared.site.Site.{Site}
use Rattle.fws_net.specs.declared.transit.Transit.{Transit}
use Rattle.fws_net.specs.Conditions.{holds}
use Rattle.fws_net.specs.Transits.{with_verdict, used_by}
use Rattle.fws_flat.specs.declared.code.Ins.{Ins}
use Rattle.fws_flat.specs.declared.code.Part.{Part}
use Rattle.fws_flat.specs.declared.code.Flat.{Flat}
use Rattle.fws_flat.specs.declared.step.Step.{Step}
use Rattle.fws_flat.specs.declared.step.Step.TheVariants.{Leave, Onwards}
use Rattle.fws_flat.specs.Walk.{sees, step_of, part_code, part_walk, parts_walk}

-- what is used behind an instruction, by what go gives from a place on
abbrev pub used_behind : (ℕ → Transit → List ℕ) → Step → List ℕ
used_behind go (Leave end) = []
used_behind go (Onwards to t) = go to t

-- what is used of instructions, of which the first has the place at; those before the place to are passed over
abbrev pub code_used : Site → Packet → Kind → Part → ℕ → List Ins → ℕ → Transit → List ℕ
code_used site p k part at [] to t = []
code_used site p k part at (i ∷ is) to t =
    if nat_lt at to then code_used site p k part (suc at) is to t
    else if holds i.cond (sees site k part t) then at ∷ used_behind (code_used site p k part (suc at) is) (step_of p k i.act t)
    else code_used site p k part (suc at) is 0 t

abbrev pub part_used : List Ins → Site → Packet → Kind → Part → Transit → List ℕ
part_used code site p k part t = code_used site p k part part.first (part_code code part) 0 (with_verdict part.end t)

-- what is used in parts, until one drops the packet
abbrev pub parts_used : List Ins → Site → Packet → Kind → List Part → Transit → List ℕ
parts_used code site p k [] t = []
parts_used code site p k (part ∷ parts) t =
    part_used code site p k part t ++ option_map_or (parts_used code site p k parts) (part_walk code site p k part t) []

-- the places of the instructions that the walk of a packet of class k uses, in the order in which it comes to them
abbrev pub used_places : Flat → Site → Packet → Kind → List ℕ
used_places f site p k = used_by (parts_walk f.code site p k f.arrive) (parts_used f.code site p k f.arrive)
    (parts_used f.code site p k f.deliver) (parts_used f.code site p k f.forward) (parts_used f.code site p k f.send) site p

-- the walk of a packet of class k comes to instruction n, and its condition holds there
abbrev pub uses : Flat → Site → Packet → Kind → ℕ → Bool
uses f site p k n = list_any (nat_eq n) (used_places f site p k)
