-- Ways on which every packet is dropped, whatever it is.
use Rattle.std.specs.Prelude.{ℕ, suc, max, Bool, true, false, ◌&&◌, ◌||◌, not, nat_le, List, [], ◌∷◌, if◌then◌else◌}
use Rattle.std.specs.List.{list_any}
use Rattle.fws_net.specs.declared.condition.Lit.{Lit}
use Rattle.fws_net.specs.declared.condition.Test.{Test}
use Rattle.fws_net.specs.declared.condition.Test.TheVariants.{Est}
use Rattle.fws_net.specs.declared.packet.State.{State}
use Rattle.fws_net.specs.declared.packet.State.TheVariants as states
use Rattle.fws_flat.specs.declared.code.Flat.{Flat}
use Rattle.fws_flat.specs.declared.code.FlatAct.{FlatAct}
use Rattle.fws_flat.specs.declared.code.FlatAct.TheVariants.{Accept, Drop, Hold, Jump}
use Rattle.fws_flat.specs.declared.code.Ins.{Ins}
use Rattle.fws_flat.specs.declared.code.Part.{Part}
use Rattle.fws_flat.specs.Walk.{part_code}
use Rattle.fws_exec.specs.declared.closed.Outlook.{Outlook}
use Rattle.fws_exec.specs.declared.closed.Outlook.TheVariants.{Open, Closed, Further}
use Rattle.fws_exec.specs.declared.closed.Parts.{Parts}

-- packets belong to tracked connections
abbrev pub is_established : State → Bool
is_established states.Fresh = false
is_established states.Est = true

-- a literal, negated or not, asks for packets of the other kind
abbrev pub asks_other : Bool → Bool → Test → Bool
asks_other established negated Est = if negated then established else not established
asks_other established negated _ = false

-- some literal of a condition does
abbrev pub is_for_others : Bool → List Lit → Bool
is_for_others established cond = list_any (λ lit. asks_other established lit.not lit.test) cond

-- nothing is asked
abbrev pub is_always : List Lit → Bool
is_always [] = true
is_always (lit ∷ lits) = false

-- what becomes of packets behind an act at a place, by what became of those ahead of it: whether the verdict so far may be to
-- accept, and the furthest place to which one jumped. An act that drops them all is one that none passes over
abbrev pub outlook_behind : Bool → ℕ → Bool → ℕ → FlatAct → Outlook
outlook_behind always at accepts furthest Accept = Open
outlook_behind always at accepts furthest Drop = if always && nat_le furthest at then Closed else Further accepts furthest
outlook_behind always at accepts furthest (Hold accept) = Further (accepts || accept) furthest
outlook_behind always at accepts furthest (Jump to) = Further accepts (max furthest to)
outlook_behind always at accepts furthest act = Further accepts furthest

-- the same of an instruction: one that asks for packets of the other kind does nothing to these
abbrev pub outlook_at : Bool → ℕ → Bool → ℕ → Ins → Outlook
outlook_at established at accepts furthest ins =
    if is_for_others established ins.cond then Further accepts furthest
    else outlook_behind (is_always ins.cond) at accepts furthest ins.act

-- all are dropped, by what is told of those that are left in the part
abbrev pub drops_behind : (Bool → ℕ → Bool) → Outlook → Bool
drops_behind go Open = false
drops_behind go Closed = true
drops_behind go (Further accepts furthest) = go accepts furthest

-- instructions drop every packet, of which the first has the place at
abbrev pub drops : Bool → ℕ → List Ins → Bool → ℕ → Bool
drops established at [] accepts furthest = not accepts
drops established at (i ∷ is) accepts furthest = drops_behind (drops established (suc at) is) (outlook_at established at accepts furthest i)

-- a part drops every packet
abbrev pub is_closed_part : Bool → List Ins → Part → Bool
is_closed_part established code part = drops established part.first (part_code code part) part.end 0

-- one of the parts does
abbrev pub is_closed : Bool → List Ins → List Part → Bool
is_closed established code parts = list_any (is_closed_part established code) parts

-- a part that drops every packet at once
abbrev pub dropped : Part
dropped = record { first = 0; past = 0; shows_recv = false; shows_xmit = false; outward = false; end = false }

-- a way along parts, or one that drops every packet at once
abbrev pub way_along : Bool → List Part → List Part
way_along closed parts = if closed then dropped ∷ [] else parts

-- flat code of which packets meet these parts
abbrev pub flat_along : List Ins → Parts → Flat
flat_along code parts = record { code = code; arrive = parts.arrive.now; deliver = parts.deliver.now; forward = parts.forward.now; send = parts.send.now }
