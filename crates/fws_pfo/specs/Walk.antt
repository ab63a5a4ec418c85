-- What one packet meets, rule by rule (pf.conf(5) of OpenBSD).
use Rattle.std.specs.Prelude.{Bool, true, false, ◌&&◌, Option, Some, None, List, [], ◌∷◌, if◌then◌else◌}
use Rattle.std.specs.Option.{option_map_or}
use Rattle.fws_net.specs.declared.packet.Packet.{Packet}
use Rattle.fws_net.specs.declared.outcome.End.{End}
use Rattle.fws_net.specs.declared.outcome.Outcome.{Outcome}
use Rattle.fws_net.specs.declared.connection.Kind.{Kind}
use Rattle.fws_net.specs.declared.connection.Kind.TheVariants.{New, Est}
use Rattle.fws_net.specs.declared.site.Site.{Site}
use Rattle.fws_net.specs.declared.transit.Transit.{Transit}
use Rattle.fws_net.specs.Conditions.{holds, is_shown}
use Rattle.fws_net.specs.Transits.{with_tracked_dst, with_verdict, decided, way_by, outcome_of}
use Rattle.fws_pf.specs.Walk.{view_on, tagged, written, is_met, interface_of}
use Rattle.fws_pfo.specs.declared.config.PfoKind.{PfoKind}
use Rattle.fws_pfo.specs.declared.config.PfoKind.TheVariants.{Pass, Block, Match}
use Rattle.fws_pfo.specs.declared.config.PfoRule.{PfoRule}
use Rattle.fws_pfo.specs.declared.config.PfoConfig.{PfoConfig}

-- What a rule sees, where it is met and which tag it puts are those of FreeBSD's pf, and so is over which end is written: over the
-- source as packets go out, over the destination as they come in.

-- the rule is met on the pass, and its condition holds for the packet as it stands
abbrev pub matches : Site → Bool → PfoRule → Transit → Bool
matches site outward r t = is_met r.way outward && holds r.cond (view_on site outward t)

-- an end, if there is one, is written over what the packet had as it entered as p, in place of one that was written there
abbrev pub moved : Packet → Bool → Option End → Transit → Transit
moved p outward to t = option_map_or (λ e. written p outward e t) to t

-- Rules

-- what a rule does to the packet at once, by its kind: `pass` and `block` set the verdict, and `match` writes its end
abbrev pub acted_by : Packet → Bool → Option End → PfoKind → Transit → Transit
acted_by p outward to Pass t = with_verdict true t
acted_by p outward to Block t = with_verdict false t
acted_by p outward to Match t = moved p outward to t

-- a rule that matches puts its tag as well, which becomes the only one
abbrev pub acted : Packet → Bool → PfoRule → Transit → Transit
acted p outward r t = acted_by p outward r.to r.kind (tagged r.tag t)

-- the end that is held behind a rule that matches: that of the last `pass` or `block`, or none where that one has none
abbrev pub held_by : Option End → PfoKind → Option End → Option End
held_by to Pass held = to
held_by to Block held = to
held_by to Match held = held

abbrev pub held_behind : PfoRule → Option End → Option End
held_behind r held = held_by r.to r.kind held

-- where the rules end, a packet that they pass gets the end that is held
abbrev pub ended : Packet → Bool → Option End → Transit → Option Transit
ended p outward held t = decided (moved p outward held t)

-- the rules in their order: each that matches acts, and those behind it see the packet as it then stands; behind one that is quick
-- the rules end
abbrev pub rules_walk : Site → Packet → Bool → List PfoRule → Option End → Transit → Option Transit
rules_walk site p outward [] held t = ended p outward held t
rules_walk site p outward (r ∷ rs) held t =
    if matches site outward r t
    then (if r.quick then ended p outward (held_behind r held) (acted p outward r t)
    else rules_walk site p outward rs (held_behind r held) (acted p outward r t))
    else rules_walk site p outward rs held t

-- Passes

-- the pass of a new packet, which the verdict so far passes, and for which no end is held; on an interface that is skipped nothing
-- is met
abbrev pub pass_walk : PfoConfig → Site → Packet → Bool → Transit → Option Transit
pass_walk c site p outward t =
    if is_shown (interface_of site outward t) c.skip then Some t else rules_walk site p outward c.rules None (with_verdict true t)

-- an established packet passes, behind the in pass with the destination with which it leaves
abbrev pub pass_of : PfoConfig → Site → Packet → Kind → Bool → Transit → Option Transit
pass_of c site p New outward t = pass_walk c site p outward t
pass_of c site p (Est r) true t = Some t
pass_of c site p (Est r) false t = Some (with_tracked_dst (Est r) t)

-- the whole way of a packet: what is delivered makes an in pass, what is forwarded an in pass and an out pass, and the host's own
-- an out pass
abbrev pub way_of : PfoConfig → Site → Packet → Kind → Option Transit
way_of c site p k = way_by (pass_of c site p k false) Some (pass_of c site p k true) (pass_of c site p k true) site p

-- what becomes of a packet of a class
abbrev pub walk : PfoConfig → Site → Packet → Kind → Outcome
walk c site p k = outcome_of k (way_of c site p k)
