-- What one packet meets, rule by rule (pf.conf(5)).
use Rattle.std.specs.Prelude.{ℕ, Bool, true, false, not, Option, Some, None, List, [], ◌∷◌, if◌then◌else◌, ◌&&◌}
use Rattle.std.specs.List.{find}
use Rattle.std.specs.Option.{option_map_or}
use Rattle.fws_net.specs.declared.packet.Packet.{Packet}
use Rattle.fws_net.specs.declared.outcome.End.{End}
use Rattle.fws_net.specs.declared.outcome.Outcome.{Outcome}
use Rattle.fws_net.specs.declared.connection.Kind.{Kind}
use Rattle.fws_net.specs.declared.connection.Kind.TheVariants.{New, Est}
use Rattle.fws_net.specs.declared.site.Site.{Site}
use Rattle.fws_net.specs.declared.transit.Transit.{Transit}
use Rattle.fws_net.specs.declared.view.View.{View}
use Rattle.fws_net.specs.Conditions.{holds, is_shown}
use Rattle.fws_net.specs.Showing.{receiving, sending}
use Rattle.fws_net.specs.Transits.{seen, with_dst, with_src, with_only_tag, with_tracked_dst, with_verdict, decided, way_by, outcome_of}
use Rattle.fws_pf.specs.declared.config.Way.{Way}
use Rattle.fws_pf.specs.declared.config.Way.TheVariants.{Both, Inward, Outward}
use Rattle.fws_pf.specs.declared.config.PfRule.{PfRule}
use Rattle.fws_pf.specs.declared.config.PfNat.{PfNat}
use Rattle.fws_pf.specs.declared.config.PfConfig.{PfConfig}

-- what a rule sees of a new packet: the receiving interface on both passes, the sending one on the out pass
abbrev pub view_on : Site → Bool → Transit → View
view_on site outward t = seen site true outward outward false t

-- a tag that is put becomes the only one
abbrev pub tagged : Option ℕ → Transit → Transit
tagged tag t = option_map_or (λ n. with_only_tag n t) tag t

-- Translation

-- the end goes over the source as packets go out, and over the destination as they come in
abbrev pub written : Packet → Bool → End → Transit → Transit
written p true e t = with_src p e t
written p false e t = with_dst p e t

-- what a translation makes of a packet that entered as p; one with `no` writes nothing
abbrev pub translated_by : Packet → Bool → PfNat → Transit → Transit
translated_by p outward nat t = tagged nat.tag (option_map_or (λ e. written p outward e t) nat.to t)

-- the translations of a pass
abbrev pub translations : PfConfig → Bool → List PfNat
translations c outward = if outward then c.nat else c.rdr

-- the first translation whose condition holds
abbrev pub chosen : Site → Bool → List PfNat → Transit → Option PfNat
chosen site outward nats t = find (λ nat. holds nat.cond (view_on site outward t)) nats

-- Filter rules

abbrev pub is_met : Way → Bool → Bool
is_met Both outward = true
is_met Inward outward = not outward
is_met Outward outward = outward

-- the rule is met on the pass, and its condition holds
abbrev pub matches : Site → Bool → PfRule → Transit → Bool
matches site outward r t = is_met r.way outward && holds r.cond (view_on site outward t)

-- a rule that matches puts its tag, and its verdict holds so far
abbrev pub acted : PfRule → Transit → Transit
acted r t = with_verdict r.pass (tagged r.tag t)

-- the rules in their order: the last one that matches decides, unless one that is quick matches ahead of it; where none
-- matches the packet passes
abbrev pub rules_walk : Site → Bool → List PfRule → Transit → Option Transit
rules_walk site outward [] t = decided t
rules_walk site outward (r ∷ rs) t =
    if matches site outward r t then (if r.quick then decided (acted r t) else rules_walk site outward rs (acted r t))
    else rules_walk site outward rs t

-- Passes

-- behind its translation a packet meets the filter, unless the translation passes it
abbrev pub behind : PfConfig → Site → Packet → Bool → Option PfNat → Transit → Option Transit
behind c site p outward None t = rules_walk site outward c.filter t
behind c site p outward (Some nat) t =
    if nat.past then Some (translated_by p outward nat t) else rules_walk site outward c.filter (translated_by p outward nat t)

-- the interface of a pass
abbrev pub interface_of : Site → Bool → Transit → Option ℕ
interface_of site true t = sending site t.packet
interface_of site false t = receiving t.packet

-- the pass of a new packet; on an interface that is skipped nothing is met
abbrev pub pass_walk : PfConfig → Site → Packet → Bool → Transit → Option Transit
pass_walk c site p outward t =
    if is_shown (interface_of site outward t) c.skip then Some t
    else behind c site p outward (chosen site outward (translations c outward) t) t

-- an established packet passes, behind the in pass with the destination with which it leaves
abbrev pub pass_of : PfConfig → Site → Packet → Kind → Bool → Transit → Option Transit
pass_of c site p New outward t = pass_walk c site p outward t
pass_of c site p (Est r) true t = Some t
pass_of c site p (Est r) false t = Some (with_tracked_dst (Est r) t)

-- the whole way of a packet: what is delivered makes an in pass, what is forwarded an in pass and an out pass, and the host's own
-- an out pass
abbrev pub way_of : PfConfig → Site → Packet → Kind → Option Transit
way_of c site p k = way_by (pass_of c site p k false) Some (pass_of c site p k true) (pass_of c site p k true) site p

-- what becomes of a packet of a class
abbrev pub walk : PfConfig → Site → Packet → Kind → Outcome
walk c site p k = outcome_of k (way_of c site p k)
