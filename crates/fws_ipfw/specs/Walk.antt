-- What one packet meets, rule by rule (ipfw(8)).
use Rattle.std.specs.Prelude.{ℕ, Bool, true, false, ◌&&◌, nat_eq, nat_lt, Option, Some, None, is_none, List, [], ◌∷◌, if◌then◌else◌}
use Rattle.std.specs.List.{find}
use Rattle.std.specs.Option.{option_map_or}
use Rattle.fws_net.specs.declared.packet.Packet.{Packet}
use Rattle.fws_net.specs.declared.outcome.End.{End}
use Rattle.fws_net.specs.declared.outcome.Outcome.{Outcome}
use Rattle.fws_net.specs.declared.connection.Kind.{Kind}
use Rattle.fws_net.specs.declared.connection.Kind.TheVariants.{New, Est}
use Rattle.fws_net.specs.declared.site.Site.{Site}
use Rattle.fws_net.specs.declared.transit.Transit.{Transit}
use Rattle.fws_net.specs.declared.view.View.{View}
use Rattle.fws_net.specs.Conditions.{holds}
use Rattle.fws_net.specs.Connections.{is_est}
use Rattle.fws_net.specs.Ends.{host_end}
use Rattle.fws_net.specs.Transits.{seen, with_dst, with_src, with_tag, without_tag, with_tracked_dst, with_tracked_src, way_by, outcome_of}
use Rattle.fws_ipfw.specs.declared.config.IpfwAct.{IpfwAct}
use Rattle.fws_ipfw.specs.declared.config.IpfwAct.TheVariants.{Allow, Deny, Count, Skip, Check, Nat}
use Rattle.fws_ipfw.specs.declared.config.IpfwTag.{IpfwTag}
use Rattle.fws_ipfw.specs.declared.config.IpfwTag.TheVariants.{Nothing, Add, Remove}
use Rattle.fws_ipfw.specs.declared.config.IpfwRule.{IpfwRule}
use Rattle.fws_ipfw.specs.declared.config.IpfwConfig.{IpfwConfig}
use Rattle.fws_ipfw.specs.declared.config.IpfwNat.{IpfwNat}
use Rattle.fws_ipfw.specs.declared.config.Redirect.{Redirect}
use Rattle.fws_ipfw.specs.declared.pass.Pass.{Pass}
use Rattle.fws_ipfw.specs.declared.pass.Step.{Step}
use Rattle.fws_ipfw.specs.declared.pass.Step.TheVariants.{Accepted, Dropped, Onwards}

-- What a rule sees

-- the receiving interface is shown on both passes, the sending one on the out pass
abbrev pub view_on : Site → Kind → Bool → Transit → View
view_on site k outward t = seen site true outward outward (is_est k) t

-- Translation

-- an end is this address, and this port where it has one
abbrev pub is_end : End → ℕ → ℕ → Bool
is_end e addr port = nat_eq e.addr addr && option_map_or (nat_eq port) e.port true

-- a redirect of ports is for the protocol
abbrev pub is_of_proto : Redirect → ℕ → Bool
is_of_proto r proto = option_map_or (nat_eq proto) r.proto false

-- the packet goes to the outer end of a redirect of ports, or of addresses
abbrev pub goes_to_port : Packet → Redirect → Bool
goes_to_port p r = is_of_proto r p.proto && is_end r.public p.dst p.dport

abbrev pub goes_to_addr : Packet → Redirect → Bool
goes_to_addr p r = is_none r.proto && is_end r.public p.dst p.dport

-- the packet comes from the inner end of a redirect of ports, or of addresses
abbrev pub comes_from_port : Packet → Redirect → Bool
comes_from_port p r = is_of_proto r p.proto && is_end r.local p.src p.sport

abbrev pub comes_from_addr : Packet → Redirect → Bool
comes_from_addr p r = is_none r.proto && is_end r.local p.src p.sport

abbrev pub or_else : Option Redirect → Option Redirect → Option Redirect
or_else None other = other
or_else (Some r) other = Some r

-- the redirect of a packet that comes in: the first of ports to whose outer end it goes, else the first of addresses
abbrev pub redirect_in : List Redirect → Packet → Option Redirect
redirect_in rs p = or_else (find (goes_to_port p) rs) (find (goes_to_addr p) rs)

-- the redirect of a packet that goes out: the first of ports from whose inner end it comes, else the first of addresses
abbrev pub redirect_out : List Redirect → Packet → Option Redirect
redirect_out rs p = or_else (find (comes_from_port p) rs) (find (comes_from_addr p) rs)

-- a new packet that comes in gets the inner end of its redirect, and keeps its destination without one
abbrev pub translated_in : IpfwNat → Packet → Transit → Transit
translated_in nat p t = option_map_or (λ r. with_dst p r.local t) (redirect_in nat.redirects t.packet) t

-- a new packet that goes out gets the outer end of its redirect, and the instance's address without one
abbrev pub translated_out : IpfwNat → Packet → Transit → Transit
translated_out nat p t = with_src p (option_map_or (λ r. r.public) (redirect_out nat.redirects t.packet) (host_end nat.alias None)) t

-- an established packet gets the end with which it leaves: its destination as it comes in, its source as it goes out
abbrev pub tracked_on : Kind → Bool → Transit → Transit
tracked_on k true t = with_tracked_src k t
tracked_on k false t = with_tracked_dst k t

-- the instance with a number
abbrev pub nat_numbered : ℕ → List IpfwNat → Option IpfwNat
nat_numbered n nats = find (λ nat. nat_eq nat.number n) nats

-- what an instance makes of a packet that entered as p
abbrev pub translated_by : Packet → Kind → Bool → IpfwNat → Transit → Transit
translated_by p New true nat t = translated_out nat p t
translated_by p New false nat t = translated_in nat p t
translated_by p (Est r) outward nat t = tracked_on (Est r) outward t

-- a packet is translated once in a pass
abbrev pub translated : Packet → Kind → Bool → Option IpfwNat → Pass → Pass
translated p k outward nat m =
    if m.translated then m
    else record { transit = option_map_or (λ n. translated_by p k outward n m.transit) nat m.transit; translated = true }

-- Rules

-- a pass ends accepted: an established packet gets the end with which it leaves, at the latest here
abbrev pub ended : Kind → Bool → Pass → Transit
ended k outward m = if m.translated then m.transit else tracked_on k outward m.transit

abbrev pub tagged : IpfwTag → Transit → Transit
tagged Nothing t = t
tagged (Add n) t = with_tag n t
tagged (Remove n) t = without_tag n t

-- an established packet passes at a check-state rule, a new one goes on behind it
abbrev pub checked : Kind → Bool → Pass → Step
checked New outward m = Onwards 0 m
checked (Est r) outward m = Accepted (ended (Est r) outward m)

-- behind a translation the pass ends, or goes on at the next rule
abbrev pub behind : Bool → Pass → Step
behind ends m = if ends then Accepted m.transit else Onwards 0 m

-- what a rule does with a packet of class k that entered as p
abbrev pub step_of : IpfwConfig → Site → Packet → Kind → Bool → IpfwAct → Pass → Step
step_of c site p k outward Allow m = Accepted (ended k outward m)
step_of c site p k outward Deny m = Dropped
step_of c site p k outward Count m = Onwards 0 m
step_of c site p k outward (Skip n) m = Onwards n m
step_of c site p k outward Check m = checked k outward m
step_of c site p k outward (Nat n) m = behind site.one_pass (translated p k outward (nat_numbered n c.nats) m)

-- a step, where the walk goes on at the rules behind by their least number
abbrev pub stepped : (ℕ → Pass → Option Transit) → Step → Option Transit
stepped go (Accepted t) = Some t
stepped go Dropped = None
stepped go (Onwards to m) = go to m

-- the rules in their order; those with a number below `to` are passed over, and behind all of them the packet is dropped.
-- An established packet passes at a rule that keeps state, whether its condition holds or not
abbrev pub rules_walk : IpfwConfig → Site → Packet → Kind → Bool → List IpfwRule → ℕ → Pass → Option Transit
rules_walk c site p k outward [] to m = None
rules_walk c site p k outward (r ∷ rs) to m =
    if nat_lt r.number to then rules_walk c site p k outward rs to m
    else if is_est k && r.keep then Some (ended k outward m)
    else if holds r.cond (view_on site k outward m.transit)
    then stepped (rules_walk c site p k outward rs) (step_of c site p k outward r.act (record m { transit = tagged r.tag m.transit }))
    else rules_walk c site p k outward rs 0 m

-- The ways of a packet

-- a pass through all rules
abbrev pub pass_walk : IpfwConfig → Site → Packet → Kind → Bool → Transit → Option Transit
pass_walk c site p k outward t = rules_walk c site p k outward c.rules 0 (record { transit = t; translated = false })

-- the whole way of a packet: what is delivered makes an in pass, what is forwarded an in pass and an out pass, and the
-- host's own an out pass, an established one with the destination with which it leaves from the start
abbrev pub way_of : IpfwConfig → Site → Packet → Kind → Option Transit
way_of c site p k =
    way_by (pass_walk c site p k false) Some (pass_walk c site p k true) (λ t. pass_walk c site p k true (with_tracked_dst k t)) site p

-- what becomes of a packet of a class
abbrev pub walk : IpfwConfig → Site → Packet → Kind → Outcome
walk c site p k = outcome_of k (way_of c site p k)
