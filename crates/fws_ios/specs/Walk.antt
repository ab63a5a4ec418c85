-- What one packet meets, entry by entry (Cisco IOS).
use Rattle.std.specs.Prelude.{ℕ, Bool, true, false, ◌&&◌, not, nat_eq, Option, Some, None, option_map, List, [], ◌∷◌, if◌then◌else◌}
use Rattle.std.specs.List.{find}
use Rattle.std.specs.Option.{option_map_or}
use Rattle.std.specs.Str.{bytes_eq}
use Rattle.fws_net.specs.declared.packet.Packet.{Packet}
use Rattle.fws_net.specs.declared.outcome.End.{End}
use Rattle.fws_net.specs.declared.outcome.Outcome.{Outcome}
use Rattle.fws_net.specs.declared.connection.Kind.{Kind}
use Rattle.fws_net.specs.declared.connection.Kind.TheVariants.{New, Est}
use Rattle.fws_net.specs.declared.site.Site.{Site}
use Rattle.fws_net.specs.declared.transit.Transit.{Transit}
use Rattle.fws_net.specs.declared.view.View.{View}
use Rattle.fws_net.specs.Conditions.{holds, is_shown}
use Rattle.fws_net.specs.Connections.{is_est}
use Rattle.fws_net.specs.Ends.{host_end}
use Rattle.fws_net.specs.Fates.{has_ports}
use Rattle.fws_net.specs.Showing.{receiving, sending}
use Rattle.fws_net.specs.Transits.{seen, with_dst, with_src, with_tracked_dst, with_tracked_src, way_by, outcome_of}
use Rattle.fws_ios.specs.declared.config.IosEntry.{IosEntry}
use Rattle.fws_ios.specs.declared.config.IosList.{IosList}
use Rattle.fws_ios.specs.declared.config.IosGroup.{IosGroup}
use Rattle.fws_ios.specs.declared.config.IosNat.{IosNat}
use Rattle.fws_ios.specs.declared.config.IosNat.TheVariants.{Static, List as Listed}
use Rattle.fws_ios.specs.declared.config.IosConfig.{IosConfig}

-- Lists

-- what an entry sees: the receiving interface, and as packets go out the sending one too
abbrev pub view_on : Site → Kind → Bool → Transit → View
view_on site k outward t = seen site true outward outward (is_est k) t

-- the first entry whose condition holds decides, and behind all of them the list denies
abbrev pub permits : Site → Kind → Bool → List IosEntry → Transit → Bool
permits site k outward [] t = false
permits site k outward (entry ∷ entries) t =
    if holds entry.cond (view_on site k outward t) then entry.permit else permits site k outward entries t

-- the list of this name
abbrev pub list_named : List ℕ → List IosList → Option IosList
list_named name lists = find (λ l. bytes_eq l.name name) lists

-- what a list says of a packet, where there is no list of the name this
abbrev pub says : IosConfig → Site → Kind → Bool → Bool → List ℕ → Transit → Bool
says c site k outward otherwise name t = option_map_or (λ l. permits site k outward l.entries t) (list_named name c.lists) otherwise

-- Lists at interfaces

-- the interface by which a packet comes in, and that by which it goes out
abbrev pub interface_of : Site → Bool → Transit → Option ℕ
interface_of site outward t = if outward then sending site t.packet else receiving t.packet

-- a list is applied in this direction
abbrev pub is_directed : Bool → IosGroup → Bool
is_directed outward g = if outward then g.outward else not g.outward

-- the list that is applied at this interface, in this direction
abbrev pub group_at : Bool → Option ℕ → List IosGroup → Option IosGroup
group_at outward face groups = find (λ g. is_directed outward g && option_map_or (nat_eq g.face) face false) groups

-- the list at the packet's interface permits it; without one, and where the list isn't defined, every packet passes
abbrev pub passes : IosConfig → Site → Kind → Bool → Transit → Bool
passes c site k outward t = option_map_or (λ g. says c site k outward true g.list t) (group_at outward (interface_of site outward t) c.groups) true

abbrev pub met : IosConfig → Site → Kind → Bool → Transit → Option Transit
met c site k outward t = if passes c site k outward t then Some t else None

-- Translation

-- the packet is of this protocol, if there is one
abbrev pub is_of_proto : Option ℕ → ℕ → Bool
is_of_proto proto n = option_map_or (nat_eq n) proto true

-- an end is this address, and where it has a port, this port of a packet that has ports
abbrev pub is_end : End → ℕ → ℕ → ℕ → Bool
is_end e proto addr port = nat_eq e.addr addr && option_map_or (λ n. has_ports proto && nat_eq n port) e.port true

-- what a static gives as the destination of a packet that goes to its outer end
abbrev pub inner_end : Packet → IosNat → Option End
inner_end p (Static proto local global) = if is_of_proto proto p.proto && is_end global p.proto p.dst p.dport then Some local else None
inner_end p (Listed name addr) = None

-- what a static gives as the source of a packet that comes from its inner end
abbrev pub outer_end : Packet → IosNat → Option End
outer_end p (Static proto local global) = if is_of_proto proto p.proto && is_end local p.proto p.src p.sport then Some global else None
outer_end p (Listed name addr) = None

-- what a list gives as the source of a packet that it permits; one that isn't defined permits none
abbrev pub listed_end : IosConfig → Site → Kind → Transit → IosNat → Option End
listed_end c site k t (Static proto local global) = None
listed_end c site k t (Listed name addr) = if says c site k true false name t then Some (host_end addr None) else None

-- the first end that is given
abbrev pub first_end : (IosNat → Option End) → List IosNat → Option End
first_end given [] = None
first_end given (nat ∷ nats) = option_map_or Some (given nat) (first_end given nats)

-- the source of a packet by its first static, else by its first list
abbrev pub source_end : IosConfig → Site → Kind → Transit → Option End
source_end c site k t = option_map_or Some (first_end (outer_end t.packet) c.nats) (first_end (listed_end c site k t) c.nats)

-- a new packet gets the inner end of its first static
abbrev pub translated_in : Packet → IosConfig → Transit → Transit
translated_in p c t = option_map_or (λ e. with_dst p e t) (first_end (inner_end t.packet) c.nats) t

-- a new packet gets the outer end of its first static, else the address for its first list
abbrev pub translated_out : Packet → IosConfig → Site → Kind → Transit → Transit
translated_out p c site k t = option_map_or (λ e. with_src p e t) (source_end c site k t) t

-- destinations are translated that come in by the outside; an established packet has that with which it leaves
abbrev pub routed_as : IosConfig → Site → Packet → Kind → Transit → Transit
routed_as c site p New t = if is_shown (receiving t.packet) c.outside then translated_in p c t else t
routed_as c site p (Est r) t = with_tracked_dst (Est r) t

-- sources are translated that come in by the inside and go out by the outside; an established packet has that with which it leaves
abbrev pub sent_as : IosConfig → Site → Packet → Kind → Transit → Transit
sent_as c site p New t =
    if is_shown (receiving t.packet) c.inside && is_shown (sending site t.packet) c.outside then translated_out p c site New t else t
sent_as c site p (Est r) t = with_tracked_src (Est r) t

-- The ways of a packet

-- a packet that arrives meets the list of its entry, and is routed by its destination then
abbrev pub arrived : IosConfig → Site → Packet → Kind → Transit → Option Transit
arrived c site p k t = option_map (routed_as c site p k) (met c site k false t)

-- a packet that is forwarded meets the list of its exit
abbrev pub forwarded : IosConfig → Site → Packet → Kind → Transit → Option Transit
forwarded c site p k t = met c site k true (sent_as c site p k t)

-- the whole way of a packet: what is delivered meets no list of an exit, and the host's own meets no list at all
abbrev pub way_of : IosConfig → Site → Packet → Kind → Option Transit
way_of c site p k = way_by (arrived c site p k) Some (forwarded c site p k) Some site p

-- what becomes of a packet of a class
abbrev pub walk : IosConfig → Site → Packet → Kind → Outcome
walk c site p k = outcome_of k (way_of c site p k)
