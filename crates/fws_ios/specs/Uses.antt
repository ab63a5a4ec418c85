-- Which entries and translations a packet's walk uses: those that it comes to and that apply there, in their order. Each has a number:
-- entries are counted from 0, through the lists in their order, and translations behind them.
use Rattle.std.specs.Prelude.{ℕ, suc, ◌+◌, Bool, true, false, ◌&&◌, Option, List, [], ◌∷◌, ◌++◌, length, map, sum, if◌then◌else◌}
use Rattle.std.specs.Option.{option_map_or}
use Rattle.std.specs.Str.{bytes_eq}
use Rattle.fws_net.specs.declared.packet.Packet.{Packet}
use Rattle.fws_net.specs.declared.outcome.End.{End}
use Rattle.fws_net.specs.declared.connection.Kind.{Kind}
use Rattle.fws_net.specs.declared.connection.Kind.TheVariants.{New, Est}
use Rattle.fws_net.specs.declared.site.Site.{Site}
use Rattle.fws_net.specs.declared.transit.Transit.{Transit}
use Rattle.fws_net.specs.Conditions.{holds, is_shown}
use Rattle.fws_net.specs.Showing.{receiving, sending}
use Rattle.fws_net.specs.Transits.{used_by}
use Rattle.fws_ios.specs.declared.config.IosEntry.{IosEntry}
use Rattle.fws_ios.specs.declared.config.IosList.{IosList}
use Rattle.fws_ios.specs.declared.config.IosNat.{IosNat}
use Rattle.fws_ios.specs.declared.config.IosNat.TheVariants.{Static, List as Listed}
use Rattle.fws_ios.specs.declared.config.IosConfig.{IosConfig}
use Rattle.fws_ios.specs.Walk.{view_on, says, interface_of, group_at, passes, inner_end, outer_end, first_end, sent_as, arrived, forwarded}

-- Lists

-- the entry that decides, of entries of which the first is counted n; none where the list denies at its end
abbrev pub entries_used : Site → Kind → Bool → ℕ → List IosEntry → Transit → List ℕ
entries_used site k outward n [] t = []
entries_used site k outward n (entry ∷ entries) t =
    if holds entry.cond (view_on site k outward t) then n ∷ [] else entries_used site k outward (suc n) entries t

-- what is used of the list of this name, of lists of which the first one's first entry is counted n
abbrev pub list_used : Site → Kind → Bool → ℕ → List ℕ → List IosList → Transit → List ℕ
list_used site k outward n name [] t = []
list_used site k outward n name (l ∷ lists) t =
    if bytes_eq l.name name then entries_used site k outward n l.entries t
    else list_used site k outward (n + length l.entries) name lists t

-- what is used of the list at the packet's interface
abbrev pub met_used : IosConfig → Site → Kind → Bool → Transit → List ℕ
met_used c site k outward t = option_map_or (λ g. list_used site k outward 0 g.list c.lists t) (group_at outward (interface_of site outward t) c.groups) []

-- Translations

-- the number of the first translation
abbrev pub first_translation : IosConfig → ℕ
first_translation c = sum (map (λ l. length l.entries) c.lists)

-- the first static that gives an end, of translations of which the first is counted n
abbrev pub static_used : (IosNat → Option End) → ℕ → List IosNat → List ℕ
static_used given n [] = []
static_used given n (nat ∷ nats) = option_map_or (λ e. n ∷ []) (given nat) (static_used given (suc n) nats)

-- what is used of translations by lists, of which the first is counted n: of each list that is asked the entry that decides, and behind it
-- the translation whose list permits the packet
abbrev pub lists_used : IosConfig → Site → Kind → Transit → ℕ → List IosNat → List ℕ
lists_used c site k t n [] = []
lists_used c site k t n (Static proto local global ∷ nats) = lists_used c site k t (suc n) nats
lists_used c site k t n (Listed name addr ∷ nats) =
    list_used site k true 0 name c.lists t ++ (if says c site k true false name t then n ∷ [] else lists_used c site k t (suc n) nats)

-- what is used where a source is translated: the first static, else of lists
abbrev pub source_used : IosConfig → Site → Kind → Transit → List ℕ
source_used c site k t =
    option_map_or (λ e. static_used (outer_end t.packet) (first_translation c) c.nats) (first_end (outer_end t.packet) c.nats)
    (lists_used c site k t (first_translation c) c.nats)

-- what is used where destinations are translated that come in by the outside; an established packet has that with which it leaves
abbrev pub routed_used : IosConfig → Site → Kind → Transit → List ℕ
routed_used c site New t = if is_shown (receiving t.packet) c.outside then static_used (inner_end t.packet) (first_translation c) c.nats else []
routed_used c site (Est r) t = []

-- what is used where sources are translated that come in by the inside and go out by the outside
abbrev pub sent_used : IosConfig → Site → Kind → Transit → List ℕ
sent_used c site New t = if is_shown (receiving t.packet) c.inside && is_shown (sending site t.packet) c.outside then source_used c site New t else []
sent_used c site (Est r) t = []

-- The ways of a packet

-- what is used of a packet that arrives: the list of its entry, and what translates it where this permits it
abbrev pub arrived_used : IosConfig → Site → Kind → Transit → List ℕ
arrived_used c site k t = met_used c site k false t ++ (if passes c site k false t then routed_used c site k t else [])

-- what is used of a packet that is forwarded: what translates it, and the list of its exit
abbrev pub forwarded_used : IosConfig → Site → Packet → Kind → Transit → List ℕ
forwarded_used c site p k t = sent_used c site k t ++ met_used c site k true (sent_as c site p k t)

-- the numbers of the entries and translations that the walk of a packet of class k uses, in the order in which it comes to them
abbrev pub used : IosConfig → Site → Packet → Kind → List ℕ
used c site p k = used_by (arrived c site p k) (arrived_used c site k) (λ t. []) (forwarded_used c site p k) (λ t. []) site p
