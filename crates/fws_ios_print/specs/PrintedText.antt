-- The text of a configuration: comments, interfaces, access lists and translations, as Cisco IOS takes them in configuration mode.
use Rattle.std.specs.Prelude.{ℕ, ◌+◌, ◌-◌, Bool, true, false, nat_eq, List, [], ◌∷◌, ◌++◌, map, codes, if◌then◌else◌}
use Rattle.std.specs.Fmt.{decimal}
use Rattle.std.specs.List.{flat_map}
use Rattle.fws_num.specs.Numbers.{dotted}
use Rattle.fws_num.specs.Written.{ended, spaced}
use Rattle.fws_iv.specs.declared.iv.Iv.{Iv}
use Rattle.fws_iv.specs.Ivs.{has}
use Rattle.fws_net.specs.declared.condition.Lit.{Lit}
use Rattle.fws_net.specs.declared.condition.Test.{Test}
use Rattle.fws_net.specs.declared.condition.Test.TheVariants.{Icmp, AnyFlag}
use Rattle.fws_net.specs.declared.site.Site.{Site}
use Rattle.fws_ios.specs.declared.config.IosConfig.{IosConfig}
use Rattle.fws_ios.specs.declared.config.IosEntry.{IosEntry}
use Rattle.fws_ios.specs.declared.config.IosGroup.{IosGroup}
use Rattle.fws_ios.specs.declared.config.IosList.{IosList}
use Rattle.fws_ios.specs.declared.config.IosNat.{IosNat}
use Rattle.fws_ios.specs.declared.config.IosNat.TheVariants.{Static, List as Listed}
use Rattle.fws_print.specs.Sets.{first_number}
use Rattle.fws_ios_print.specs.Printable.{is_state, state_name, tested}
use Rattle.fws_print.specs.Words.{protocol_name}

-- a line that belongs to the last one that doesn't begin with a blank
abbrev pub inner_line : List (List ℕ) → List ℕ
inner_line words = 32 ∷ spaced words

-- Protocols

-- the protocol that is asked for; `ip` where none is
abbrev pub protocol_word : List Iv → List ℕ
protocol_word [] = codes "ip"
protocol_word (iv ∷ set) = protocol_name iv.lo

-- Addresses and ports

-- one address, or the first one of a prefix and the wildcard of the others
abbrev pub prefix_words : Iv → List (List ℕ)
prefix_words iv = if nat_eq iv.lo iv.hi then codes "host" ∷ dotted iv.lo ∷ [] else dotted iv.lo ∷ dotted (iv.hi - iv.lo) ∷ []

-- the addresses that are asked for; `any` where none are
abbrev pub addresses_words : List Iv → List (List ℕ)
addresses_words [] = codes "any" ∷ []
addresses_words (iv ∷ set) = prefix_words iv

-- one port, or the first and the last one
abbrev pub range_words : Iv → List (List ℕ)
range_words iv = if nat_eq iv.lo iv.hi then codes "eq" ∷ decimal iv.lo ∷ [] else codes "range" ∷ decimal iv.lo ∷ decimal iv.hi ∷ []

-- the ports that are asked for, if any are
abbrev pub ports_words : List Iv → List (List ℕ)
ports_words [] = []
ports_words (iv ∷ set) = range_words iv

-- Entries

-- a test that stands behind addresses and ports
abbrev pub option_words : Test → List (List ℕ)
option_words (Icmp set) = decimal (first_number set) ∷ []
option_words (AnyFlag mask) = codes "established" ∷ []
option_words _ = []

abbrev pub options_words : List Lit → List (List ℕ)
options_words cond = flat_map (λ lit. option_words lit.test) cond

abbrev pub action_word : Bool → List ℕ
action_word permit = if permit then codes "permit" else codes "deny"

-- state is kept, if it is
abbrev pub reflect_words : Bool → List (List ℕ)
reflect_words reflect = if reflect then codes "reflect" ∷ state_name ∷ [] else []

-- an entry by what it asks for
abbrev pub test_words : IosEntry → List (List ℕ)
test_words entry =
    action_word entry.permit ∷ protocol_word (tested 0 entry.cond) ∷ addresses_words (tested 1 entry.cond)
    ++ (ports_words (tested 2 entry.cond) ++ (addresses_words (tested 3 entry.cond)
    ++ (ports_words (tested 4 entry.cond) ++ (options_words entry.cond ++ reflect_words entry.reflect))))

abbrev pub entry_words : IosEntry → List (List ℕ)
entry_words entry = if is_state entry.cond then codes "evaluate" ∷ state_name ∷ [] else test_words entry

abbrev pub entry_lines : List IosEntry → List (List ℕ)
entry_lines entries = map (λ entry. inner_line (entry_words entry)) entries

-- Lists

abbrev pub list_words : List ℕ → List (List ℕ)
list_words name = codes "ip" ∷ codes "access-list" ∷ codes "extended" ∷ name ∷ []

abbrev pub list_lines : List IosList → List (List ℕ)
list_lines lists = flat_map (λ l. spaced (list_words l.name) ∷ entry_lines l.entries) lists

-- Interfaces

-- the names of interfaces by their entries, that of loopback first
abbrev pub face_names : Site → List (List ℕ)
face_names site = site.lo.ios ∷ map (λ face. face.names.ios) site.faces

abbrev pub interface_words : List ℕ → List (List ℕ)
interface_words name = codes "interface" ∷ name ∷ []

-- the line of a side, for an interface that is on it
abbrev pub side_lines : List ℕ → List Iv → ℕ → List (List ℕ)
side_lines side set face = if has set face then inner_line (codes "ip" ∷ codes "nat" ∷ side ∷ []) ∷ [] else []

abbrev pub direction_word : Bool → List ℕ
direction_word outward = if outward then codes "out" else codes "in"

abbrev pub group_words : IosGroup → List (List ℕ)
group_words g = codes "ip" ∷ codes "access-group" ∷ g.list ∷ direction_word g.outward ∷ []

-- the lists that are applied at this interface, which stand ahead of others
abbrev pub group_lines : ℕ → List IosGroup → List (List ℕ)
group_lines face [] = []
group_lines face (g ∷ gs) = if nat_eq g.face face then inner_line (group_words g) ∷ group_lines face gs else []

-- what stands behind them
abbrev pub groups_behind : ℕ → List IosGroup → List IosGroup
groups_behind face [] = []
groups_behind face (g ∷ gs) = if nat_eq g.face face then groups_behind face gs else g ∷ gs

-- what is said of an interface
abbrev pub face_lines : IosConfig → ℕ → List IosGroup → List (List ℕ)
face_lines c face gs =
    side_lines (codes "inside") c.inside face ++ (side_lines (codes "outside") c.outside face ++ group_lines face gs)

abbrev pub are_some : List (List ℕ) → Bool
are_some [] = false
are_some (line ∷ lines) = true

-- lines behind a first one, if there are any
abbrev pub headed : List ℕ → List (List ℕ) → List (List ℕ)
headed first lines = if are_some lines then first ∷ lines else []

abbrev pub interface_lines : IosConfig → ℕ → List ℕ → List IosGroup → List (List ℕ)
interface_lines c face name gs = headed (spaced (interface_words name)) (face_lines c face gs)

-- the interfaces of these names from this entry on, and the lists that are applied from there on
abbrev pub interfaces_lines : IosConfig → ℕ → List (List ℕ) → List IosGroup → List (List ℕ)
interfaces_lines c face [] gs = []
interfaces_lines c face (name ∷ names) gs = interface_lines c face name gs ++ interfaces_lines c (face + 1) names (groups_behind face gs)

-- Translations

-- the name of the pool of the translation at this place
abbrev pub pool_name : ℕ → List ℕ
pool_name n = 80 ∷ decimal n

-- a pool of one address
abbrev pub pool_words : ℕ → ℕ → List (List ℕ)
pool_words n addr =
    codes "ip" ∷ codes "nat" ∷ codes "pool" ∷ pool_name n ∷ dotted addr ∷ dotted addr ∷ codes "prefix-length" ∷ codes "24" ∷ []

abbrev pub nat_words : ℕ → List ℕ → List (List ℕ)
nat_words n name =
    codes "ip" ∷ codes "nat" ∷ codes "inside" ∷ codes "source" ∷ codes "list" ∷ name ∷ codes "pool" ∷ pool_name n ∷ codes "overload" ∷ []

-- a translation behind its pool
abbrev pub nat_lines : ℕ → IosNat → List (List ℕ)
nat_lines n (Listed name addr) = spaced (pool_words n addr) ∷ spaced (nat_words n name) ∷ []
nat_lines n (Static proto local global) = []

-- translations, from this place on
abbrev pub nats_lines : ℕ → List IosNat → List (List ℕ)
nats_lines n [] = []
nats_lines n (nat ∷ nats) = nat_lines n nat ++ nats_lines (n + 1) nats

-- Lines

-- what stands ahead of the lines, as comments
abbrev pub head_lines : List (List ℕ)
head_lines =
    codes "! Written by FWS for Cisco IOS. It is taken line by line in configuration mode." ∷
    codes "! CONNECTIONS keeps state of the packets that lists permit, and evaluate permits packets of their connections." ∷
    codes "! Interfaces: their sides, and the lists that their packets meet." ∷ []

abbrev pub lists_comment : List ℕ
lists_comment = codes "! Lists: the first entry that matches decides, and behind all of them packets are denied."

abbrev pub nats_comment : List ℕ
nats_comment = codes "! Sources of packets that go from inside to outside: the first translation whose list permits a packet applies."

-- the lines of items, behind a comment if there are any
abbrev pub section : {A : Type 0} → List ℕ → List A → List (List ℕ) → List (List ℕ)
section comment [] lines = []
section comment (item ∷ items) lines = comment ∷ lines

abbrev pub config_lines : Site → IosConfig → List (List ℕ)
config_lines site c =
    head_lines ++ (interfaces_lines c 1 (face_names site) c.groups
    ++ (section lists_comment c.lists (list_lines c.lists) ++ section nats_comment c.nats (nats_lines 1 c.nats)))

-- the text of a configuration
abbrev pub config_text : Site → IosConfig → List ℕ
config_text site c = ended (config_lines site c)
