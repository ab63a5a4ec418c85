-- The lines of a site file, each after those before it.
use Rattle.std.specs.Prelude.{ℕ, suc, ◌-◌, ◌*◌, ◌^◌, zero, Bool, true, false, ◌&&◌, ◌||◌, not, min, nat_eq, nat_le, sum, map, Option, Some, None, Result, Ok, Err, List, [], ◌∷◌, ◌++◌, length, codes, if◌then◌else◌}
use Rattle.std.specs.Str.{bytes_eq}
use Rattle.std.specs.Option.{ok_or}
use Rattle.std.specs.List.{list_any, list_all}
use Rattle.fws_iv.specs.Prefixes.{agree}
use Rattle.fws_num.specs.declared.lines.Line.{Line}
use Rattle.fws_num.specs.declared.prefix.Prefix.{Prefix}
use Rattle.fws_num.specs.declared.word.Word.{Word}
use Rattle.fws_num.specs.Words.{is_sound}
use Rattle.fws_net.specs.declared.cause.SiteCause.{SiteCause}
use Rattle.fws_net.specs.declared.cause.SiteCause.TheVariants.{Syntax, Overlap, Names as NameTaken, Count}
use Rattle.fws_net.specs.declared.draft.Draft.{Draft}
use Rattle.fws_net.specs.declared.draft.Form.{Form}
use Rattle.fws_net.specs.declared.draft.Form.TheVariants.{First, Second}
use Rattle.fws_net.specs.declared.draft.Stage.{Stage}
use Rattle.fws_net.specs.declared.draft.Stage.TheVariants.{Header, Interfaces, Addresses, Routes, Default, Forwarding, OnePass, Ended}
use Rattle.fws_net.specs.declared.site.Address.{Address}
use Rattle.fws_net.specs.declared.site.Iface.{Iface}
use Rattle.fws_net.specs.declared.site.Names.{Names}
use Rattle.fws_net.specs.declared.site.RouteLine.{RouteLine}
use Rattle.fws_net.specs.declared.site.Side.{Side}
use Rattle.fws_net.specs.declared.site.Site.{Site}
use Rattle.fws_net.specs.Reading.{◌>>=◌, sound_read}
use Rattle.fws_net.specs.Routes.{has_addr}
use Rattle.fws_net.specs.SiteWords.{is_word, name_of, names_of, names_and_side, address_of, net_of}

-- What is read so far

abbrev pub with_stage : Stage → Site → Draft → Draft
with_stage stage site d = record d { stage = stage; site = site }

-- a further interface
abbrev pub with_face : Iface → Draft → Draft
with_face face d = with_stage Interfaces (record d.site { faces = d.site.faces ++ face ∷ [] }) d

-- the interfaces, of which the one with number k has a further address
abbrev pub address_added : ℕ → Address → List Iface → List Iface
address_added k own [] = []
address_added zero own (face ∷ faces) = record face { addrs = face.addrs ++ own ∷ [] } ∷ faces
address_added (suc k) own (face ∷ faces) = face ∷ address_added k own faces

abbrev pub with_address : ℕ → Address → Draft → Draft
with_address entry own d = with_stage Addresses (record d.site { faces = address_added (entry - 2) own d.site.faces }) d

-- a further route
abbrev pub with_route : RouteLine → Draft → Draft
with_route line d = with_stage Routes (record d.site { routes = d.site.routes ++ line ∷ [] }) d

-- The first line

abbrev pub form_of : List Word → Result Form SiteCause
form_of (a ∷ b ∷ []) =
    if not (is_word (codes "site") a) then Err Syntax
    else if is_word (codes "1") b then Ok First
    else if is_word (codes "2") b then Ok Second else Err Syntax
form_of _ = Err Syntax

abbrev pub header_step : List Word → Draft → Result Draft SiteCause
header_step ws d = form_of ws >>= (λ form. Ok (record d { stage = Interfaces; form = form }))

-- Names

-- one of the four names is that of the other in the same system
abbrev pub share_name : Names → Names → Bool
share_name a b = bytes_eq a.ipt b.ipt || bytes_eq a.ipfw b.ipfw || bytes_eq a.pf b.pf || bytes_eq a.ios b.ios

-- one of the four names is taken by an earlier interface
abbrev pub names_taken : List Iface → Names → Bool
names_taken seen names = list_any (λ other. share_name other.names names) seen

-- the name in the site is that of the host, of loopback or of an earlier interface
abbrev pub name_taken : List Iface → List ℕ → Bool
name_taken seen name = bytes_eq name (codes "host") || bytes_eq name (codes "lo") || list_any (λ other. bytes_eq other.name name) seen

-- the entry of the interface with this name, counted from n
abbrev pub entry_from : ℕ → List Iface → List ℕ → Option ℕ
entry_from n [] name = None
entry_from n (face ∷ faces) name = if bytes_eq face.name name then Some n else entry_from (suc n) faces name

-- the entry of the interface that a line names
abbrev pub entry_of : List Iface → List ℕ → Result ℕ SiteCause
entry_of faces name = ok_or (entry_from 2 faces name) NameTaken

-- Networks

-- the networks of two addresses share an address: these agree in the shorter length
abbrev pub nets_meet : Address → Address → Bool
nets_meet own other = agree (min own.len other.len) own.addr other.addr

-- the network of the address meets 127.0.0.0/8
abbrev pub meets_loopback : Address → Bool
meets_loopback own = nets_meet (record { addr = 127 * 2 ^ 24; len = 8 }) own

-- the network of the address meets one of an earlier interface
abbrev pub meets_earlier : List Iface → Address → Bool
meets_earlier seen own = list_any (λ face. list_any (λ other. nets_meet other own) face.addrs) seen

-- two networks are the same: they are equally long and agree in that length
abbrev pub is_same_net : ℕ → ℕ → ℕ → ℕ → Bool
is_same_net a n b m = nat_eq n m && agree n a b

-- the network is that of an earlier address
abbrev pub is_net_of_address : List Iface → ℕ → ℕ → Bool
is_net_of_address seen a n = list_any (λ face. list_any (λ own. is_same_net own.addr own.len a n) face.addrs) seen

-- the network is that of an earlier route
abbrev pub is_net_of_route : List RouteLine → ℕ → ℕ → Bool
is_net_of_route seen a n = list_any (λ line. is_same_net line.net.addr line.net.len a n) seen

-- Interfaces

-- the most interfaces of a site
abbrev pub most_faces : Form → ℕ
most_faces First = 14
most_faces Second = 62

-- four names and a side, which stand last on the line of an interface
abbrev pub behind_face : List Word → Result (Names × Side) SiteCause
behind_face (a ∷ b ∷ c ∷ d ∷ e ∷ []) = names_and_side a b c d e
behind_face _ = Err Syntax

-- an interface with an address on its line
unfoldable pub face_with_address : Word → Word → List Word → Result Iface SiteCause
face_with_address name net ws = do
  text ← name_of name.text
  own ← address_of net.text
  rest ← behind_face ws
  Ok (record { name = text; addrs = own ∷ []; names = rest.0; side = rest.1 })

-- an interface whose addresses have lines of their own
unfoldable pub face_alone : Word → List Word → Result Iface SiteCause
face_alone name ws = do
  text ← name_of name.text
  rest ← behind_face ws
  Ok (record { name = text; addrs = []; names = rest.0; side = rest.1 })

-- an interface as its line spells it behind the keyword
abbrev pub spelled_face : Form → List Word → Result Iface SiteCause
spelled_face First (name ∷ net ∷ ws) = face_with_address name net ws
spelled_face Second (name ∷ ws) = face_alone name ws
spelled_face _ _ = Err Syntax

-- the network of an address on the line meets that of an earlier interface, or 127.0.0.0/8
abbrev pub face_overlaps : List Iface → Iface → Bool
face_overlaps seen face = list_any (λ own. meets_earlier seen own || meets_loopback own) face.addrs

-- a well spelled interface after the earlier ones: Overlap, then Names, then Count
abbrev pub face_admitted : Form → List Iface → Iface → Result Iface SiteCause
face_admitted form seen face =
    if face_overlaps seen face then Err Overlap
    else if name_taken seen face.name || names_taken seen face.names then Err NameTaken
    else if nat_le (most_faces form) (length seen) then Err Count else Ok face

-- `interface`, of which these words stand behind the keyword
unfoldable pub interface_step : List Word → Draft → Result Draft SiteCause
interface_step ws d = do
  spelled ← spelled_face d.form ws
  face ← face_admitted d.form d.site.faces spelled
  Ok (with_face face d)

-- Addresses

-- the address is an earlier one, or its network is that of an earlier one or meets 127.0.0.0/8
abbrev pub address_overlaps : List Iface → Address → Bool
address_overlaps faces own =
    list_any (λ face. has_addr face own.addr) faces || is_net_of_address faces own.addr own.len || meets_loopback own

-- how many addresses there are
abbrev pub address_count : List Iface → ℕ
address_count faces = sum (map (λ face. length face.addrs) faces)

-- the entry of the interface to which a well spelled address belongs: Overlap, then Names, then Count
abbrev pub address_admitted : List Iface → List ℕ → Address → Result ℕ SiteCause
address_admitted faces name own =
    if address_overlaps faces own then Err Overlap
    else entry_of faces name >>= (λ entry. if nat_le 1024 (address_count faces) then Err Count else Ok entry)

unfoldable pub address_behind : Word → Word → Draft → Result Draft SiteCause
address_behind name net d = do
  text ← name_of name.text
  own ← address_of net.text
  entry ← address_admitted d.site.faces text own
  Ok (with_address entry own d)

-- `address NAME A/n`, of which these words stand behind the keyword
abbrev pub address_step : List Word → Draft → Result Draft SiteCause
address_step (name ∷ net ∷ []) d = address_behind name net d
address_step _ d = Err Syntax

-- Routes

-- the network is that of an earlier address or route
abbrev pub route_overlaps : Site → Prefix → Bool
route_overlaps site net = is_net_of_address site.faces net.addr net.len || is_net_of_route site.routes net.addr net.len

-- the entry of the interface to which a well spelled route leads: Overlap, then Names, then Count
abbrev pub route_admitted : Site → Prefix → List ℕ → Result ℕ SiteCause
route_admitted site net name =
    if route_overlaps site net then Err Overlap
    else entry_of site.faces name >>= (λ entry. if nat_le 4096 (length site.routes) then Err Count else Ok entry)

unfoldable pub route_behind : Word → Word → Draft → Result Draft SiteCause
route_behind word name d = do
  net ← net_of word.text
  text ← name_of name.text
  entry ← route_admitted d.site net text
  Ok (with_route (record { net = net; face = entry }) d)

-- `route A/n NAME`, of which these words stand behind the keyword
abbrev pub route_step : List Word → Draft → Result Draft SiteCause
route_step (net ∷ name ∷ []) d = route_behind net name d
route_step _ d = Err Syntax

-- The last lines

-- the interface has an address
abbrev pub has_addresses : Iface → Bool
has_addresses face = nat_le 1 (length face.addrs)

-- there is an interface, and each has an address
abbrev pub are_addressed : List Iface → Bool
are_addressed faces = nat_le 1 (length faces) && list_all has_addresses faces

-- the names of loopback, if no interface has one of them
abbrev pub loopback_admitted : List Iface → Names → Result Names SiteCause
loopback_admitted seen names = if names_taken seen names then Err NameTaken else Ok names

unfoldable pub loopback_behind : Word → Word → Word → Word → Draft → Result Draft SiteCause
loopback_behind a b c e d = do
  spelled ← names_of a b c e
  names ← loopback_admitted d.site.faces spelled
  Ok (with_stage Default (record d.site { lo = names }) d)

-- `loopback` and its names, where each interface has an address
abbrev pub loopback_step : Word → List Word → Draft → Result Draft SiteCause
loopback_step key (a ∷ b ∷ c ∷ e ∷ []) d =
    if is_word (codes "loopback") key && are_addressed d.site.faces then loopback_behind a b c e d else Err Syntax
loopback_step key _ d = Err Syntax

unfoldable pub default_behind : Word → Draft → Result Draft SiteCause
default_behind name d = do
  text ← name_of name.text
  entry ← entry_of d.site.faces text
  Ok (with_stage Forwarding (record d.site { fallback = entry }) d)

-- `default NAME`
abbrev pub default_step : Word → List Word → Draft → Result Draft SiteCause
default_step key (name ∷ []) d = if is_word (codes "default") key then default_behind name d else Err Syntax
default_step key _ d = Err Syntax

-- one of two words behind a keyword
abbrev pub choice_of : List ℕ → List ℕ → List ℕ → Word → List Word → Result Bool SiteCause
choice_of expected yes_word no_word key (w ∷ []) =
    if not (is_word expected key) then Err Syntax
    else if is_word yes_word w then Ok true else if is_word no_word w then Ok false else Err Syntax
choice_of expected yes_word no_word key _ = Err Syntax

-- `forwarding yes` or `no`
abbrev pub forwarding_step : Word → List Word → Draft → Result Draft SiteCause
forwarding_step key ws d = choice_of (codes "forwarding") (codes "yes") (codes "no") key ws
    >>= (λ chosen. Ok (with_stage OnePass (record d.site { forwarding = chosen }) d))

-- `one_pass 1` or `0`
abbrev pub one_pass_step : Word → List Word → Draft → Result Draft SiteCause
one_pass_step key ws d = choice_of (codes "one_pass") (codes "1") (codes "0") key ws
    >>= (λ chosen. Ok (with_stage Ended (record d.site { one_pass = chosen }) d))

-- All lines

-- behind the interfaces: loopback in the first form, the first address in the second
abbrev pub behind_interfaces : Form → Word → List Word → Draft → Result Draft SiteCause
behind_interfaces First key ws d = loopback_step key ws d
behind_interfaces Second key ws d =
    if is_word (codes "address") key && nat_le 1 (length d.site.faces) then address_step ws d else Err Syntax

-- behind the addresses: routes, and then loopback
abbrev pub behind_addresses : Word → List Word → Draft → Result Draft SiteCause
behind_addresses key ws d = if is_word (codes "route") key then route_step ws d else loopback_step key ws d

-- a line by its first word and the place in the text
abbrev pub stage_step : Stage → Word → List Word → Draft → Result Draft SiteCause
stage_step Header key ws d = header_step (key ∷ ws) d
stage_step Interfaces key ws d = if is_word (codes "interface") key then interface_step ws d else behind_interfaces d.form key ws d
stage_step Addresses key ws d = if is_word (codes "address") key then address_step ws d else behind_addresses key ws d
stage_step Routes key ws d = behind_addresses key ws d
stage_step Default key ws d = default_step key ws d
stage_step Forwarding key ws d = forwarding_step key ws d
stage_step OnePass key ws d = one_pass_step key ws d
stage_step Ended key ws d = Err Syntax

abbrev pub words_step : List Word → Draft → Result Draft SiteCause
words_step [] d = Err Syntax
words_step (key ∷ ws) d = stage_step d.stage key ws d

-- a line after those before it; a word with a bad byte or an open quote makes it Syntax
abbrev pub line_step : Draft → Line → Result Draft SiteCause
line_step d line = sound_read Syntax (list_all is_sound line.words) (words_step line.words d)
