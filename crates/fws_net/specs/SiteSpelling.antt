-- The text of a site in the second form.
use Rattle.std.specs.Prelude.{ℕ, ◌-◌, false, map, slice_get, List, [], ◌∷◌, ◌++◌, codes, if◌then◌else◌}
use Rattle.std.specs.Fmt.{decimal}
use Rattle.std.specs.Option.{option_map_or}
use Rattle.fws_num.specs.Numbers.{dotted}
use Rattle.fws_num.specs.Written.{Written, text_of}
use Rattle.fws_net.specs.declared.site.Address.{Address}
use Rattle.fws_net.specs.declared.site.Iface.{Iface}
use Rattle.fws_net.specs.declared.site.Names.{Names}
use Rattle.fws_net.specs.declared.site.RouteLine.{RouteLine}
use Rattle.fws_net.specs.declared.site.Side.{Side}
use Rattle.fws_net.specs.declared.site.Side.TheVariants.{Neither, Inside, Outside}
use Rattle.fws_net.specs.declared.site.Site.{Site}

abbrev pub side_word : Side → List ℕ
side_word Neither = codes "nat=none"
side_word Inside = codes "nat=inside"
side_word Outside = codes "nat=outside"

-- the names in the four systems
abbrev pub name_words : Names → List (List ℕ)
name_words names = (codes "ipt=" ++ names.ipt) ∷ (codes "ipfw=" ++ names.ipfw) ∷ (codes "pf=" ++ names.pf) ∷ (codes "ios=" ++ names.ios) ∷ []

-- an address, or a network, and a length
abbrev pub net_word : ℕ → ℕ → List ℕ
net_word addr len = dotted addr ++ 47 ∷ decimal len

abbrev pub face_line : Iface → List (List ℕ)
face_line face = codes "interface" ∷ face.name ∷ (name_words face.names ++ side_word face.side ∷ [])

abbrev pub address_line : List ℕ → Address → List (List ℕ)
address_line name own = codes "address" ∷ name ∷ net_word own.addr own.len ∷ []

-- the address lines of the interfaces, and for each in its own order
abbrev pub address_lines : List Iface → List (List (List ℕ))
address_lines [] = []
address_lines (face ∷ faces) = map (address_line face.name) face.addrs ++ address_lines faces

-- the name of the interface with this entry
abbrev pub name_at : List Iface → ℕ → List ℕ
name_at faces entry = option_map_or (λ face. face.name) (slice_get faces (entry - 2)) []

abbrev pub route_line : List Iface → RouteLine → List (List ℕ)
route_line faces line = codes "route" ∷ net_word line.net.addr line.net.len ∷ name_at faces line.face ∷ []

abbrev pub last_lines : Site → List (List (List ℕ))
last_lines site =
    (codes "loopback" ∷ name_words site.lo)
    ∷ (codes "default" ∷ name_at site.faces site.fallback ∷ [])
    ∷ (codes "forwarding" ∷ (if site.forwarding then codes "yes" else codes "no") ∷ [])
    ∷ (codes "one_pass" ∷ (if site.one_pass then codes "1" else codes "0") ∷ [])
    ∷ []

-- the words of each line: the interfaces, their addresses in the same order, the routes in theirs, and what stands last
abbrev pub site_lines : Site → List (List (List ℕ))
site_lines site =
    (codes "site" ∷ codes "2" ∷ [])
    ∷ (map face_line site.faces ++ address_lines site.faces ++ map (route_line site.faces) site.routes ++ last_lines site)

-- a line of these words
abbrev pub written : List (List ℕ) → Written
written words = record { indented = false; words = words }

-- the text of lines of words
abbrev pub lines_text : List (List (List ℕ)) → List ℕ
lines_text lines = text_of (map written lines)

-- the text of a site in the second form
abbrev pub site2_text : Site → List ℕ
site2_text site = lines_text (site_lines site)
