-- The lines of an orderly site's text can be written.
use Rattle.std.proofs.Common.{◌≡◌, ℕ, Bool, true, false, ◌&&◌, All, List, [], ◌∷◌, ◌++◌, map, length, codes, refl, ap, ◌∙◌, if◌then◌else◌}
use Rattle.std.proofs.lemmas.Bool.{and_from, and_parts}
use Rattle.std.proofs.lemmas.List.{map-append}
use Rattle.std.proofs.lemmas.List.Elements.{All-head, All-tail}
use Rattle.std.proofs.lemmas.List.Folds.{list_all-append}
use Rattle.std.specs.List.{list_all}
use Rattle.fws_num.specs.declared.comments.Comments.TheVariants.{HashLine}
use Rattle.fws_num.specs.Written.{is_plain, is_writable}
use Rattle.fws_net.specs.declared.site.Address.{Address}
use Rattle.fws_net.specs.declared.site.Iface.{Iface}
use Rattle.fws_net.specs.declared.site.Names.{Names}
use Rattle.fws_net.specs.declared.site.RouteLine.{RouteLine}
use Rattle.fws_net.specs.declared.site.Site.{Site}
use Rattle.fws_net.specs.Routes.{IsSoundRoute}
use Rattle.fws_net.specs.SiteLaws.{are_names, IsOrderly}
use Rattle.fws_net.specs.SiteSpelling.{side_word, name_words, net_word, face_line, address_line, address_lines, name_at, route_line, last_lines, written, site_lines}
use Rattle.fws_net.specs.SiteWords.{is_name}
use Rattle.fws_net.proofs.SpelledWords.{Laws, name_bytes, name_plain, plain_from, side_plain, net_plain}
use Rattle.fws_net.proofs.SpelledEntries.{name_at_spelled}

abbrev are_writable : List (List (List ℕ)) → Bool
are_writable lines = list_all (is_writable HashLine) (map written lines)

writable_append : (front behind : List (List (List ℕ))) → are_writable front ≡ true → are_writable behind ≡ true → are_writable (front ++ behind) ≡ true
writable_append front behind h k =
    ap (list_all (is_writable HashLine)) (map-append written front behind) ∙ list_all-append (is_writable HashLine) (map written front) (map written behind)
    ∙ and_from (are_writable front) (are_writable behind) h k

-- a further plain word
more_plain : (w : List ℕ) (ws : List (List ℕ)) → is_plain w ≡ true → list_all is_plain ws ≡ true → list_all is_plain (w ∷ ws) ≡ true
more_plain w ws h k = and_from (is_plain w) (list_all is_plain ws) h k

-- a line can be written where the words behind its keyword are plain, since no comment begins with a keyword
always : (b : Bool) → b ≡ true → (b && true) ≡ true
always b h = and_from b true h refl

-- Names

-- the words of four names, and further ones
names_plain : (names : Names) (ws : List (List ℕ)) → are_names names ≡ true → list_all is_plain ws ≡ true → list_all is_plain (name_words names ++ ws) ≡ true
names_plain names ws h k =
    let last = and_parts (is_name names.ipt && is_name names.ipfw && is_name names.pf) (is_name names.ios) h in
    let third = and_parts (is_name names.ipt && is_name names.ipfw) (is_name names.pf) last.0 in
    let first = and_parts (is_name names.ipt) (is_name names.ipfw) third.0 in
    let ios = (codes "ios=" ++ names.ios) ∷ ws in
    let pf = (codes "pf=" ++ names.pf) ∷ ios in
    let ipfw = (codes "ipfw=" ++ names.ipfw) ∷ pf in
    more_plain (codes "ipt=" ++ names.ipt) ipfw (plain_from 105 (codes "pt=" ++ names.ipt) (name_bytes names.ipt first.0))
    (more_plain (codes "ipfw=" ++ names.ipfw) pf (plain_from 105 (codes "pfw=" ++ names.ipfw) (name_bytes names.ipfw first.1))
    (more_plain (codes "pf=" ++ names.pf) ios (plain_from 112 (codes "f=" ++ names.pf) (name_bytes names.pf third.1))
    (more_plain (codes "ios=" ++ names.ios) ws (plain_from 105 (codes "os=" ++ names.ios) (name_bytes names.ios last.1)) k)))

-- Lines

abbrev is_line : List (List ℕ) → Bool
is_line words = is_writable HashLine (written words)

face_writable : (face : Iface) → (is_name face.name && are_names face.names) ≡ true → is_line (face_line face) ≡ true
face_writable face h =
    let parts = and_parts (is_name face.name) (are_names face.names) h in
    always _ (more_plain face.name (name_words face.names ++ side_word face.side ∷ []) (name_plain face.name parts.0)
    (names_plain face.names (side_word face.side ∷ []) parts.1 (more_plain (side_word face.side) [] (side_plain face.side) refl)))

faces_writable : (faces : List Iface) → list_all (λ face. is_name face.name && are_names face.names) faces ≡ true → are_writable (map face_line faces) ≡ true
faces_writable [] h = refl
faces_writable (face ∷ faces) h =
    let parts = and_parts (is_name face.name && are_names face.names) (list_all (λ face. is_name face.name && are_names face.names) faces) h in
    and_from (is_line (face_line face)) (are_writable (map face_line faces)) (face_writable face parts.0) (faces_writable faces parts.1)

address_writable : Laws → (name : List ℕ) (own : Address) → is_name name ≡ true → is_line (address_line name own) ≡ true
address_writable laws name own h =
    always _ (more_plain name (net_word own.addr own.len ∷ []) (name_plain name h) (more_plain (net_word own.addr own.len) [] (net_plain laws own.addr own.len) refl))

owns_writable : Laws → (name : List ℕ) (owns : List Address) → is_name name ≡ true → are_writable (map (address_line name) owns) ≡ true
owns_writable laws name [] h = refl
owns_writable laws name (own ∷ owns) h =
    and_from (is_line (address_line name own)) (are_writable (map (address_line name) owns)) (address_writable laws name own h) (owns_writable laws name owns h)

addresses_writable : Laws → (faces : List Iface) → list_all (λ face. is_name face.name && are_names face.names) faces ≡ true → are_writable (address_lines faces) ≡ true
addresses_writable laws [] h = refl
addresses_writable laws (face ∷ faces) h =
    let parts = and_parts (is_name face.name && are_names face.names) (list_all (λ face. is_name face.name && are_names face.names) faces) h in
    let spelled = and_parts (is_name face.name) (are_names face.names) parts.0 in
    writable_append (map (address_line face.name) face.addrs) (address_lines faces) (owns_writable laws face.name face.addrs spelled.0) (addresses_writable laws faces parts.1)

route_writable : Laws → (faces : List Iface) (line : RouteLine) → is_name (name_at faces line.face) ≡ true → is_line (route_line faces line) ≡ true
route_writable laws faces line h =
    always _ (more_plain (net_word line.net.addr line.net.len) (name_at faces line.face ∷ []) (net_plain laws line.net.addr line.net.len)
    (more_plain (name_at faces line.face) [] (name_plain (name_at faces line.face) h) refl))

routes_writable : Laws → (faces : List Iface) (routes : List RouteLine) → list_all (λ face. is_name face.name && are_names face.names) faces ≡ true
    → All (IsSoundRoute (length faces)) routes → are_writable (map (route_line faces) routes) ≡ true
routes_writable laws faces [] h k = refl
routes_writable laws faces (line ∷ routes) h k =
    let sound : IsSoundRoute (length faces) line = All-head (IsSoundRoute (length faces)) line routes k in
    and_from (is_line (route_line faces line)) (are_writable (map (route_line faces) routes))
    (route_writable laws faces line (name_at_spelled faces line.face sound.2 sound.3 h))
    (routes_writable laws faces routes h (All-tail (IsSoundRoute (length faces)) line routes k))

forwarding_writable : (chosen : Bool) → is_line (codes "forwarding" ∷ (if chosen then codes "yes" else codes "no") ∷ []) ≡ true
forwarding_writable true = refl
forwarding_writable false = refl

one_pass_writable : (chosen : Bool) → is_line (codes "one_pass" ∷ (if chosen then codes "1" else codes "0") ∷ []) ≡ true
one_pass_writable true = refl
one_pass_writable false = refl

last_writable : (site : Site) → IsOrderly site → are_writable (last_lines site) ≡ true
last_writable site h =
    let name = name_at site.faces site.fallback in
    let spelled = name_at_spelled site.faces site.fallback h.sound.fallback_low h.sound.fallback_high h.names_spelled in
    let loopback : list_all is_plain (name_words site.lo) ≡ true = names_plain site.lo [] h.loopback_spelled refl in
    and_from (is_line (codes "loopback" ∷ name_words site.lo)) _ (always _ loopback)
    (and_from (is_line (codes "default" ∷ name ∷ [])) _ (always _ (more_plain name [] (name_plain name spelled) refl))
    (and_from (is_line (codes "forwarding" ∷ (if site.forwarding then codes "yes" else codes "no") ∷ [])) _ (forwarding_writable site.forwarding)
    (and_from (is_line (codes "one_pass" ∷ (if site.one_pass then codes "1" else codes "0") ∷ [])) true (one_pass_writable site.one_pass) refl)))

pub lines_writable : Laws → (site : Site) → IsOrderly site → list_all (is_writable HashLine) (map written (site_lines site)) ≡ true
lines_writable laws site h =
    let faces = map face_line site.faces in
    let addresses = address_lines site.faces in
    let routes = map (route_line site.faces) site.routes in
    writable_append (faces ++ addresses ++ routes) (last_lines site)
    (writable_append (faces ++ addresses) routes
    (writable_append faces addresses (faces_writable site.faces h.names_spelled) (addresses_writable laws site.faces h.names_spelled))
    (routes_writable laws site.faces site.routes h.names_spelled h.sound.routes_sound))
    (last_writable site h)
