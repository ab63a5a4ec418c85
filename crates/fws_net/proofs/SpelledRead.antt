-- The text of an orderly site is read as that site.
use Rattle.std.proofs.Common.{◌≡◌, ℕ, suc, ◌≤◌, true, nat_le, All, List, [], ◌∷◌, ◌++◌, map, length, refl, ap, sym, ◌∙◌, subst, append_assoc, arith}
use Rattle.std.proofs.lemmas.Bool.{and_from, and_parts, le-leb}
use Rattle.std.proofs.lemmas.List.{length-map}
use Rattle.std.proofs.lemmas.List.Elements.{All-head, All-tail}
use Rattle.std.specs.List.{list_all}
use Rattle.fws_num.specs.declared.comments.Comments.TheVariants.{HashLine}
use Rattle.fws_num.specs.declared.lines.Lines.{Lines}
use Rattle.fws_net.specs.declared.draft.Draft.{Draft}
use Rattle.fws_net.specs.declared.draft.Stage.TheVariants.{Interfaces, Addresses, Routes, Ended}
use Rattle.fws_net.specs.declared.site.Address.{Address}
use Rattle.fws_net.specs.declared.site.Iface.{Iface}
use Rattle.fws_net.specs.declared.site.RouteLine.{RouteLine}
use Rattle.fws_net.specs.declared.site.Site.{Site}
use Rattle.fws_net.specs.Reading.{and_then, located, lines_ended}
use Rattle.fws_net.specs.Routes.{IsSoundFace}
use Rattle.fws_net.specs.SiteLaws.{IsOrderly, SpelledSitesAreRead}
use Rattle.fws_net.specs.SiteLines.{has_addresses, are_addressed, share_name, line_step}
use Rattle.fws_net.specs.SiteSpelling.{name_at, face_line, address_line, address_lines, route_line, last_lines, site_lines, written}
use Rattle.fws_net.specs.SiteText.{empty_site, fresh_draft, finished}
use Rattle.fws_net.proofs.SplitLists.{none_earlier, any_mapped}
use Rattle.fws_net.proofs.SpelledWords.{Laws}
use Rattle.fws_net.proofs.SpelledEntries.{entry_read, name_at_spelled}
use Rattle.fws_net.proofs.SpelledLines.{second, header_taken, first_address, first_route, first_loopback, IsFreeLoopback, loopback_taken, default_taken, forwarding_taken, one_pass_taken}
use Rattle.fws_net.proofs.SpelledFaces.{bare, faces_alone, faces_taken}
use Rattle.fws_net.proofs.SpelledAddresses.{names_apart, addresses_taken}
use Rattle.fws_net.proofs.SpelledRoutes.{faces_routed, routes_taken}
use Rattle.fws_net.proofs.SpelledPlain.{lines_writable}
use Rattle.fws_net.proofs.Taken.{AreTaken, none_taken, next_taken, taken_append, taken_as, taken_read}

-- The last lines

each_addressed : (faces : List Iface) → All IsSoundFace faces → list_all has_addresses faces ≡ true
each_addressed [] h = refl
each_addressed (face ∷ faces) h =
    and_from (has_addresses face) (list_all has_addresses faces) (le-leb 1 (length face.addrs) (All-head IsSoundFace face faces h).0) (each_addressed faces (All-tail IsSoundFace face faces h))

all_addressed : (site : Site) → IsOrderly site → are_addressed site.faces ≡ true
all_addressed site h =
    and_from (nat_le 1 (length site.faces)) (list_all has_addresses site.faces) (le-leb 1 (length site.faces) h.sound.some_faces) (each_addressed site.faces h.sound.faces_sound)

free_loopback : (site : Site) → IsOrderly site → IsFreeLoopback site.lo site.faces
free_loopback site h = record {
  spelled = h.loopback_spelled;
  addressed = all_addressed site h;
  free = any_mapped (λ other. other.names) (λ names. share_name names site.lo) site.faces
      ∙ none_earlier share_name (map (λ face. face.names) site.faces) site.lo [] (map (λ face. face.names) site.faces ++ site.lo ∷ []) refl h.system_names_differ;
}

last_taken : (site : Site) → IsOrderly site → AreTaken (second Routes (faces_routed site.faces site.routes)) (last_lines site) (second Ended site)
last_taken site h =
    let routed = faces_routed site.faces site.routes in
    let named : Site = record routed { lo = site.lo } in
    let led : Site = record named { fallback = site.fallback } in
    let sent : Site = record led { forwarding = site.forwarding } in
    let name = name_at site.faces site.fallback in
    let spelled = name_at_spelled site.faces site.fallback h.sound.fallback_low h.sound.fallback_high h.names_spelled in
    let found = entry_read site.faces site.fallback h.sound.fallback_low h.sound.fallback_high (names_apart site h) in
    next_taken (loopback_taken routed site.lo (free_loopback site h))
    (next_taken (default_taken named name site.fallback spelled found)
    (next_taken (forwarding_taken led site.forwarding)
    (next_taken (one_pass_taken sent site.one_pass) none_taken)))

-- From one place of the text to the next

-- the first line behind the addresses is one of a route or of loopback
behind_addresses_taken : (faces : List Iface) (routes : List RouteLine) (site end_site : Site) (at : Site) → AreTaken (second Routes at) (map (route_line faces) routes ++ last_lines site) (second Ended end_site)
    → AreTaken (second Addresses at) (map (route_line faces) routes ++ last_lines site) (second Ended end_site)
behind_addresses_taken faces [] site end_site at h = taken_as _ _ _ _ _ (first_loopback at site.lo) h
behind_addresses_taken faces (line ∷ routes) site end_site at h = taken_as _ _ _ _ _ (first_route faces at line) h

first_taken : (at : Site) (name : List ℕ) (owns : List Address) (rest : List (List (List ℕ))) (d : Draft) → nat_le 1 (length at.faces) ≡ true → nat_le 1 (length owns) ≡ true
    → AreTaken (second Addresses at) (map (address_line name) owns ++ rest) d → AreTaken (second Interfaces at) (map (address_line name) owns ++ rest) d
first_taken at name [] rest d some h k = absurd cc
first_taken at name (own ∷ owns) rest d some h k = taken_as _ _ _ _ _ (first_address at name own some) k

-- the first line behind the interfaces is one of an address
behind_interfaces_taken : (at : Site) (faces : List Iface) (d : Draft) → nat_le 1 (length at.faces) ≡ true → are_addressed faces ≡ true
    → AreTaken (second Addresses at) (address_lines faces) d → AreTaken (second Interfaces at) (address_lines faces) d
behind_interfaces_taken at [] d some h k = absurd cc
behind_interfaces_taken at (face ∷ faces) d some h k =
    let parts = and_parts (nat_le 1 (length (face ∷ faces))) (list_all has_addresses (face ∷ faces)) h in
    let first = and_parts (has_addresses face) (list_all has_addresses faces) parts.1 in
    first_taken at face.name face.addrs (address_lines faces) d some first.0 k

-- All lines

lines_taken : Laws → (site : Site) → IsOrderly site → AreTaken fresh_draft (site_lines site) (second Ended site)
lines_taken laws site h =
    let bares = map bare site.faces in
    let faces = map face_line site.faces in
    let addresses = address_lines site.faces in
    let routes = map (route_line site.faces) site.routes in
    let counted : length bares ≡ length site.faces = length-map site.faces bare in
    let some : 1 ≤ length site.faces = h.sound.some_faces in
    let some_bare : nat_le 1 (length bares) ≡ true = le-leb 1 (length bares) (omega arith) in
    let by_faces : AreTaken (second Interfaces empty_site) faces (second Interfaces (faces_alone bares)) = faces_taken site h [] site.faces refl [] refl in
    let by_addresses : AreTaken (second Interfaces (faces_alone bares)) addresses (second Addresses (faces_alone site.faces)) =
    behind_interfaces_taken (faces_alone bares) site.faces (second Addresses (faces_alone site.faces)) some_bare (all_addressed site h)
    (addresses_taken laws site h [] site.faces refl bares refl) in
    let by_rest : AreTaken (second Addresses (faces_alone site.faces)) (routes ++ last_lines site) (second Ended site) =
    behind_addresses_taken site.faces site.routes site site (faces_alone site.faces)
    (taken_append (second Routes (faces_alone site.faces)) (second Routes (faces_routed site.faces site.routes)) (second Ended site) routes (last_lines site)
    (routes_taken laws site h [] site.routes refl) (last_taken site h)) in
    let by_all : AreTaken (second Interfaces empty_site) (faces ++ addresses ++ (routes ++ last_lines site)) (second Ended site) =
    taken_append (second Interfaces empty_site) (second Addresses (faces_alone site.faces)) (second Ended site) (faces ++ addresses) (routes ++ last_lines site)
    (taken_append (second Interfaces empty_site) (second Interfaces (faces_alone bares)) (second Addresses (faces_alone site.faces)) faces addresses by_faces by_addresses)
    by_rest in
    next_taken header_taken (subst (λ (lines : List (List (List ℕ))). AreTaken (second Interfaces empty_site) lines (second Ended site))
    (sym (append_assoc (faces ++ addresses) routes (last_lines site))) by_all)

pub spelled_read : Laws → SpelledSitesAreRead
spelled_read laws site h =
    let lines = map written (site_lines site) in
    let writable = lines_writable laws site h in
    ap (λ (read : Lines). lines_ended line_step finished fresh_draft read) (laws.texts HashLine lines writable)
    ∙ ap (λ o. and_then o (λ state. located (suc (length lines)) (finished state))) (taken_read fresh_draft (second Ended site) (site_lines site) (lines_taken laws site h) writable 1)
